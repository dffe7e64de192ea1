-- A placed command that is no storey is given by a command of the file that is it alone. Assumes nothing.
use mathlib.Core.Path.{◌≡◌, refl, sym, ap, ◌∙◌}
use mathlib.Core.List.{List, [], ◌∷◌, ◌++◌, append-nil}
use Prim.Native.Nat.{ℕ, ◌+◌}
use Rattle.walls.specs.declared.Storey.{Storey}
use Rattle.format.specs.declared.Command.{Command}
use Rattle.format.specs.declared.Command.TheVariants.{Storey as storey}
use Rattle.blocks.specs.FileCommands.{FileCommand, one, block, storeys_from, commands_from}
use Rattle.context.specs.Context.{Context, next}
use Rattle.job.specs.Placed.{Placed, place_each, Entry, placed_in, placed_all}
use Rattle.job.proofs.Reached.{none_first}
use Rattle.job.proofs.Located.{Within}

-- a block places storeys
a_storey : (h : Context) (at : ℕ) (ss : List Storey) (sets : List Placed) (p : Placed) (rest : List Placed) → place_each h (storeys_from at ss) ≡ sets ++ p ∷ rest → (s : Storey) × (p.command ≡ storey s)
a_storey h at [] [] p rest q = absurd (none_first q)
a_storey h at [] (x ∷ sets) p rest q = absurd (none_first q)
a_storey h at (s ∷ ss) [] p rest q = let e : record { offset = at; command = storey s; context = h } ≡ p = cc in (s, sym (ap (λ (z : Placed). z.command) e))
a_storey h at (s ∷ ss) (x ∷ sets) p rest q =
    let e : place_each (next h (storey s)) (storeys_from (at + 24) ss) ≡ sets ++ p ∷ rest = cc in a_storey (next h (storey s)) (at + 24) ss sets p rest e

-- the command of the file that gives it
pub record ByItself (es : List Entry) (earlier : List Placed) (p : Placed) : Type 0 where
  pub before : List Entry
  pub entry : Entry
  pub after : List Entry
  pub place : es ≡ before ++ entry ∷ after
  pub given : entry.given ≡ one p.command
  pub offset : entry.offset ≡ p.offset
  pub earlier_are : earlier ≡ placed_all before

pub by_itself : (es : List Entry) (earlier : List Placed) (p : Placed) → Within es earlier p → ((s : Storey) → p.command ≡ storey s → ⊥) → ByItself es earlier p
by_itself es earlier p w other = by w.entry.given w.sets refl w.among w.earlier_are
  where
    single : (c : Command) (sets rest : List Placed) → w.entry.given ≡ one c → record { offset = w.entry.offset; command = c; context = w.entry.context } ∷ [] ≡ sets ++ p ∷ rest → earlier ≡ placed_all w.before ++ sets → ByItself es earlier p
    single c [] rest g q a =
        let e : record { offset = w.entry.offset; command = c; context = w.entry.context } ≡ p = cc in
        record {
          before = w.before;
          entry = w.entry;
          after = w.after;
          place = w.listed;
          given = g ∙ ap (λ (z : Placed). one z.command) e;
          offset = ap (λ (z : Placed). z.offset) e;
          earlier_are = a ∙ append-nil (placed_all w.before);
        }
    single c (x ∷ sets) rest g q a = absurd (none_behind sets (tail q))
      where
        tail : {x y : Placed} {xs ys : List Placed} → x ∷ xs ≡ y ∷ ys → xs ≡ ys
        tail q = cc

        none_behind : (sets : List Placed) → [] ≡ sets ++ p ∷ rest → ⊥
        none_behind [] q = none_first q
        none_behind (y ∷ sets) q = none_first q

    by : (g : FileCommand) (sets : List Placed) → w.entry.given ≡ g → placed_in w.entry ≡ sets ++ p ∷ w.rest → earlier ≡ placed_all w.before ++ sets → ByItself es earlier p
    by (one c) sets g q a = single c sets w.rest g (sym (ap (λ (z : FileCommand). place_each w.entry.context (commands_from w.entry.offset z)) g) ∙ q) a
    by (block ss) sets g q a =
        let (s, e) = a_storey w.entry.context (w.entry.offset + 2) ss sets p w.rest (sym (ap (λ (z : FileCommand). place_each w.entry.context (commands_from w.entry.offset z)) g) ∙ q) in
        absurd (other s e)
