-- Placed commands as commands with their offsets: what two lists of them leave one after the other, and the list of the file's commands
-- split at one of the placed commands. Assumes nothing.
use mathlib.Core.Path.{◌≡◌, refl, sym, ap, ap₂, ◌∙◌, subst}
use mathlib.Core.Bool.{Bool}
use mathlib.Core.List.{List, [], ◌∷◌, ◌++◌, append_assoc}
use mathlib.Core.Logic.{◌⊎◌, inl, inr}
use Prim.Native.Nat.{ℕ, zero, suc, ◌+◌}
use Rattle.layout.proofs.Numbers.{Bytes}
use Rattle.walls.specs.declared.Storey.{Storey}
use Rattle.format.specs.declared.Command.{Command}
use Rattle.format.specs.declared.Command.TheVariants.{Storey as storey}
use Rattle.blocks.specs.FileCommands.{FileCommand, one, block, storeys_from, commands_from}
use Rattle.context.specs.declared.State.{State}
use Rattle.context.specs.Context.{Context, next}
use Rattle.context.specs.Running.{JointTable, next_state, next_joints}
use Rattle.job.specs.declared.Counts.{Counts}
use Rattle.job.specs.Faults.{after_command}
use Rattle.job.specs.Placed.{Placed, place_each, Entry, entry_at, commands_in, placed_in, placed_all}
use Rattle.job.specs.Walking.{state_through, joints_through}
use Rattle.job.specs.Reached.{located, reached_from}
use Rattle.job.proofs.PlacedCases.{counts_behind, context_behind}
use Rattle.job.proofs.Faultless.{Chained}
use Rattle.job.proofs.Reached.{none_first, reached_after, first_reached}
use Rattle.job.proofs.Through.{AllFit, ids_given}

-- ---- two lists, one after the other

pub located_both : (ps qs : List Placed) → located (ps ++ qs) ≡ located ps ++ located qs
located_both [] qs = refl
located_both (p ∷ ps) qs = ap (λ (cs : List (ℕ × Command)). (p.offset, p.command) ∷ cs) (located_both ps qs)

pub state_both : (room : Bool) (t : State) (cs ds : List (ℕ × Command)) → state_through room t (cs ++ ds) ≡ state_through room (state_through room t cs) ds
state_both room t [] ds = refl
state_both room t ((at, c) ∷ cs) ds = state_both room (next_state room t c) cs ds

pub joints_both : (joints : JointTable) (cs ds : List (ℕ × Command)) → joints_through joints (cs ++ ds) ≡ joints_through (joints_through joints cs) ds
joints_both joints [] ds = refl
joints_both joints ((at, c) ∷ cs) ds = joints_both (next_joints joints c) cs ds

fit_both : (cs ds : List (ℕ × Command)) → AllFit cs → AllFit ds → AllFit (cs ++ ds)
fit_both [] ds f g = g
fit_both ((at, c) ∷ cs) ds (i, f) g = (i, fit_both cs ds f g)

-- ---- placed, and without their contexts

pub located_each : (h : Context) (cs : List (ℕ × Command)) → located (place_each h cs) ≡ cs
located_each h [] = refl
located_each h ((at, c) ∷ cs) = ap (λ (ds : List (ℕ × Command)). (at, c) ∷ ds) (located_each (next h c) cs)

pub placed_again : (h : Context) (ps : List Placed) → Chained h ps → place_each h (located ps) ≡ ps
placed_again h [] k = refl
placed_again h (p ∷ ps) (e, s, k) =
    ap₂ ◌∷◌ (ap (λ (g : Context). record { offset = p.offset; command = p.command; context = g }) (sym e)) (placed_again (next h p.command) ps k)

-- one command of the file in front
pub located_more : (x : Entry) (es : List Entry) → located (placed_all (x ∷ es)) ≡ commands_in x ++ located (placed_all es)
located_more x es = located_both (placed_in x) (placed_all es) ∙ ap (λ (cs : List (ℕ × Command)). cs ++ located (placed_all es)) (located_each x.context (commands_in x))

-- the first of commands
pub chained_front : (h : Context) (ps qs : List Placed) → Chained h (ps ++ qs) → Chained h ps
chained_front h [] qs k = tt
chained_front h (p ∷ ps) qs (e, s, k) = (e, s, chained_front (next h p.command) ps qs k)

pub fit_front : (cs ds : List (ℕ × Command)) → AllFit (cs ++ ds) → AllFit cs
fit_front [] ds f = tt
fit_front ((at, c) ∷ cs) ds (i, f) = (i, fit_front cs ds f)

-- the ids of all commands reached are bytes
pub reached_fit : (n : ℕ) (job : List ℕ) → Bytes job → (at : ℕ) (counts : Counts) (h : Context) → AllFit (located (placed_all (reached_from n job at counts h)))
unfolding reached_from
reached_fit zero job b at counts h = tt
reached_fit (suc n) job b at counts h = by (reached_fit n job b (after_command job at) (counts_behind job at counts) (context_behind job at h)) (reached_from (suc n) job at counts h) refl
  where
    by : AllFit (located (placed_all (reached_after n job at counts h))) → (es : List Entry) → reached_from (suc n) job at counts h ≡ es → AllFit (located (placed_all es))
    by ih [] q = tt
    by ih (e ∷ es) q =
        let (g, s) = first_reached n job at counts h e es q in
        subst (λ (xs : List Entry). AllFit (located (placed_all xs))) s
        (subst AllFit (sym (located_more (entry_at job at h) (reached_after n job at counts h)))
        (fit_both (commands_in (entry_at job at h)) (located (placed_all (reached_after n job at counts h))) (ids_given job at b) ih))

-- ---- split at a placed command

-- it is in the first list, or in the second
in_either : (xs ys earlier : List Placed) (p : Placed) (later : List Placed) → xs ++ ys ≡ earlier ++ p ∷ later →
    ((rest : List Placed) × (xs ≡ earlier ++ p ∷ rest)) ⊎ ((more : List Placed) × (earlier ≡ xs ++ more) × (ys ≡ more ++ p ∷ later))
in_either [] ys earlier p later q = inr (earlier, refl, q)
in_either (x ∷ xs) ys [] p later q = let r : x ≡ p = cc in inl (xs, ap (λ (z : Placed). z ∷ xs) r)
in_either (x ∷ xs) ys (z ∷ earlier) p later q =
    let r : x ≡ z = cc in
    let t : xs ++ ys ≡ earlier ++ p ∷ later = cc in
    by r (in_either xs ys earlier p later t)
  where
    by : x ≡ z → ((rest : List Placed) × (xs ≡ earlier ++ p ∷ rest)) ⊎ ((more : List Placed) × (earlier ≡ xs ++ more) × (ys ≡ more ++ p ∷ later)) →
        ((rest : List Placed) × (x ∷ xs ≡ (z ∷ earlier) ++ p ∷ rest)) ⊎ ((more : List Placed) × (z ∷ earlier ≡ (x ∷ xs) ++ more) × (ys ≡ more ++ p ∷ later))
    by r (inl (rest, e)) = inl (rest, ap₂ ◌∷◌ r e)
    by r (inr (more, e, t)) = inr (more, ap₂ ◌∷◌ (sym r) e, t)

-- the command of the file that gives a placed command, those before it, and what the same command gives before and behind it
pub record Within (es : List Entry) (earlier : List Placed) (p : Placed) : Type 0 where
  pub before : List Entry
  pub entry : Entry
  pub after : List Entry
  pub listed : es ≡ before ++ entry ∷ after
  pub sets : List Placed
  pub rest : List Placed
  pub among : placed_in entry ≡ sets ++ p ∷ rest
  pub earlier_are : earlier ≡ placed_all before ++ sets

pub within : (es : List Entry) (earlier : List Placed) (p : Placed) (later : List Placed) → placed_all es ≡ earlier ++ p ∷ later → Within es earlier p
within [] [] p later q = absurd (none_first q)
within [] (x ∷ earlier) p later q = absurd (none_first q)
within (e ∷ es) earlier p later q = by (in_either (placed_in e) (placed_all es) earlier p later q) (λ more t. within es more p later t)
  where
    by : ((rest : List Placed) × (placed_in e ≡ earlier ++ p ∷ rest)) ⊎ ((more : List Placed) × (earlier ≡ placed_in e ++ more) × (placed_all es ≡ more ++ p ∷ later)) →
        ((more : List Placed) → placed_all es ≡ more ++ p ∷ later → Within es more p) → Within (e ∷ es) earlier p
    by (inl (rest, a)) ih = record { before = []; entry = e; after = es; listed = refl; sets = earlier; rest = rest; among = a; earlier_are = refl }
    by (inr (more, a, t)) ih =
        let w = ih more t in
        record {
          before = e ∷ w.before;
          entry = w.entry;
          after = w.after;
          listed = ap (λ (xs : List Entry). e ∷ xs) w.listed;
          sets = w.sets;
          rest = w.rest;
          among = w.among;
          earlier_are = a ∙ ap (λ (xs : List Placed). placed_in e ++ xs) w.earlier_are ∙ sym (append_assoc (placed_in e) (placed_all w.before) w.sets);
        }

-- the storeys of a block before one of them leave the state
sets_keep : (room : Bool) (t : State) (h : Context) (at : ℕ) (ss : List Storey) (sets : List Placed) (p : Placed) (rest : List Placed) → place_each h (storeys_from at ss) ≡ sets ++ p ∷ rest → state_through room t (located sets) ≡ t
unfolding next_state
sets_keep room t h at ss [] p rest q = refl
sets_keep room t h at [] (x ∷ sets) p rest q = absurd (none_first q)
sets_keep room t h at (s ∷ ss) (x ∷ sets) p rest q =
    let r : storey s ≡ x.command = cc in
    let e : place_each (next h (storey s)) (storeys_from (at + 24) ss) ≡ sets ++ p ∷ rest = cc in
    ap (λ (c : Command). state_through room (next_state room t c) (located sets)) (sym r) ∙ sets_keep room t (next h (storey s)) (at + 24) ss sets p rest e

pub before_kept : (room : Bool) (t : State) (h : Context) (at : ℕ) (c : FileCommand) (sets : List Placed) (p : Placed) (rest : List Placed) → place_each h (commands_from at c) ≡ sets ++ p ∷ rest → state_through room t (located sets) ≡ t
before_kept room t h at (one c) [] p rest q = refl
before_kept room t h at (one c) (x ∷ []) p rest q = let e : [] ≡ p ∷ rest = cc in absurd (none_first e)
before_kept room t h at (one c) (x ∷ y ∷ sets) p rest q = let e : [] ≡ y ∷ sets ++ p ∷ rest = cc in absurd (none_first e)
before_kept room t h at (block ss) sets p rest q = sets_keep room t h (at + 2) ss sets p rest q
