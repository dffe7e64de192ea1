-- What demand 3 claims of a storey holds for every storey of every block of an accepted job. 02, No. 7. Assumes nothing.
use mathlib.Core.Path.{◌≡◌, refl, sym, ap, ◌∙◌, subst}
use mathlib.Core.List.{List, [], ◌∷◌, ◌++◌, append_assoc}
use Rattle.std.specs.Prelude.{Some}
use Prim.Native.Nat.{ℕ, ◌+◌, ◌*◌, ◌≤◌}
use native.Mathlib.Omega.{arith}
use borrow.Author.Tests.{le-leb}
use lib.IntN.{ℤ}
use lib.ListN.{length, drop, length-append}
use Rattle.coefficient.specs.declared.Settings.{Settings}
use Rattle.walls.specs.declared.WallBase.{WallBase}
use Rattle.walls.specs.declared.Storey.{Storey}
use Rattle.walls.specs.Storey.{storey_row, storey_claims}
use Rattle.claims.specs.Claims.{Hold}
use Rattle.format.specs.declared.Command.TheVariants.{Storey as storey}
use Rattle.layout.proofs.Numbers.{Bytes}
use Rattle.blocks.specs.FileCommands.{FileCommand, storeys_from, commands_from}
use Rattle.context.specs.Context.{Context, next, absent}
use Rattle.context.proofs.Shown.{present}
use Rattle.rows.specs.Rows.{rows_of, rows_with, words}
use Rattle.rows.specs.Writing.{joined}
use Rattle.job.specs.Placed.{Placed, place_each, placed_in, placed_all, Job, accepted, placed, rows_at, all_rows}
use Rattle.job.proofs.PlacedCases.{placed_of_lem}
use Rattle.job.proofs.Faultless.{Standing, settings_there}
use Rattle.job.proofs.AcceptedLaws.{accepted_each}
use Rattle.job.proofs.AlreadyMet.{rows_of_both, placed_both}
use Rattle.capacity.specs.Calls.{rows_from, rows_after}
use Rattle.capacity.specs.DemandThree.{claims_of, claims_with, row_read, RowsHold, AllHold, JobHolds, DemandThree}
use Rattle.capacity.specs.Singly.{BlocksHeld}
use Rattle.capacity.proofs.Whole.{demand_three}

-- ---- one of the placed commands

-- the claims of one hold of its rows, behind those of the commands before it
held_at : (words : List ℤ) (n : ℕ) (earlier : List Placed) (p : Placed) (later : List Placed) → AllHold words n (earlier ++ p ∷ later) → RowsHold words (n + length (all_rows earlier)) (claims_of p)
unfolding AllHold all_rows
held_at words n [] p later (c, r, a) = let z : n + 0 ≡ n = omega arith in rw z r
held_at words n (x ∷ earlier) p later (c, r, a) =
    let z : n + length (rows_at x) + length (all_rows earlier) ≡ n + length (rows_at x ++ all_rows earlier) = omega (arith, length-append (rows_at x) (all_rows earlier)) in
    subst (λ (k : ℕ). RowsHold words k (claims_of p)) z (held_at words (n + length (rows_at x)) earlier p later a)

-- all of them hold of the words that run writes
all_held : (job : List ℕ) → Bytes job → (ps : List Placed) → placed job ≡ accepted ps → (m : List ℤ) → 8 * length (all_rows ps) ≤ length m → AllHold (rows_after job m) 0 ps
unfolding rows_after DemandThree
all_held job b ps e m l =
    let words : rows_from (placed job) m ≡ joined (all_rows ps) ++ drop (8 * length (all_rows ps)) m = ap (λ (j : Job). rows_from j m) e ∙ rw (le-leb (8 * length (all_rows ps)) (length m) l) in
    subst (λ (ws : List ℤ). AllHold ws 0 ps) (sym words) (subst (JobHolds (joined (all_rows ps) ++ drop (8 * length (all_rows ps)) m)) e (demand_three job b ps e (drop (8 * length (all_rows ps)) m)))

-- ---- a storey of a block

-- one of them, as it is placed
abbrev pub placed_set : Context → ℕ → Storey → Placed
placed_set h at s = record { offset = at; command = storey s; context = h }

abbrev pub placed_sets : Context → ℕ → List Storey → List Placed
placed_sets h at ss = place_each h (storeys_from at ss)

-- it is placed behind those before it, with the block's context
pub sets_split : (h : Context) (at : ℕ) (first : List Storey) (s : Storey) (rest : List Storey) →
    placed_sets h at (first ++ s ∷ rest) ≡ placed_sets h at first ++ placed_set h (at + 24 * length first) s ∷ placed_sets h (at + 24 * length first + 24) rest
unfolding next
sets_split h at [] s rest = let z : at ≡ at + 24 * 0 = omega arith in ap (λ (k : ℕ). placed_set h k s ∷ placed_sets h (k + 24) rest) z
sets_split h at (t ∷ first) s rest =
    let z : at + 24 + 24 * length first ≡ at + 24 * length (t ∷ first) = omega arith in
    ap (λ (xs : List Placed). placed_set h at t ∷ xs)
    (sets_split h (at + 24) first s rest ∙ ap (λ (k : ℕ). placed_sets h (at + 24) first ++ placed_set h k s ∷ placed_sets h (k + 24) rest) z)

-- where settings and a base are given it has one row
module _ (h : Context) (settings : Settings) (base : WallBase) (e : h.settings ≡ Some settings) (w : h.wall ≡ Some base) where
  pub set_row : (at : ℕ) (s : Storey) → rows_at (placed_set h at s) ≡ words at 7 (storey_row settings.behaviour base s) ∷ []
  unfolding rows_of rows_with
  set_row at s = rw (e, w)

  pub sets_many : (at : ℕ) (ss : List Storey) → length (all_rows (placed_sets h at ss)) ≡ length ss
  unfolding next all_rows
  sets_many at [] = refl
  sets_many at (s ∷ ss) = length-append (rows_at (placed_set h at s)) (all_rows (placed_sets h (at + 24) ss)) ∙ omega (arith, ap length (set_row at s), sets_many (at + 24) ss)

-- its claims
storey_claim : (words : List ℤ) (n at : ℕ) (h : Context) (s : Storey) (settings : Settings) (base : WallBase) → h.settings ≡ Some settings → h.wall ≡ Some base →
    RowsHold words n (claims_of (record { offset = at; command = storey s; context = h })) → Hold (storey_claims settings.behaviour base s (row_read words n))
unfolding claims_of claims_with RowsHold
storey_claim words n at h s settings base e w r = (rw (e, w) at r).0

pub blocks_held : (job : List ℕ) → Bytes job → BlocksHeld job
unfolding absent
blocks_held job b es e before x after q first s rest g m l =
    let h = x.context in
    let at = x.offset + 2 in
    let is-placed = placed_of_lem job es e in
    let all : placed_all es ≡ placed_all before ++ (placed_in x ++ placed_all after) = ap placed_all q ∙ placed_both before (x ∷ after) in
    let own : placed_in x ≡ place_each h (storeys_from at (first ++ s ∷ rest)) = ap (λ (c : FileCommand). place_each h (commands_from x.offset c)) g in
    let first_of = head first s rest in
    let standing : Standing (record { offset = at; command = storey first_of.0; context = h }) =
    (accepted_each job (placed_all es) is-placed (placed_all before) (record { offset = at; command = storey first_of.0; context = h }) (place_each (next h (storey first_of.0)) (storeys_from (at + 24) first_of.1) ++ placed_all after)
    (all ∙ ap (λ (ps : List Placed). placed_all before ++ (ps ++ placed_all after)) (own ∙ ap (λ (ss : List Storey). place_each h (storeys_from at ss)) first_of.2))).1 in
    let (settings, by_settings) = present h.settings (settings_there 7 refl h.settings standing.settings) in
    let (base, by-base) = present h.wall standing.present in
    let sets = placed_sets h at first in
    let later = placed_sets h (at + 24 * length first + 24) rest in
    let p = placed_set h (at + 24 * length first) s in
    let earlier = placed_all before ++ sets in
    let place : placed_all es ≡ earlier ++ p ∷ (later ++ placed_all after) =
    all ∙ ap (λ (ps : List Placed). placed_all before ++ (ps ++ placed_all after)) (own ∙ sets_split h at first s rest)
    ∙ ap (λ (ps : List Placed). placed_all before ++ ps) (append_assoc sets (p ∷ later) (placed_all after))
    ∙ sym (append_assoc (placed_all before) sets (p ∷ (later ++ placed_all after))) in
    let n : 0 + length (all_rows earlier) ≡ length (all_rows (placed_all before)) + length first =
    omega (arith, ap length (rows_of_both (placed_all before) sets) ∙ length-append (all_rows (placed_all before)) (all_rows sets), sets_many h settings base by_settings by-base at first) in
    let held = held_at (rows_after job m) 0 earlier p (later ++ placed_all after) (subst (AllHold (rows_after job m) 0) place (all_held job b (placed_all es) is-placed m l)) in
    record {
      settings = settings;
      base = base;
      settings_hold = by_settings;
      base_holds = by-base;
      claims = storey_claim (rows_after job m) (length (all_rows (placed_all before)) + length first) (at + 24 * length first) h s settings base by_settings by-base
          (subst (λ (j : ℕ). RowsHold (rows_after job m) j (claims_of p)) n held);
    }
  where
    -- the first storey of a list that has one, and the others
    head : (first : List Storey) (s : Storey) (rest : List Storey) → (t : Storey) × (others : List Storey) × (first ++ s ∷ rest ≡ t ∷ others)
    head [] s rest = (s, rest, refl)
    head (t ∷ first) s rest = (t, first ++ s ∷ rest, refl)
