-- The words of a storey in what `run` writes: words 2 to 7 come from the running values of the latest wall and the storey's operands
-- alone, so two storeys of any two jobs that have these in common have the same. 02, No. 4. Assumes nothing.
use mathlib.Core.Path.{◌≡◌, sym, ap, ◌∙◌, subst}
use mathlib.Core.List.{List, [], ◌∷◌, ◌++◌}
use Prim.Native.Nat.{ℕ, ◌*◌, ◌≤◌, ◌<◌}
use lib.IntN.{ℤ}
use lib.ListN.{length}
use Rattle.std.specs.Prelude.{Some, option_map, IfSome}
use Rattle.exact.specs.Fraction.{Fraction}
use Rattle.coefficient.proofs.Bounds.{proper}
use Rattle.walls.specs.declared.Storey.{Storey}
use Rattle.walls.specs.Running.{SameValues}
use Rattle.walls.proofs.Running.{same_storey_row}
use Rattle.format.specs.declared.Command.TheVariants.{Storey as storey}
use Rattle.layout.proofs.Numbers.{Bytes}
use Rattle.job.specs.Placed.{Placed, placed_all, accepted, placed, all_rows}
use Rattle.rows.specs.Writing.{running_storey_row}
use Rattle.job.specs.LatestWall.{wall_after, AtStorey}
use Rattle.job.proofs.PlacedCases.{listed_of}
use Rattle.job.proofs.Reached.{reached_accepted}
use Rattle.job.proofs.LatestWall.{at_every_storey}
use Rattle.capacity.specs.Calls.{rows_after}
use Rattle.capacity.specs.DemandThree.{row_read}
use Rattle.capacity.proofs.RowRead.{first_row}

-- ---- the words of a storey

-- a storey of an accepted job, given by itself or in a block, with the commands before it
pub record StoreyOf (job : List ℕ) (earlier : List Placed) (s : Storey) : Type 0 where
  pub bytes : Bytes job
  pub commands : List Placed
  pub is_accepted : placed job ≡ accepted commands
  pub this : Placed
  pub later : List Placed
  pub place : commands ≡ earlier ++ this ∷ later
  pub is_storey : this.command ≡ storey s

module _ (job : List ℕ) (earlier : List Placed) (s : Storey) (t : StoreyOf job earlier s) where
  at_storey : AtStorey job earlier t.this s
  at_storey =
      let (es, l, q) = listed_of job t.commands t.is_accepted in
      at_every_storey job t.bytes earlier t.this t.later (ap placed_all (reached_accepted job es l) ∙ q ∙ t.place) s t.is_storey

  row_is : (m : List ℤ) → 8 * length (all_rows t.commands) ≤ length m → row_read (rows_after job m) (length (all_rows earlier)) ≡ running_storey_row at_storey.carries.wall s
  row_is m l = first_row job t.commands t.is_accepted earlier t.this t.later t.place m l 7 (running_storey_row at_storey.carries.wall s) [] at_storey.row

  -- words 2 to 7, from the running values and the operands
  pub storey_words : (m : List ℤ) → 8 * length (all_rows t.commands) ≤ length m → option_map (λ w. running_storey_row w s) (wall_after earlier) ≡ Some (row_read (rows_after job m) (length (all_rows earlier)))
  storey_words m l = ap (option_map (λ w. running_storey_row w s)) at_storey.carries.running_values ∙ ap Some (sym (row_is m l))

  positive : 0 < at_storey.carries.wall.coefficient.den
  positive =
      let k = at_storey.carries in
      let b = at_storey.base in
      subst (λ (a : Fraction). 0 < a.den) (sym k.coefficient) (proper 130 b.resistance b.moment k.settings.behaviour)

-- two storeys with the same operands, in two jobs or in one: where the walk carries the same values at both, the words are the same,
-- whatever walls, settings and other commands came before
pub same_storey_words : (s : Storey) (job other : List ℕ) (earlier before : List Placed) (t : StoreyOf job earlier s) (u : StoreyOf other before s) →
    IfSome (wall_after earlier) (λ w. IfSome (wall_after before) (λ v. SameValues w v)) →
    (m k : List ℤ) → 8 * length (all_rows t.commands) ≤ length m → 8 * length (all_rows u.commands) ≤ length k →
    row_read (rows_after job m) (length (all_rows earlier)) ≡ row_read (rows_after other k) (length (all_rows before))
same_storey_words s job other earlier before t u same m k l n =
    let w = (at_storey job earlier s t).carries in
    let v = (at_storey other before s u).carries in
    let q : SameValues w.wall v.wall = rw (w.running_values, v.running_values) at same in
    row_is job earlier s t m l ∙ same_storey_row w.wall v.wall (positive job earlier s t) (positive other before s u) q s ∙ sym (row_is other before s u k n)
