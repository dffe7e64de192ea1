-- Laws of the sets of a block: how many there are, that each stands in the file with its operands, and the set at fault. Assumes nothing.
use mathlib.Core.Bool.{Bool, true, false, cond}
use mathlib.Core.List.{List, ◌∷◌}
use mathlib.Core.Path.{◌≡◌, refl, ap, ◌∙◌}
use Prim.Native.Nat.{ℕ, zero, suc, ◌+◌, ◌*◌, ◌/◌, ◌≤◌, ◌<◌}
use native.Mathlib.Nat.{add-zero}
use native.Mathlib.Omega.{arith}
use lib.Dec.{lit<, leb, ltb}
use lib.ListN.{length, take, drop, length-drop}
use lib.Seq.{length-take-le}
use borrow.Author.Tests.{leb-true, ltb-true}
use Rattle.std.specs.Prelude.{Some, None}
use Rattle.quantity.specs.Range.{within}
use Rattle.layout.specs.Forms.{width}
use Rattle.layout.specs.Layouts.{forms_of, forms_in}
use Rattle.layout.specs.Operands.{read_operands}
use Rattle.layout.proofs.OperandsRead.{operand_at}
use Rattle.walls.specs.declared.Storey.{Storey}
use Rattle.format.specs.declared.Command.TheVariants.{Storey as storey}
use Rattle.format.specs.Commands.{operands_of, in_range, first_outside, relation_names, operand_at_fault}
use Rattle.format.proofs.RangeTest.{and_first, and_second}
use Rattle.format.proofs.CommandRead.{storey_within}
use Rattle.format.proofs.Scan.{Scanned}
use Rattle.blocks.specs.Sets.{count_in_range, storey_at, storeys_at, all_in_range, set_at_fault, operand_named}

-- a count in range is one of 1 to 64
pub count_range : (n : ℕ) → count_in_range n ≡ true → (1 ≤ n) × (n ≤ 64)
unfolding count_in_range within
count_range n h = (leb-true 1 n (and_first (leb 1 n) (leb n 64) h), leb-true n 64 (and_second (leb 1 n) (leb n 64) h))

pub storeys_length : (n : ℕ) (job : List ℕ) (at : ℕ) → length (storeys_at n job at) ≡ n
unfolding storeys_at
storeys_length zero job at = refl
storeys_length (suc n) job at = ap suc (storeys_length n job (at + 24))

-- a set is read with its operands, one after the other
pub storey_scanned : (job : List ℕ) (start : ℕ) → Scanned job 7 start (storey (storey_at job start))
unfolding storey_at read_operands forms_of forms_in width
storey_scanned job start =
    record {
      byte_is = refl;
      operands = rw (
        operand_at 7 job start 0 (lit< tt),
        operand_at 7 job start 1 (lit< tt),
        operand_at 7 job start 2 (lit< tt),
        operand_at 7 job start 3 (lit< tt),
        operand_at 7 job start 4 (lit< tt),
        operand_at 7 job start 5 (lit< tt),
      );
    }

-- sets read from their bytes alone
pub storeys_alone : (n : ℕ) (job : List ℕ) (from at w : ℕ) → at + 24 * n ≤ w → storeys_at n (take w (drop from job)) at ≡ storeys_at n job (from + at)
unfolding storeys_at storey_at
storeys_alone zero job from at w h = refl
storeys_alone (suc n) job from at w h =
    let e : from + (at + 24) ≡ from + at + 24 = omega arith in
    rw (storey_within job from at w (omega arith), storeys_alone n job from (at + 24) w (omega arith), e)

-- the sets of a slice of a job are those that stand in the job
pub storeys_of_slice : (job : List ℕ) (at count n : ℕ) → n ≡ 24 * count → at + 24 * count ≤ length job → storeys_at (length (take n (drop at job)) / 24) (take n (drop at job)) 0 ≡ storeys_at count job at
storeys_of_slice job at count n e h =
    let w : length (take n (drop at job)) ≡ n = length-take-le n (drop at job) (rw (length-drop at job) (omega arith)) in
    let q : length (take n (drop at job)) / 24 ≡ count = omega (arith, w) in
    ap (λ (k : ℕ). storeys_at k (take n (drop at job)) 0) q ∙ storeys_alone count job at 0 n (omega arith) ∙ ap (λ (k : ℕ). storeys_at count job k) (add-zero at)

-- the operand at fault of a set is one of its six
pub fault_below : (s : Storey) → operand_at_fault (storey s) < 6
unfolding operand_at_fault relation_names forms_of forms_in
fault_below s = by (ltb first 6) refl
  where
    first : ℕ
    first = first_outside (forms_of 7) (operands_of (storey s))

    by : (b : Bool) → ltb (first_outside (forms_of 7) (operands_of (storey s))) 6 ≡ b → cond b (first_outside (forms_of 7) (operands_of (storey s))) 2 < 6
    by true e = ltb-true (first_outside (forms_of 7) (operands_of (storey s))) 6 e
    by false e = lit< tt

-- ---- the first set is in range, or it is the one at fault

module _ (s : Storey) (ss : List Storey) where
  pub first_in_range : in_range (storey s) ≡ true → (all_in_range (s ∷ ss) ≡ all_in_range ss) × (set_at_fault (s ∷ ss) ≡ 6 + set_at_fault ss)
  unfolding all_in_range set_at_fault
  first_in_range h = (rw h, rw h)

  pub first_at_fault : in_range (storey s) ≡ false → (all_in_range (s ∷ ss) ≡ false) × (set_at_fault (s ∷ ss) ≡ operand_at_fault (storey s))
  unfolding all_in_range set_at_fault
  first_at_fault h = (rw h, rw h)

  pub each_in_range : all_in_range (s ∷ ss) ≡ true → (in_range (storey s) ≡ true) × (all_in_range ss ≡ true)
  unfolding all_in_range
  each_in_range h = (and_first (in_range (storey s)) (all_in_range ss) h, and_second (in_range (storey s)) (all_in_range ss) h)

-- ---- the operand named

-- none is named: each is in range
pub sets_ranged : (ss : List Storey) → None ≡ operand_named ss → all_in_range ss ≡ true
unfolding operand_named
sets_ranged ss e = by (all_in_range ss) refl e
  where
    by : (k : Bool) → all_in_range ss ≡ k → None ≡ cond k None (Some (1 + set_at_fault ss)) → all_in_range ss ≡ true
    by true q h = q
    by false q h = cc

-- one is named: a set is out of range, and it is the operand at fault
pub set_found : (ss : List Storey) (n : ℕ) → Some n ≡ operand_named ss → (all_in_range ss ≡ false) × (1 + set_at_fault ss ≡ n)
unfolding operand_named
set_found ss n e = by (all_in_range ss) refl e
  where
    by : (k : Bool) → all_in_range ss ≡ k → Some n ≡ cond k None (Some (1 + set_at_fault ss)) → (all_in_range ss ≡ false) × (1 + set_at_fault ss ≡ n)
    by true q h = cc
    by false q h = let i : 1 + set_at_fault ss ≡ n = cc in (q, i)
