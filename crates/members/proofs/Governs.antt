-- What words 5 and 6 of a column and a beam tell: the laws of specs/Governs.antt, for all operands. Assumes nothing.
use mathlib.Core.Path.{◌≡◌, sym, ap, ◌∙◌}
use Prim.Native.Nat.{ℕ, ◌*◌, ◌≤◌}
use native.Mathlib.Omega.{arith}
use lib.IntN.{ℤ, pos}
use Rattle.exact.specs.Fraction.{Fraction, ratio, lt_f, smaller, up_f, ◌<F◌, ◌≈F◌}
use Rattle.exact.proofs.Multiply.{◌·◌}
use Rattle.coefficient.proofs.Governs.{smaller_tells, governs_below, below_governs, governed_value}
use Rattle.claims.specs.Verdict.{flag}
use Rattle.claims.specs.Told.{Tells}
use Rattle.claims.proofs.Told.{tells, is_one, one_of, zero_of}
use Rattle.members.specs.declared.Column.{Column}
use Rattle.members.specs.declared.Beam.{Beam}
use Rattle.members.specs.Column.{larger_sum, column_term, column_cap, column_row}
use Rattle.members.specs.Beam.{sum_plus, sum_minus, beam_term, beam_cap, beam_row}
use Rattle.members.specs.Governs.{ColumnTells, upper_of, lower_of, BeamTells}

-- ---- a term and its cap, rounded in any way

module _ (rounded : Fraction → ℤ) (term cap : Fraction) where
  word_tells : Tells (pos (flag 1 (lt_f cap term))) (cap <F term) (rounded (smaller term cap)) (rounded cap) (rounded term)
  word_tells =
      let t = smaller_tells term cap in
      tells (lt_f cap term) (cap <F term) (rounded (smaller term cap)) (rounded cap) (rounded term) t.strictly.0 t.strictly.1
      (λ e. ap rounded (t.set e)) (λ e. ap rounded (t.clear e))

  word_equal : term ≈F cap → pos (flag 1 (lt_f cap term)) ≡ pos 0
  word_equal e = zero_of (lt_f cap term) ((smaller_tells term cap).equal e)

-- where the cap governs, a greater numerator over the same denominator gives the same, and the cap governs there
word_held : (rounded : Fraction → ℤ) (n m l : ℕ) (cap : Fraction) → n ≤ m → pos (flag 1 (lt_f cap (ratio n l))) ≡ pos 1 →
    (rounded (smaller (ratio m l) cap) ≡ rounded (smaller (ratio n l) cap)) × (pos (flag 1 (lt_f cap (ratio m l))) ≡ pos 1)
word_held rounded n m l cap h w =
    let e = is_one (lt_f cap (ratio n l)) w in
    let t = below_governs (ratio m l) cap (omega (arith, governs_below (ratio n l) cap e, h · cap.den)) in
    (ap rounded (governed_value (ratio m l) cap t ∙ sym (governed_value (ratio n l) cap e)), one_of (lt_f cap (ratio m l)) t)

-- ---- column

pub column_tells : (q : ℕ) (c : Column) → ColumnTells q c
unfolding column_row
column_tells q c =
    let up : Fraction → ℤ = λ x. pos (up_f x) in
    record {
      tells = word_tells up (column_term c) (column_cap q c);
      equal = word_equal up (column_term c) (column_cap q c);
      held = λ e d w. rw (w.length, w.shear) (word_held up (1400 * larger_sum c) (1400 * larger_sum d) c.length (column_cap q c) (omega (arith, w.sum)) e);
      exact = smaller_tells (column_term c) (column_cap q c);
    }

-- four resistances that are each at least as great make a larger S that is
pub each_greater : (c d : Column) → c.plus1 ≤ d.plus1 → c.plus2 ≤ d.plus2 → c.minus1 ≤ d.minus1 → c.minus2 ≤ d.minus2 → larger_sum c ≤ larger_sum d
each_greater c d p1 p2 m1 m2 = omega arith

-- ---- beam

pub beam_tells : (q : ℕ) (b : Beam) → BeamTells q b
unfolding beam_row
beam_tells q b =
    let plus = beam_term (sum_plus b) b in
    let minus = beam_term (sum_minus b) b in
    let cap = beam_cap q b in
    record {
      plus = word_tells (upper_of b) plus cap;
      minus = word_tells (lower_of b) minus cap;
      plus_equal = word_equal (upper_of b) plus cap;
      minus_equal = word_equal (lower_of b) minus cap;
      plus_held = λ e d w h.
          rw (w.length, w.nonseismic, w.shear) (word_held (upper_of b) (1200 * sum_plus b) (1200 * sum_plus d) b.length cap (omega (arith, h)) e);
      minus_held = λ e d w h.
          rw (w.length, w.nonseismic, w.shear) (word_held (lower_of b) (1200 * sum_minus b) (1200 * sum_minus d) b.length cap (omega (arith, h)) e);
      exact = λ sum. smaller_tells (beam_term sum b) cap;
    }
