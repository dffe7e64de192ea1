-- Demands of 01's walls as exact values: the larger of a fraction and of c·w/3, the larger of two fractions, and either capped.
-- Each rounded value is not below the exact one, and its excess stays under the amount. Assumes nothing.
use mathlib.Core.Logic.{◌⊎◌, inl, inr}
use mathlib.Core.Path.{◌≡◌}
use Prim.Native.Nat.{ℕ, zero, suc, ◌+◌, ◌-◌, ◌*◌, ◌≤◌, ◌<◌, min, max}
use native.Mathlib.Omega.{arith}
use native.Mathlib.Nat.{mul-le-mul_right, le-max_left, le-max_right, max-eq_left, max-eq_right, min-eq_left, min-eq_right}
use lib.IntN.{pos}
use Rattle.exact.specs.Quotient.{up}
use Rattle.exact.specs.Fraction.{Fraction, Proper, whole, ratio, up_f, ◌+F◌, ◌/F◌}
use Rattle.exact.specs.SignedFraction.{SignedFraction, ProperS, signed, whole_s, ◌≤S◌, ◌-S◌}
use Rattle.exact.proofs.Multiply.{◌·◌}
use Rattle.exact.proofs.Rounding.{up_le, up_lt, up_is}
use Rattle.cubes.specs.Root.{Least}
use Rattle.cubes.proofs.Roots.{least_positive}
use Rattle.claims.specs.Exact.{Exact, value, root_third, larger_of, smaller_of, at_least}
use Rattle.claims.proofs.Orders.{at_least_mono, ≤_or}
use Rattle.claims.proofs.Rounded.{up_not_below, up_excess}
use Rattle.walls.proofs.Roots.{root_not_below, root_excess}

lt_le : {a b : ℕ} → a < b → a ≤ b
lt_le h = omega arith

-- ---- k·w/3000, rounded up, of a w that may be rounded up before

-- t is at least k·w/3000, above it by at most e, and 0 where w is
pub record Third (k : ℕ) (w : Fraction) (e t : ℕ) : Type 0 where
  pub low : k * w.num ≤ 3000 * t * w.den
  pub high : 3000 * t * w.den ≤ k * w.num + 3000 * e * w.den
  pub nonzero : 0 < t → 0 < w.num

-- a product above 0 has a factor above 0
factor : (k x : ℕ) → 0 < k * x → 0 < x
factor k zero h = omega arith
factor k (suc x) h = omega arith

-- w rounded up first
pub third_of_up : (k : ℕ) (w : Fraction) → k ≤ 1000 → Proper w → Third k w 2 (up (k * up_f w) 3000)
third_of_up k w h p =
    record {
      low = omega (arith, up_le w.num w.den p · k, up_le (k * up_f w) 3000 (omega arith) · w.den);
      high = omega (arith, up_lt w.num w.den p · k, up_lt (k * up_f w) 3000 (omega arith) · w.den, h · w.den);
      nonzero =
          λ t.
          let x : 0 < up_f w = factor k (up_f w) (omega (arith, up_lt (k * up_f w) 3000 (omega arith))) in
          omega (arith, x · w.den, up_lt w.num w.den p);
    }

-- a whole w
pub third_of_whole : (k n : ℕ) → Third k (whole n) 1 (up (k * n) 3000)
third_of_whole k n =
    record {
      low = omega (arith, up_le (k * n) 3000 (omega arith));
      high = omega (arith, up_lt (k * n) 3000 (omega arith));
      nonzero = λ t. factor k n (omega (arith, up_lt (k * n) 3000 (omega arith)));
    }

-- at k = 1000 it is w/3
pub third_of_thousand : (n : ℕ) → up (1000 * n) 3000 ≡ up n 3
third_of_thousand n =
    up_is n 3 (up (1000 * n) 3000) (omega arith) (omega (arith, up_le (1000 * n) 3000 (omega arith))) (omega (arith, up_lt (1000 * n) 3000 (omega arith)))

-- ---- the larger of x and c·w/3

module _ (j j0 k : ℕ) (x w : Fraction) (e t : ℕ) (least : Least j j0 k) (px : Proper x) (pw : Proper w) (third : Third k w e t) where
  pub larger_not_below : at_least (larger_of (value (signed x)) (root_third j j0 w)) (whole_s (pos (max (up_f x) t)))
  larger_not_below =
      let m = max (up_f x) t in (
        at_least_mono (value (signed x)) (whole_s (pos (up_f x))) (whole_s (pos m)) (omega arith) (omega (arith, le-max_left (up_f x) t)) (up_not_below x px),
        root_not_below j j0 k w least m (omega (arith, third.low, le-max_right (up_f x) t · (3000 * w.den))),
      )

  -- the value less the amount
  abbrev lowered : ℕ → SignedFraction
  lowered v = whole_s (pos v) -S signed (w /F 3000 +F whole e)

  -- where x governs: at most x up, less 1
  under_first : (v : ℕ) → 1 ≤ e → v ≤ up_f x → lowered v ≤S (whole_s (pos (up_f x)) -S signed (whole 1))
  under_first v one h = omega (arith, h · w.den, one · w.den)

  -- where the root governs: at most (k − 1)·w/3000
  under_second : (v : ℕ) → 1 ≤ k → v ≤ t → lowered v ≤S signed (ratio ((k - 1) * w.num) (3000 * w.den))
  under_second v one h =
      omega (arith, numbers (k - 1) w.num w.den v e (omega (arith, h · (3000 * w.den), third.high, mul-le-mul_right w.num (before k one))))
    where
      before : (k : ℕ) → 1 ≤ k → k ≤ (k - 1) + 1
      before k one = omega arith

      numbers : (i n d v e : ℕ) → 3000 * v * d ≤ (i + 1) * n + 3000 * e * d → v * (d * 3000) * (3000 * d) ≤ i * n * (d * 3000) + (n + e * (d * 3000)) * (3000 * d)
      numbers i n d v e h = omega (arith, h · (3000 * d))

  pub larger_excess : (v : ℕ) → 1 ≤ j → 1 ≤ e → v ≤ max (up_f x) t → ¬ at_least (larger_of (value (signed x)) (root_third j j0 w)) (lowered v)
  larger_excess v one some h (a, b) = by (≤_or t (up_f x))
    where
      proper : ProperS (lowered v)
      proper = omega (arith, pw)

      by : (t ≤ up_f x) ⊎ (up_f x < t) → ⊥
      by (inl l) =
          up_excess x px
          (at_least_mono (value (signed x)) (lowered v) (whole_s (pos (up_f x)) -S signed (whole 1)) proper (under_first v some (omega (arith, max-eq_left l))) a)
      by (inr l) =
          root_excess j j0 k w least one (third.nonzero (omega arith)) pw
          (at_least_mono (root_third j j0 w) (lowered v) (signed (ratio ((k - 1) * w.num) (3000 * w.den))) proper
          (under_second v (least_positive one least) (omega (arith, max-eq_right (lt_le l)))) b)

-- ---- the larger of two fractions, within 1

module _ (x y : Fraction) (px : Proper x) (py : Proper y) where
  pub two_not_below : at_least (larger_of (value (signed x)) (value (signed y))) (whole_s (pos (max (up_f x) (up_f y))))
  two_not_below =
      let m = max (up_f x) (up_f y) in (
        at_least_mono (value (signed x)) (whole_s (pos (up_f x))) (whole_s (pos m)) (omega arith) (omega (arith, le-max_left (up_f x) (up_f y))) (up_not_below x px),
        at_least_mono (value (signed y)) (whole_s (pos (up_f y))) (whole_s (pos m)) (omega arith) (omega (arith, le-max_right (up_f x) (up_f y))) (up_not_below y py),
      )

  pub two_excess : (v : ℕ) → v ≤ max (up_f x) (up_f y) → ¬ at_least (larger_of (value (signed x)) (value (signed y))) (whole_s (pos v) -S signed (whole 1))
  two_excess v h (a, b) = by (≤_or (up_f y) (up_f x))
    where
      under : (z : Fraction) → Proper z → v ≤ up_f z → ¬ at_least (value (signed z)) (whole_s (pos v) -S signed (whole 1))
      under z p l k =
          up_excess z p
          (at_least_mono (value (signed z)) (whole_s (pos v) -S signed (whole 1)) (whole_s (pos (up_f z)) -S signed (whole 1)) (omega arith) (omega arith) k)

      by : (up_f y ≤ up_f x) ⊎ (up_f x < up_f y) → ⊥
      by (inl l) = under x px (omega (arith, max-eq_left l)) a
      by (inr l) = under y py (omega (arith, max-eq_right (lt_le l))) b

-- ---- at most m

pub capped_not_below : (e : Exact) (v m : ℕ) → at_least e (whole_s (pos v)) → at_least (smaller_of e (value (whole_s (pos m)))) (whole_s (pos (min v m)))
capped_not_below e v m h = by (≤_or v m)
  where
    by : (v ≤ m) ⊎ (m < v) → at_least (smaller_of e (value (whole_s (pos m)))) (whole_s (pos (min v m)))
    by (inl l) = inl (rw (min-eq_left l) h)
    by (inr l) = inr (rw (min-eq_right (lt_le l)) (omega arith))

pub capped_excess : (e : Exact) (v m : ℕ) (amount : Fraction) → Proper amount → 0 < amount.num → v ≤ m →
    ¬ at_least e (whole_s (pos v) -S signed amount) → ¬ at_least (smaller_of e (value (whole_s (pos m)))) (whole_s (pos v) -S signed amount)
capped_excess e v m amount p n l h (inl a) = h a
capped_excess e v m amount p n l h (inr a) = omega (arith, l · amount.den)
