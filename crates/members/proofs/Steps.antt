-- What the steps of the functions come to, over plain numbers: bounds, signed numbers read back, and rows put together. Assumes nothing.
use mathlib.Core.Path.{◌≡◌, sym, subst}
use Prim.Native.Nat.{ℕ, ◌+◌, ◌*◌, ◌≤◌, ◌<◌}
use native.Mathlib.Omega.{arith}
use native.Mathlib.Nat.{mul-le-mul, mul-le-mul_left}
use lib.IntN.{ℤ, pos, neg_ℤ, nat_abs, ◌-ℤ◌}
use mir.Syntax.{w64}
use mir.Val.{SFits, to_z, of_z}
use mir.Facts.{to_z-of_z}
use Rattle.exact.specs.Quotient.{up}
use Rattle.exact.specs.Fraction.{Fraction, Proper, ratio, whole, smaller, up_f, ◌*F◌}
use Rattle.exact.proofs.Integers.{fits_size, nat_abs_+ℤ, nat_abs_neg}
use Rattle.exact.proofs.Rounding.{up_le_of}
use Rattle.actions.specs.Ranges.{ActionFits}
use Rattle.coefficient.specs.declared.Quotient.{Quotient}
use Rattle.coefficient.specs.declared.Settings.{Settings}
use Rattle.coefficient.specs.Coefficient.{fraction, coefficient_of}
use Rattle.coefficient.proofs.Bounds.{smaller_either, smaller_≤_second, product_le}
use Rattle.members.specs.declared.Joint.{Joint}
use Rattle.members.specs.declared.Hingeless.{Hingeless}
use Rattle.members.specs.Hingeless.{end_moment, rounded_shear, HingelessRange}
use Rattle.members.specs.Steps.{ShearRange, ShearFits}

-- ---- signed numbers

-- a size of up to 10¹²
pub fits64 : (z : ℤ) → nat_abs z ≤ 1000000000000 → SFits w64 z
fits64 z h = fits_size z (omega arith)

pub read64 : (z : ℤ) → nat_abs z ≤ 1000000000000 → to_z w64 (of_z w64 z) ≡ z
read64 z h = to_z-of_z (fits64 z h)

pub nat_abs_minus : (x y : ℤ) → nat_abs (x -ℤ y) ≤ nat_abs x + nat_abs y
nat_abs_minus x y = omega (arith, nat_abs_+ℤ x (neg_ℤ y), nat_abs_neg y)

-- ---- the shear of column and beam

-- the smaller of two fractions with positive denominators
pub smaller_proper : (l d : ℕ) → 0 < l → 0 < d → (n m : ℕ) → Proper (smaller (ratio n l) (ratio m d))
smaller_proper l d h g n m = smaller_either (ratio n l) (ratio m d) Proper h g

pub smaller_fits : {k S l q VE d : ℕ} (D : Quotient) → fraction D ≡ smaller (ratio (k * S) l) (ratio (q * VE) d) → ShearRange k S l q VE d → ShearFits D
smaller_fits {k} {S} {l} {q} {VE} {d} D e r =
    let fits : Fraction → Type 0 = λ x. ShearFits (record { num = x.num; den = x.den }) in
    subst fits (sym e)
    (smaller_either (ratio (k * S) l) (ratio (q * VE) d) fits
    (record { positive = r.length_least; num = omega (arith, mul-le-mul r.factor r.sum); den = r.length })
    (record { positive = r.divisor_least; num = omega (arith, mul-le-mul r.behaviour r.shear); den = omega (arith, r.divisor) }))

-- rounded up it is at most the numerator of the second
pub up_at_most_second : (x y : Fraction) → Proper (smaller x y) → Proper y → up_f (smaller x y) ≤ y.num
up_at_most_second x y p h =
    let s = smaller x y in
    up_le_of s.num s.den y.num p (omega (arith, smaller_≤_second x y, mul-le-mul_left s.num h))

-- ---- V0 plus or minus D: an action with D for a and 1 for E

pub shear_fits : (V0 : ℤ) (D : Quotient) → nat_abs V0 ≤ 100000000 → ShearFits D → ActionFits D V0 (pos 1)
shear_fits V0 D h b =
    record {
      part = record { factor = b.num; product = omega (arith, b.num) };
      positive = b.positive;
      den = omega (arith, b.den);
      steady = h;
    }

-- ---- the moments and the shear of a member without hinges

pub end_at_most : (g R E q x : ℕ) → q ≤ 400 → x ≤ 100000000 → up_f (coefficient_of g R E q *F whole x) ≤ 400000000
end_at_most g R E q x c h = omega (arith, product_le g R E q x c)

pub shear_at_most : (s : Settings) (j1 j2 : Joint) (m : Hingeless) → HingelessRange s j1 j2 m → rounded_shear s j1 j2 m ≤ 1600000000
shear_at_most s j1 j2 m r =
    let m1 = end_moment s j1 m.moment1 in
    let m2 = end_moment s j2 m.moment2 in
    at_most m1 m2 m.length (end_at_most _ _ _ _ _ r.behaviour r.moment1) (end_at_most _ _ _ _ _ r.behaviour r.moment2) r.length_least
  where
    at_most : (m1 m2 l : ℕ) → m1 ≤ 400000000 → m2 ≤ 400000000 → 500 ≤ l → up (1000 * (m1 + m2)) l ≤ 1600000000
    at_most m1 m2 l a b h = up_le_of (1000 * (m1 + m2)) l 1600000000 (omega arith) (omega arith)
