-- V ± a·E as the functions of `exact` have it: it fits, it is the action, it is proper, and for operands in range it is at most 5·10⁸ in
-- size. V ± D is the action with E = 1. Assumes nothing.
use mathlib.Core.Path.{◌≡◌, refl, sym, ap, ◌∙◌, subst}
use Prim.Native.Nat.{ℕ, suc, ◌+◌, ◌*◌, ◌^◌, ◌≤◌, ◌<◌}
use native.Mathlib.Omega.{arith}
use native.Mathlib.Nat.{mul-zero, mul-one, mul-le-mul}
use lib.IntN.{ℤ, pos, negsuc, neg_ℤ, ◌*ℤ◌, nat_abs}
use mir.Syntax.{w64}
use mir.Val.{SFits}
use Rattle.exact.specs.Fraction.{Fraction, ratio, up_f}
use Rattle.exact.specs.SignedFraction.{SignedFraction, ProperS, above, below, whole_s, signed, ratio_s, ◌+S◌, ◌-S◌, size, up_s, down_s}
use Rattle.exact.specs.Sums.{SumFits}
use Rattle.exact.proofs.Multiply.{◌·◌}
use Rattle.exact.proofs.Integers.{above_neg, below_neg, nat_abs_law, nat_abs_neg, nat_abs_*ℤ, fits_size}
use Rattle.exact.proofs.Rounding.{up_le_of, up_s_size, down_s_size}
use Rattle.exact.proofs.Rounding.{size_fits as whole_and_part}
use Rattle.coefficient.specs.declared.Quotient.{Quotient}
use Rattle.coefficient.specs.Coefficient.{fraction}
use Rattle.actions.specs.declared.Sign.{Sign}
use Rattle.actions.specs.declared.Sign.TheVariants.{Plus, Minus}
use Rattle.actions.specs.Action.{scaled, action}
use Rattle.actions.specs.Ranges.{turned, PartFits, ActionFits, ActionRange}

-- ---- the sum V + (± a·E)

above_scaled : (n : ℕ) (e : ℤ) → above (pos n *ℤ e) ≡ n * above e
above_scaled n (pos b) = refl
above_scaled n (negsuc b) = above_neg (pos (n * suc b)) ∙ sym (mul-zero n)

below_scaled : (n : ℕ) (e : ℤ) → below (pos n *ℤ e) ≡ n * below e
below_scaled n (pos b) = sym (mul-zero n)
below_scaled n (negsuc b) = below_neg (pos (n * suc b))

pub action_is : (sign : Sign) (n d : ℕ) (v e : ℤ) → whole_s v +S ratio_s (turned sign (pos n *ℤ e)) d ≡ action sign (ratio n d) v e
action_is Plus n d v e = rw (above_scaled n e, below_scaled n e)
action_is Minus n d v e = rw (above_neg (pos n *ℤ e), below_neg (pos n *ℤ e), above_scaled n e, below_scaled n e)

nat_abs_turned : (sign : Sign) (z : ℤ) → nat_abs (turned sign z) ≡ nat_abs z
nat_abs_turned Plus z = refl
nat_abs_turned Minus z = nat_abs_neg z

-- a·E, and its negative
pub part_fits : (a : Quotient) (e : ℤ) → PartFits a e → SFits w64 (pos a.num *ℤ e)
part_fits a e h = fits_size (pos a.num *ℤ e) (omega (arith, nat_abs_*ℤ (pos a.num) e, h.product))

pub negated_fits : (a : Quotient) (e : ℤ) → PartFits a e → SFits w64 (neg_ℤ (pos a.num *ℤ e))
negated_fits a e h =
    let part = pos a.num *ℤ e in
    fits_size (neg_ℤ part) (omega (arith, nat_abs_neg part, nat_abs_*ℤ (pos a.num) e, h.product))

pub sum_fits : (sign : Sign) (a : Quotient) (v e : ℤ) → ActionFits a v e → SumFits v (turned sign (pos a.num *ℤ e)) a.den
sum_fits sign a v e r =
    let part = pos a.num *ℤ e in
    record {
      positive = r.positive;
      den_fits = omega (arith, r.den);
      fits = omega (arith, nat_abs_turned sign part, nat_abs_*ℤ (pos a.num) e, mul-le-mul r.steady r.den, r.part.product);
    }

-- any action that fits, without its sign, fits an i64
pub size_fits : (sign : Sign) (a : Quotient) (v e : ℤ) → ActionFits a v e → up_f (size (action sign (fraction a) v e)) < 2 ^ 63
size_fits sign a v e r =
    subst (λ (x : SignedFraction). up_f (size x) < 2 ^ 63) (action_is sign a.num a.den v e)
    (whole_and_part v (turned sign (pos a.num *ℤ e)) a.den (sum_fits sign a v e r))

-- ---- bounds

-- a coefficient, V and E in the ranges of 01
pub action_fits : (a : Quotient) (v e : ℤ) → ActionRange a v e → ActionFits a v e
action_fits a v e r =
    record {
      part = record { factor = omega (arith, r.coefficient.num); product = omega (arith, mul-le-mul r.coefficient.num r.seismic) };
      positive = r.coefficient.positive;
      den = r.coefficient.den;
      steady = r.steady;
    }

pub proper : (sign : Sign) (a : Fraction) (v e : ℤ) → 0 < a.den → ProperS (action sign a v e)
proper Plus a v e h = omega arith
proper Minus a v e h = omega arith

-- both parts of V ± a·E, for a ≤ 4
parts : (sign : Sign) (a : Quotient) (v e : ℤ) → ActionRange a v e →
    (action sign (fraction a) v e).plus + (action sign (fraction a) v e).minus ≤ 500000000 * (action sign (fraction a) v e).den
parts sign a v e r =
    let cap = mul-le-mul r.coefficient.cap r.seismic in
    let steady = r.steady · a.den in
    by sign
    (sums a.num a.den (above v) (below v) (above e) (below e) (rw (nat_abs_law v) at steady) (rw (nat_abs_law e) at cap))
  where
    sums : (n d v w e f : ℕ) → (v + w) * d ≤ 100000000 * d → n * (e + f) ≤ 4 * d * 100000000 →
        v * d + n * e + (w * d + n * f) ≤ 500000000 * d
    sums n d v w e f h k = omega arith

    by : (sign : Sign) →
        above v * a.den + a.num * above e + (below v * a.den + a.num * below e) ≤ 500000000 * a.den →
        (action sign (fraction a) v e).plus + (action sign (fraction a) v e).minus ≤ 500000000 * (action sign (fraction a) v e).den
    by Plus h = omega arith
    by Minus h = omega arith

pub size_le : (sign : Sign) (a : Quotient) (v e : ℤ) → ActionRange a v e → up_f (size (action sign (fraction a) v e)) ≤ 500000000
size_le sign a v e r =
    let x = action sign (fraction a) v e in
    up_le_of (size x).num x.den 500000000 (proper sign (fraction a) v e r.coefficient.positive) (omega (arith, parts sign a v e r))

pub up_size_le : (sign : Sign) (a : Quotient) (v e : ℤ) → ActionRange a v e → nat_abs (up_s (action sign (fraction a) v e)) ≤ 500000000
up_size_le sign a v e r = up_s_size (action sign (fraction a) v e) 500000000 (parts sign a v e r) (proper sign (fraction a) v e r.coefficient.positive)

pub down_size_le : (sign : Sign) (a : Quotient) (v e : ℤ) → ActionRange a v e → nat_abs (down_s (action sign (fraction a) v e)) ≤ 500000000
down_size_le sign a v e r = down_s_size (action sign (fraction a) v e) 500000000 (parts sign a v e r) (proper sign (fraction a) v e r.coefficient.positive)

-- ---- V ± D

one_part : (d : Fraction) → scaled d (pos 1) ≡ signed d
one_part d = parts_are (d.num * 1) (d.num * 0) (mul-one d.num) (mul-zero d.num)
  where
    parts_are : (p m : ℕ) → p ≡ d.num → m ≡ 0 → ◌≡◌ {A = SignedFraction} (record { plus = p; minus = m; den = d.den }) (signed d)
    parts_are p m e f = rw (e, f)

pub plus_one : (d : Fraction) (v : ℤ) → action Plus d v (pos 1) ≡ whole_s v +S signed d
plus_one d v = ap (λ (x : SignedFraction). whole_s v +S x) (one_part d)

pub minus_one : (d : Fraction) (v : ℤ) → action Minus d v (pos 1) ≡ whole_s v -S signed d
minus_one d v = ap (λ (x : SignedFraction). whole_s v -S x) (one_part d)
