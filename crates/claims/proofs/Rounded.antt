-- Rounded values as demands: rounded up a fraction is not below itself and in excess by under 1; a lower value, rounded down,
-- counts by its negative. A strength that stands in the row as the operand has it is its own exact one. Assumes nothing.
use mathlib.Core.Logic.{inl}
use Prim.Native.Nat.{ℕ}
use native.Mathlib.Omega.{arith}
use lib.IntN.{ℤ, pos, neg_ℤ, sub_ℕ}
use Rattle.exact.specs.Fraction.{Fraction, Proper, whole, up_f}
use Rattle.exact.specs.SignedFraction.{SignedFraction, ProperS, whole_s, signed, neg_s, ◌-S◌, up_s, down_s}
use Rattle.exact.proofs.Integers.{sub_ℕ_law, above_neg, below_neg}
use Rattle.exact.proofs.Rounding.{up_le, up_lt, up_ℤ_le, up_ℤ_lt, down_ℤ_le, down_ℤ_lt}
use Rattle.claims.specs.Exact.{value, at_least}
use Rattle.claims.specs.Claims.{StrengthHolds, CheckHolds, plain, operand, check}
use Rattle.claims.proofs.Checks.{check_holds}

pub up_not_below : (x : Fraction) → Proper x → at_least (value (signed x)) (whole_s (pos (up_f x)))
up_not_below x p = omega (arith, up_le x.num x.den p)

pub up_excess : (x : Fraction) → Proper x → ¬ at_least (value (signed x)) (whole_s (pos (up_f x)) -S signed (whole 1))
up_excess x p h = omega (arith, up_lt x.num x.den p)

pub up_s_not_below : (x : SignedFraction) → ProperS x → at_least (value x) (whole_s (up_s x))
up_s_not_below x p = omega (arith, up_ℤ_le (sub_ℕ x.plus x.minus) x.den p, sub_ℕ_law x.plus x.minus)

pub up_s_excess : (x : SignedFraction) → ProperS x → ¬ at_least (value x) (whole_s (up_s x) -S signed (whole 1))
up_s_excess x p h = omega (arith, up_ℤ_lt (sub_ℕ x.plus x.minus) x.den p, sub_ℕ_law x.plus x.minus)

pub down_s_not_below : (x : SignedFraction) → ProperS x → at_least (value (neg_s x)) (whole_s (neg_ℤ (down_s x)))
down_s_not_below x p =
    rw (above_neg (down_s x), below_neg (down_s x))
    (omega (arith, down_ℤ_le (sub_ℕ x.plus x.minus) x.den p, sub_ℕ_law x.plus x.minus))

pub down_s_excess : (x : SignedFraction) → ProperS x → ¬ at_least (value (neg_s x)) (whole_s (neg_ℤ (down_s x)) -S signed (whole 1))
down_s_excess x p =
    rw (above_neg (down_s x), below_neg (down_s x))
    (λ h. omega (arith, down_ℤ_lt (sub_ℕ x.plus x.minus) x.den p, sub_ℕ_law x.plus x.minus))

-- a strength that the row has from its operand
pub operand_strength : (z : ℤ) → StrengthHolds (record { reported = whole_s z; exact = whole_s z; amount = whole 0 })
operand_strength z =
    record { proper = omega arith; proper_reported = omega arith; proper_amount = omega arith; not_above = omega arith; short = inl (omega arith) }

-- a fraction rounded up, against such a strength
pub up_check : (bit : ℕ) (x : Fraction) (s : ℕ) → Proper x → CheckHolds (check bit (plain (pos (up_f x)) (value (signed x)) (whole 1)) (operand (pos s) s))
up_check bit x s p =
    check_holds (check bit (plain (pos (up_f x)) (value (signed x)) (whole 1)) (operand (pos s) s)) p (omega arith) (up_not_below x p) (λ g. up_excess x p)
    (operand_strength (pos s)) (λ k. tt)
