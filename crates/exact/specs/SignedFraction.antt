-- Signed fractions: (plus − minus) / den over the naturals, so that a difference is a true one (0 − 1 is −1).
-- The order is by cross-multiplication; a proper fraction has a positive denominator.
use Rattle.std.specs.Prelude.{ℕ, zero, suc, ◌+◌, ◌-◌, ◌*◌, ◌≤◌, ◌<◌, ℤ, pos, negsuc}
use Rattle.std.proofs.Math.IntN.{sub_ℕ}
use Rattle.exact.specs.Quotient.{up_ℤ, down_ℤ}
use Rattle.exact.specs.Fraction.{Fraction}

pub record SignedFraction : Type 0 where
  pub plus : ℕ
  pub minus : ℕ
  pub den : ℕ

abbrev pub ProperS : SignedFraction → Type 0
ProperS x = 0 < x.den

infix 50 ◌≤S◌ ◌<S◌
infixl 60 ◌+S◌ ◌-S◌
-- a whole number is its positive part less its negative part
abbrev pub above : ℤ → ℕ
above (pos n) = n
above (negsuc n) = zero

abbrev pub below : ℤ → ℕ
below (pos n) = zero
below (negsuc n) = suc n

abbrev pub whole_s : ℤ → SignedFraction
whole_s z = record { plus = above z; minus = below z; den = 1 }

abbrev pub signed : Fraction → SignedFraction
signed x = record { plus = x.num; minus = 0; den = x.den }

abbrev pub ◌≤S◌ : SignedFraction → SignedFraction → Type 0
x ≤S y = x.plus * y.den + y.minus * x.den ≤ y.plus * x.den + x.minus * y.den

abbrev pub ◌<S◌ : SignedFraction → SignedFraction → Type 0
x <S y = x.plus * y.den + y.minus * x.den < y.plus * x.den + x.minus * y.den

abbrev pub neg_s : SignedFraction → SignedFraction
neg_s x = record { plus = x.minus; minus = x.plus; den = x.den }

abbrev pub ◌+S◌ : SignedFraction → SignedFraction → SignedFraction
x +S y = record { plus = x.plus * y.den + y.plus * x.den; minus = x.minus * y.den + y.minus * x.den; den = x.den * y.den }

abbrev pub ◌-S◌ : SignedFraction → SignedFraction → SignedFraction
x -S y = x +S neg_s y

-- the size of a signed fraction, without its sign
abbrev pub size : SignedFraction → Fraction
size x = record { num = (x.plus - x.minus) + (x.minus - x.plus); den = x.den }

-- the fraction, and 0 where it is negative
abbrev pub positive : SignedFraction → Fraction
positive x = record { num = x.plus - x.minus; den = x.den }

-- n/d
abbrev pub ratio_s : ℤ → ℕ → SignedFraction
ratio_s n d = record { plus = above n; minus = below n; den = d }

abbrev pub times_s : ℕ → SignedFraction → SignedFraction
times_s n x = record { plus = n * x.plus; minus = n * x.minus; den = x.den }

-- the cube, which keeps the sign: (p − m)³ = (p³ + 3·p·m²) − (3·p²·m + m³)
abbrev pub cube_s : SignedFraction → SignedFraction
cube_s x =
    record {
      plus = x.plus * x.plus * x.plus + 3 * (x.plus * x.minus * x.minus);
      minus = 3 * (x.plus * x.plus * x.minus) + x.minus * x.minus * x.minus;
      den = x.den * x.den * x.den;
    }

-- rounded up, and down
abbrev pub up_s : SignedFraction → ℤ
up_s x = up_ℤ (sub_ℕ x.plus x.minus) x.den

abbrev pub down_s : SignedFraction → ℤ
down_s x = down_ℤ (sub_ℕ x.plus x.minus) x.den
