-- Fractions over the naturals, never reduced and never rounded. The order is by cross-multiplication, so it says
-- something only of proper fractions, whose denominators are positive: each exact value has a proof that it is one.
use Rattle.std.specs.Prelude.{◌≡◌, Bool, cond, ℕ, ◌+◌, ◌-◌, ◌*◌, ◌≤◌, ◌<◌, leb, ltb}
use Rattle.exact.specs.Quotient.{up, down}

pub record Fraction : Type 0 where
  pub num : ℕ
  pub den : ℕ

abbrev pub Proper : Fraction → Type 0
Proper x = 0 < x.den

infix 50 ◌≤F◌ ◌<F◌ ◌≈F◌
infixl 60 ◌+F◌ ◌∸F◌
infixl 70 ◌*F◌ ◌/F◌ ◌÷F◌
abbrev pub whole : ℕ → Fraction
whole n = record { num = n; den = 1 }

abbrev pub ◌≤F◌ : Fraction → Fraction → Type 0
x ≤F y = x.num * y.den ≤ y.num * x.den

abbrev pub ◌<F◌ : Fraction → Fraction → Type 0
x <F y = x.num * y.den < y.num * x.den

-- the same number, whatever the terms
abbrev pub ◌≈F◌ : Fraction → Fraction → Type 0
x ≈F y = x.num * y.den ≡ y.num * x.den

abbrev pub ◌+F◌ : Fraction → Fraction → Fraction
x +F y = record { num = x.num * y.den + y.num * x.den; den = x.den * y.den }

-- the difference, and 0 where that is negative
abbrev pub ◌∸F◌ : Fraction → Fraction → Fraction
x ∸F y = record { num = x.num * y.den - y.num * x.den; den = x.den * y.den }

abbrev pub ◌*F◌ : Fraction → Fraction → Fraction
x *F y = record { num = x.num * y.num; den = x.den * y.den }

-- a quotient by a whole number
abbrev pub ◌/F◌ : Fraction → ℕ → Fraction
x /F d = record { num = x.num; den = x.den * d }

-- the first is at most the second
abbrev pub le_f : Fraction → Fraction → Bool
le_f x y = leb (x.num * y.den) (y.num * x.den)

-- the first is below the second
abbrev pub lt_f : Fraction → Fraction → Bool
lt_f x y = ltb (x.num * y.den) (y.num * x.den)

unfoldable pub smaller : Fraction → Fraction → Fraction
smaller x y = cond (le_f x y) x y

unfoldable pub larger : Fraction → Fraction → Fraction
larger x y = cond (le_f x y) y x

-- n/d
abbrev pub ratio : ℕ → ℕ → Fraction
ratio n d = record { num = n; den = d }

abbrev pub times : ℕ → Fraction → Fraction
times n x = record { num = n * x.num; den = x.den }

abbrev pub cube : Fraction → Fraction
cube x = record { num = x.num * x.num * x.num; den = x.den * x.den * x.den }

-- rounded up, and down
abbrev pub up_f : Fraction → ℕ
up_f x = up x.num x.den

abbrev pub down_f : Fraction → ℕ
down_f x = down x.num x.den

-- a quotient of two fractions; it is proper where the second is not 0
abbrev pub ◌÷F◌ : Fraction → Fraction → Fraction
x ÷F y = record { num = x.num * y.den; den = x.den * y.num }
