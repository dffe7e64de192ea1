-- 01, "Capacity coefficient": a = g·R/(100·E), at most q/100; E = 0 gives q/100. An exact fraction.
use Rattle.std.specs.Prelude.{Bool, cond, ◌||◌, ℕ, ◌*◌, ◌^◌, ◌≤◌, ◌<◌, eqb}
use Rattle.exact.specs.Fraction.{Fraction, ratio, lt_f, smaller}
use Rattle.coefficient.specs.declared.Quotient.{Quotient}

abbrev pub fraction : Quotient → Fraction
fraction x = ratio x.num x.den

unfoldable pub coefficient_of : (g R E q : ℕ) → Fraction
coefficient_of g R E q = cond (eqb E 0) (ratio q 100) (smaller (ratio (g * R) (100 * E)) (ratio q 100))

-- 02, No. 5: whether the cap q/100 was strictly the smaller, compared as exact fractions; E = 0 counts as yes
unfoldable pub cap_governs : (g R E q : ℕ) → Bool
cap_governs g R E q = eqb E 0 || lt_f (ratio q 100) (ratio (g * R) (100 * E))

-- ---- what the functions ask of their operands, all met by the ranges of 01

-- both cross products fit 64 bits
pub record Comparable (x y : Quotient) : Type 0 where
  pub left : x.num * y.den < 2 ^ 64
  pub right : y.num * x.den < 2 ^ 64

pub record CoefficientRange (g R E q : ℕ) : Type 0 where
  pub overstrength : g ≤ 200
  pub resistance : R ≤ 100000000
  pub seismic : E ≤ 100000000
  pub behaviour : q ≤ 400

pub record ProductFits (a : Quotient) (x : ℕ) : Type 0 where
  pub fits : a.num * x < 2 ^ 64
  pub positive : 0 < a.den

-- a coefficient of operands in range: q is at most 400, so it is at most 4
pub record Capped (a : Quotient) : Type 0 where
  pub positive : 0 < a.den
  pub num : a.num ≤ 20000000000
  pub den : a.den ≤ 10000000000
  pub cap : a.num ≤ 4 * a.den
