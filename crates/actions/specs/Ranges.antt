-- What the functions of an action ask of their operands, and the sign of a direction. Assumes nothing.
use Rattle.std.specs.Prelude.{◌*◌, ◌≤◌, ◌<◌, ℤ, neg_ℤ, nat_abs}
use Rattle.coefficient.specs.declared.Quotient.{Quotient}
use Rattle.coefficient.specs.Coefficient.{Capped}
use Rattle.actions.specs.declared.Sign.{Sign}
use Rattle.actions.specs.declared.Sign.TheVariants.{Plus, Minus}

-- a·E over the denominator of a fits
pub record PartFits (a : Quotient) (e : ℤ) : Type 0 where
  pub factor : a.num ≤ 280000000000
  pub product : a.num * nat_abs e ≤ 2000000000000000000

-- and so does V ± a·E
pub record ActionFits (a : Quotient) (v e : ℤ) : Type 0 where
  pub part : PartFits a e
  pub positive : 0 < a.den
  pub den : a.den ≤ 10000000000
  pub steady : nat_abs v ≤ 100000000

-- met by a coefficient and by V and E in the ranges of 01
pub record ActionRange (a : Quotient) (v e : ℤ) : Type 0 where
  pub coefficient : Capped a
  pub steady : nat_abs v ≤ 100000000
  pub seismic : nat_abs e ≤ 100000000

-- z with a sign
abbrev pub turned : Sign → ℤ → ℤ
turned Plus z = z
turned Minus z = neg_ℤ z
