-- What the steps that members share ask of their operands, so that each number on the way fits 64 bits.
use Rattle.std.specs.Prelude.{ℕ, ◌≤◌, ◌<◌}
use Rattle.coefficient.specs.declared.Quotient.{Quotient}

-- the smaller of k·S/length and q·VE/d
pub record ShearRange (k S l q VE d : ℕ) : Type 0 where
  pub factor : k ≤ 1400
  pub sum : S ≤ 200000000
  pub length_least : 0 < l
  pub length : l ≤ 100000
  pub behaviour : q ≤ 400
  pub shear : VE ≤ 100000000
  pub divisor_least : 0 < d
  pub divisor : d ≤ 120

-- what it is then
pub record ShearFits (D : Quotient) : Type 0 where
  pub positive : 0 < D.den
  pub num : D.num ≤ 280000000000
  pub den : D.den ≤ 100000
