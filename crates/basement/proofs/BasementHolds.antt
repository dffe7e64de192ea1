-- The claims of both rows of a basement member hold, and both reported values stray from the exact by under one unit, away from safety
-- never; for every V, E and strength, and every coefficient that is a fraction. Assumes nothing.
use Prim.Native.Nat.{ℕ}
use native.Mathlib.Omega.{arith}
use lib.IntN.{ℤ, pos, sub_ℕ}
use Rattle.exact.specs.Fraction.{Fraction, Proper, whole}
use Rattle.exact.specs.SignedFraction.{ProperS, up_s, down_s}
use Rattle.exact.proofs.Integers.{sub_ℕ_law}
use Rattle.exact.proofs.Rounding.{up_ℤ_le, up_ℤ_lt, down_ℤ_le, down_ℤ_lt}
use Rattle.claims.specs.Claims.{Hold}
use Rattle.actions.specs.declared.Sign.TheVariants.{Plus, Minus}
use Rattle.actions.proofs.Sums.{proper}
use Rattle.basement.specs.declared.Basement.{Basement}
use Rattle.basement.specs.Basement.{upper_value, lower_value, basement_row, basement_shear_row, basement_moment_row, basement_claims, basement_shear_claims, basement_moment_claims, Strays}
use Rattle.claims.proofs.UpperLower.{shears_hold, moments_hold, upper_check_lem, lower_check_lem}

module _ (a : Fraction) (p : Proper a) where
  module _ (v : ℤ) (e s : ℕ) where
    upper_proper : ProperS (upper_value a v e)
    upper_proper = proper Plus a v (pos e) p

    lower_proper : ProperS (lower_value a v e)
    lower_proper = proper Minus a v (pos e) p

    shears_held : Hold (basement_claims 1 a v e s (basement_row 1 a v e s))
    unfolding basement_claims basement_row
    shears_held =
        let x = upper_value a v e in
        let y = lower_value a v e in
        shears_hold (up_s x) (down_s y) x y (whole 1) s (upper_check_lem 1 x s upper_proper) (lower_check_lem 1 y s lower_proper)

    moments_held : Hold (basement_claims 2 a v e s (basement_row 2 a v e s))
    unfolding basement_claims basement_row
    moments_held =
        let x = upper_value a v e in
        let y = lower_value a v e in
        moments_hold (up_s x) (down_s y) x y (whole 1) s (upper_check_lem 2 x s upper_proper) (lower_check_lem 2 y s lower_proper)

    pub strays : (bit : ℕ) → Strays a v e (basement_row bit a v e s)
    unfolding basement_row
    strays bit =
        let x = upper_value a v e in
        let y = lower_value a v e in
        let u = sub_ℕ x.plus x.minus in
        let l = sub_ℕ y.plus y.minus in
        record {
          upper_safe = omega (arith, up_ℤ_le u x.den upper_proper, sub_ℕ_law x.plus x.minus);
          upper_under_one = omega (arith, up_ℤ_lt u x.den upper_proper, sub_ℕ_law x.plus x.minus);
          lower_safe = omega (arith, down_ℤ_le l y.den lower_proper, sub_ℕ_law y.plus y.minus);
          lower_under_one = omega (arith, down_ℤ_lt l y.den lower_proper, sub_ℕ_law y.plus y.minus);
        }

  pub basement_shear_holds : (m : Basement) → Hold (basement_shear_claims a m (basement_shear_row a m))
  basement_shear_holds m = shears_held m.nonseismic_shear m.seismic_shear m.shear_strength

  pub basement_moment_holds : (m : Basement) → Hold (basement_moment_claims a m (basement_moment_row a m))
  basement_moment_holds m = moments_held m.nonseismic_moment m.seismic_moment m.moment_strength
