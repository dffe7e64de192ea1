-- The claims of a beam's row hold for all operands in range. Assumes nothing.
use Prim.Native.Nat.{ℕ, ◌*◌}
use native.Mathlib.Omega.{arith}
use Rattle.exact.specs.Fraction.{whole}
use Rattle.exact.specs.SignedFraction.{ProperS, up_s, down_s}
use Rattle.claims.specs.Claims.{Hold}
use Rattle.members.specs.declared.Beam.{Beam}
use Rattle.members.specs.Beam.{sum_plus, sum_minus, upper_shear, lower_shear, beam_row, beam_claims, BeamRange}
use Rattle.members.proofs.Steps.{smaller_proper}
use Rattle.claims.proofs.UpperLower.{upper_check_lem, lower_check_lem, shears_hold}

pub beam_holds : (q : ℕ) (b : Beam) → BeamRange q b → Hold (beam_claims q b (beam_row q b))
unfolding beam_claims beam_row
beam_holds q b r =
    let x = upper_shear q b in
    let y = lower_shear q b in
    let l = smaller_proper b.length 120 (omega (arith, r.length_least)) (omega arith) in
    let p : ProperS x = omega (arith, l (1200 * sum_plus b) (q * b.shear)) in
    let o : ProperS y = omega (arith, l (1200 * sum_minus b) (q * b.shear)) in
    shears_hold (up_s x) (down_s y) x y (whole 1) b.strength (upper_check_lem 1 x b.strength p) (lower_check_lem 1 y b.strength o)
