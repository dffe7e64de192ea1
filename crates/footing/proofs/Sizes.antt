-- How large the words of a footing row are, for all operands in range and both directions. Assumes nothing.
use mathlib.Core.Path.{◌≡◌, refl, sym, subst}
use mathlib.Core.Bool.{Bool, true, false}
use Prim.Native.Nat.{◌≤◌}
use native.Mathlib.Omega.{arith}
use lib.Dec.{ltb}
use lib.IntN.{ℤ, pos, nat_abs}
use lib.Signed.{le_z}
use Rattle.exact.specs.Fraction.{up_f}
use Rattle.exact.specs.SignedFraction.{size, down_s}
use Rattle.soil.specs.declared.Soil.{Soil}
use Rattle.coefficient.specs.declared.Settings.{Settings}
use Rattle.coefficient.proofs.Bounds.{proper as coefficient-proper}
use Rattle.claims.specs.Sizes.{Sized}
use Rattle.claims.proofs.Bits.{flag_le}
use Rattle.claims.proofs.Sizes.{sized}
use Rattle.actions.specs.declared.Sign.{Sign}
use Rattle.actions.proofs.Sums.{proper}
use Rattle.footing.specs.declared.Footing.{Footing}
use Rattle.footing.specs.Actions.{footing_coefficient, normal, moment_b, moment_l, horizontal}
use Rattle.footing.specs.Rows.{eccentricity, sliding_resistance, eccentric, light_row, footing_row, FootingRange}
use Rattle.footing.proofs.Directions.{size_bound, down_bound, heavy, eccentricity_le}
use Rattle.footing.proofs.Sliding.{resistance_le}
use Rattle.footing.proofs.Rows.{heavy_of, heavy_is, light_is}

module _ (s : Settings) (f : Footing) (sign : Sign) (r : FootingRange s f) where
  -- N
  abbrev force : ℤ
  force = down_s (normal s f sign)

  force_le : nat_abs force ≤ 500000000
  force_le = down_bound s f r sign f.nv f.ne r.nv r.ne

  -- X, Y and H
  moment_b_le : up_f (size (moment_b s f sign)) ≤ 500000000
  moment_b_le = size_bound s f r sign f.xv f.xe r.xv r.xe

  moment_l_le : up_f (size (moment_l s f sign)) ≤ 500000000
  moment_l_le = size_bound s f r sign f.yv f.ye r.yv r.ye

  horizontal_le : up_f (size (horizontal s f sign)) ≤ 500000000
  horizontal_le = size_bound s f r sign f.hv f.he r.hv r.he

  light_sized : Sized (light_row force (up_f (size (horizontal s f sign))))
  light_sized =
      sized force (pos 0) (pos 0) (pos (up_f (size (horizontal s f sign)))) (pos 0) 16
      (omega (arith, force_le)) (omega arith) (omega arith) (omega (arith, horizontal_le)) (omega arith) (omega arith)

  heavy_sized : (soil : Soil) (sensitive : Bool) → le_z (pos 20000) force ≡ true → Sized (heavy_of s f soil sensitive sign)
  heavy_sized soil sensitive t =
      let n = nat_abs force in
      let positive = coefficient-proper s.foundations f.resistance f.moment s.behaviour in
      let least = (heavy (normal s f sign) (proper sign (footing_coefficient s f) f.nv f.ne positive) t).force.least in
      let ex = eccentricity (up_f (size (moment_b s f sign))) n in
      let ey = eccentricity (up_f (size (moment_l s f sign))) n in
      let h = up_f (size (horizontal s f sign)) in
      let R = sliding_resistance f soil ex ey n in
      sized (pos n) (pos ex) (pos ey) (pos h) (pos R) _
      (omega (arith, force_le)) (omega (arith, eccentricity_le _ n least moment_b_le)) (omega (arith, eccentricity_le _ n least moment_l_le)) (omega (arith, horizontal_le))
      (omega (arith, resistance_le f soil ex ey n force_le r.passive))
      (omega (arith, flag_le 4 (eccentric s.behaviour f (footing_coefficient s f) sensitive ex ey), flag_le 8 (ltb R h)))

  pub footing_sized : (soil : Soil) (sensitive : Bool) → Sized (footing_row s f soil sensitive sign)
  footing_sized soil sensitive = by (le_z (pos 20000) force) refl
    where
      by : (t : Bool) → le_z (pos 20000) force ≡ t → Sized (footing_row s f soil sensitive sign)
      by true e = subst Sized (sym (heavy_is s f soil sensitive sign e)) (heavy_sized soil sensitive e)
      by false e = subst Sized (sym (light_is s f soil sensitive sign e)) light_sized
