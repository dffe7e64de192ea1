-- Demand 3 of a footing row: where the reported N is at least 20,000, what footing_claims says of the row holds, for all operands in
-- range and both directions. Assumes nothing.
use mathlib.Core.Path.{◌≡◌, refl, sym, subst}
use mathlib.Core.Bool.{Bool, true, false}
use mathlib.Core.Logic.{inl}
use Prim.Native.Nat.{ℕ, ◌+◌, ◌*◌, ◌≤◌, ◌<◌}
use native.Mathlib.Omega.{arith}
use lib.Dec.{ltb}
use lib.IntN.{ℤ, pos, nat_abs}
use lib.Signed.{le_z, ◌≤ℤ◌}
use Rattle.exact.specs.Fraction.{Fraction, Proper, whole, ratio, up_f, ◌≤F◌, ◌<F◌, ◌+F◌}
use Rattle.exact.specs.SignedFraction.{ProperS, signed, size, down_s}
use Rattle.soil.specs.declared.Soil.{Soil}
use Rattle.soil.specs.declared.Soil.TheVariants.{Granular, Cohesive}
use Rattle.soil.specs.Taken.{tangent_of, cohesion_of}
use Rattle.soil.proofs.Laws.{tangent_le}
use Rattle.coefficient.specs.declared.Settings.{Settings}
use Rattle.coefficient.proofs.Bounds.{proper as coefficient-proper}
use Rattle.claims.specs.declared.Row.{Row}
use Rattle.claims.specs.Exact.{value}
use Rattle.claims.specs.Claims.{Check, CheckHolds, StrengthHolds, Hold, plain, check}
use Rattle.claims.proofs.Checks.{check_holds}
use Rattle.claims.proofs.Bits.{not_below_ℕ}
use Rattle.claims.proofs.Rounded.{up_not_below, up_excess}
use Rattle.actions.specs.declared.Sign.{Sign}
use Rattle.actions.specs.Action.{action}
use Rattle.actions.proofs.Sums.{proper}
use Rattle.footing.specs.declared.Footing.{Footing}
use Rattle.footing.specs.Flags.{counted_thrust}
use Rattle.footing.specs.Actions.{footing_coefficient, normal, moment_b, moment_l, horizontal}
use Rattle.footing.specs.Rows.{FootingRange, footing_row, eccentricity, effective_area, base_resistance, sliding_resistance, exception, eccentric}
use Rattle.footing.specs.Claimed.{exact_normal, exact_ex, exact_ey, exact_area, exact_base, eccentricity_demand, side_over, eccentricity_check, sliding_amount, sliding_strength, footing_claims}
use Rattle.footing.proofs.Directions.{Force, heavy}
use Rattle.footing.proofs.Eccentricity.{Reported, eccentricities}
use Rattle.footing.proofs.Sliding.{Base, Area, areas, granular, cohesive, enough, sliding}
use Rattle.footing.proofs.Rows.{heavy_of, heavy_is, is_heavy}
use Rattle.footing.proofs.Sides.{bit_4, clear_4, three_hold}

-- ---- the check of one side

side_strength : (side n : ℕ) → 0 < n → StrengthHolds (side_over side n)
side_strength side n h =
    record { proper = h; proper_reported = h; proper_amount = omega arith; not_above = omega arith; short = inl (omega arith) }

eccentricity_holds : (e side : ℕ) (u : Fraction) → side ≤ 20000 → Reported e u → (sensitive excepted : Bool) →
    CheckHolds (eccentricity_check sensitive excepted (eccentricity_demand (pos e) u side) side)
eccentricity_holds e side u l p sensitive excepted = by sensitive excepted
  where
    low : u ≤F whole e
    low = p.low

    high : u ≤F ratio side 2 → whole e <F (u +F whole 2)
    high = p.high side l

    by : (sensitive excepted : Bool) → CheckHolds (eccentricity_check sensitive excepted (eccentricity_demand (pos e) u side) side)
    by true excepted =
        check_holds (eccentricity_check true excepted (eccentricity_demand (pos e) u side) side) p.proper (omega arith) (omega (arith, low)) (λ g h. omega (arith, high g, h))
        (side_strength side 4 (omega arith)) (λ c. omega (arith, c))
    by false true =
        check_holds (eccentricity_check false true (eccentricity_demand (pos e) u side) side) p.proper (omega arith) (omega (arith, low)) (λ g h. omega (arith, high g, h))
        (side_strength side 2 (omega arith)) (λ c. omega (arith, c))
    by false false =
        check_holds (eccentricity_check false false (eccentricity_demand (pos e) u side) side) p.proper (omega arith) (omega (arith, low)) (λ g h. omega (arith, high g, h))
        (side_strength side 3 (omega arith)) (λ c. omega (arith, c))

-- ---- the row

-- the reported N
abbrev force_of : Settings → Footing → Sign → ℕ
force_of s f sign = nat_abs (down_s (normal s f sign))

module _ (s : Settings) (f : Footing) (sign : Sign) (r : FootingRange s f) (h : le_z (pos 20000) (down_s (normal s f sign)) ≡ true) where
  -- V ± a·E has a positive denominator
  action_proper : (v e : ℤ) → ProperS (action sign (footing_coefficient s f) v e)
  action_proper v e =
      proper sign (footing_coefficient s f) v e (coefficient-proper s.foundations f.resistance f.moment s.behaviour)

  force : Force (force_of s f sign) (exact_normal s f sign)
  force = (heavy (normal s f sign) (action_proper f.nv f.ne) h).force

  -- ---- the eccentricities

  abbrev ex : ℕ
  ex = eccentricity (up_f (size (moment_b s f sign))) (force_of s f sign)

  abbrev ey : ℕ
  ey = eccentricity (up_f (size (moment_l s f sign))) (force_of s f sign)

  along_breadth : Reported ex (exact_ex s f sign)
  along_breadth = eccentricities (size (moment_b s f sign)) (exact_normal s f sign) (force_of s f sign) (action_proper f.xv f.xe) force

  along_length : Reported ey (exact_ey s f sign)
  along_length = eccentricities (size (moment_l s f sign)) (exact_normal s f sign) (force_of s f sign) (action_proper f.yv f.ye) force

  -- ---- the sliding resistance

  area : Area (effective_area f ex ey) (4 * (f.breadth + f.length)) (exact_area s f sign)
  area = areas f.breadth f.length ex ey (exact_ex s f sign) (exact_ey s f sign) r.breadth_greatest r.length_greatest along_breadth along_length

  abbrev base : Soil → ℕ
  base soil = base_resistance soil (effective_area f ex ey) (force_of s f sign) f.uplift

  base_strength : (soil : Soil) → Base (base soil) (exact_base s f soil sign) (sliding_amount f soil)
  unfolding base_resistance
  base_strength (Granular x) =
      enough (base (Granular x)) (exact_base s f (Granular x) sign) (whole 4) (sliding_amount f (Granular x)) (omega arith) (omega arith) (omega arith)
      (granular (force_of s f sign) f.uplift (tangent_of x) (exact_normal s f sign) (tangent_le x) force)
  base_strength (Cohesive x) =
      let g = 4 * (f.breadth + f.length) in
      enough (base (Cohesive x)) (exact_base s f (Cohesive x) sign) (ratio (g * cohesion_of x) 1000000 +F whole 3) (sliding_amount f (Cohesive x)) (omega arith) (omega arith) (omega arith)
      (cohesive (force_of s f sign) (effective_area f ex ey) (cohesion_of x) g (exact_normal s f sign) (exact_area s f sign) force area)

  amount_proper : (soil : Soil) → Proper (sliding_amount f soil)
  amount_proper (Granular x) = omega arith
  amount_proper (Cohesive x) = omega arith

  sliding_strength_lem : (soil : Soil) → StrengthHolds (sliding_strength s f soil sign (pos (sliding_resistance f soil ex ey (force_of s f sign))))
  sliding_strength_lem soil = sliding (base soil) (counted_thrust f) (exact_base s f soil sign) (sliding_amount f soil) (amount_proper soil) (base_strength soil)

  abbrev sliding_check : Soil → Check
  sliding_check soil =
      check 8 (plain (pos (up_f (size (horizontal s f sign)))) (value (signed (size (horizontal s f sign)))) (whole 1))
      (sliding_strength s f soil sign (pos (sliding_resistance f soil ex ey (force_of s f sign))))

  sliding_holds : (soil : Soil) → CheckHolds (sliding_check soil)
  sliding_holds soil =
      let x = size (horizontal s f sign) in
      let p = action_proper f.hv f.he in
      check_holds (sliding_check soil) p (omega arith) (up_not_below x p) (λ g. up_excess x p) (sliding_strength_lem soil) (λ c. tt)

  -- ---- all claims

  heavy_holds : (soil : Soil) (sensitive : Bool) → Hold (footing_claims s f soil sensitive sign (heavy_of s f soil sensitive sign))
  unfolding footing_claims
  heavy_holds soil sensitive =
      let a = footing_coefficient s f in
      let excepted = exception s.behaviour f a in
      let u = exact_ex s f sign in
      let w = exact_ey s f sign in
      let d = eccentricity_demand (pos ex) u f.breadth in
      let e = eccentricity_demand (pos ey) w f.length in
      let off = eccentric s.behaviour f a sensitive ex ey in
      let R = sliding_resistance f soil ex ey (force_of s f sign) in
      let H = up_f (size (horizontal s f sign)) in
      three_hold (eccentricity_check sensitive excepted d f.breadth) (eccentricity_check sensitive excepted e f.length) (sliding_check soil) off (ltb R H)
      (bit_4 sensitive excepted d f.breadth) (bit_4 sensitive excepted e f.length) refl
      (clear_4 f ex ey u w (omega (arith, r.breadth_least)) (omega (arith, r.length_least)) sensitive excepted) (not_below_ℕ R H)
      (eccentricity_holds ex f.breadth u r.breadth_greatest along_breadth sensitive excepted)
      (eccentricity_holds ey f.length w r.length_greatest along_length sensitive excepted) (sliding_holds soil)

pub footing_holds : (s : Settings) (f : Footing) (soil : Soil) (sensitive : Bool) (sign : Sign) → FootingRange s f →
    pos 20000 ≤ℤ (footing_row s f soil sensitive sign).word2 →
    Hold (footing_claims s f soil sensitive sign (footing_row s f soil sensitive sign))
footing_holds s f soil sensitive sign r h =
    let e = is_heavy s f soil sensitive sign h in
    subst (λ (row : Row). Hold (footing_claims s f soil sensitive sign row)) (sym (heavy_is s f soil sensitive sign e)) (heavy_holds s f sign r e soil sensitive)
