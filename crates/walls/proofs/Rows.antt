-- Demand 3 of the rows of a wall: all that is claimed of a wall base, and of a storey with 1 ≤ J ≤ J0, holds. Assumes nothing.
use mathlib.Core.Path.{◌≡◌, refl, ap}
use mathlib.Core.Bool.{Bool, false}
use mathlib.Core.List.{List, [], ◌∷◌}
use Prim.Native.Nat.{ℕ, ◌*◌, ◌≤◌, ◌<◌, min, max}
use native.Mathlib.Omega.{arith}
use native.Mathlib.Nat.{min-le_left, min-le_right}
use lib.Dec.{leb, ltb}
use lib.IntN.{pos}
use Rattle.exact.specs.Quotient.{up}
use Rattle.exact.specs.Fraction.{Proper, whole, ratio, up_f, ◌*F◌}
use Rattle.exact.specs.SignedFraction.{signed}
use Rattle.cubes.specs.Root.{Least, least_root}
use Rattle.cubes.proofs.Roots.{least_root_within, least_root_least}
use Rattle.cubes.proofs.Figures.{same}
use Rattle.coefficient.proofs.Bounds.{proper}
use Rattle.claims.specs.Exact.{Exact, value, larger_of, root_third}
use Rattle.claims.specs.Claims.{Check, CheckHolds, DemandHolds, Hold, plain, operand, check}
use Rattle.claims.proofs.Checks.{check_holds, demand_holds}
use Rattle.claims.proofs.Rounded.{operand_strength, up_check}
use Rattle.claims.proofs.Bits.{flags, holds, none_raised, one_raised, other_raised, not_below_ℕ}
use Rattle.walls.specs.declared.WallBase.{WallBase}
use Rattle.walls.specs.declared.Storey.{Storey}
use Rattle.walls.specs.Base.{wall_coefficient, exact_base_shear, base_shear, base_moment, exact_base_moment, base_row_from, base_row, base_claims, design_moment}
use Rattle.walls.specs.Storey.{design_shear, storey_row_from, storey_row, exact_storey_shear, exact_storey_moment, shear_amount, moment_amount, storey_claims, StoreyRange}
use Rattle.walls.proofs.Demands.{third_of_up, third_of_whole, third_of_thousand, larger_not_below, larger_excess, two_not_below, two_excess, capped_not_below, capped_excess}

-- ---- the wall base

module _ (q : ℕ) (b : WallBase) where
  -- a·x is a fraction
  proper_product : (x : ℕ) → Proper (wall_coefficient q b *F whole x)
  proper_product x = omega (arith, proper 130 b.resistance b.moment q)

  abbrev base_check : Check
  base_check = check 1 (plain (pos (base_shear q b)) (value (signed (exact_base_shear q b))) (whole 1)) (operand (pos b.strength) b.strength)

  base_check_holds : CheckHolds base_check
  base_check_holds = up_check 1 (exact_base_shear q b) b.strength (proper_product b.shear)

  -- the exact moment before its cap, and the rounded one
  abbrev base_uncapped : Exact
  base_uncapped = larger_of (value (signed (wall_coefficient q b *F whole b.moment))) (value (signed (ratio b.resistance 3)))

  abbrev base_rounded : ℕ
  base_rounded = max (up_f (wall_coefficient q b *F whole b.moment)) (up b.resistance 3)

  base_moment_is : base_moment q b ≡ min base_rounded b.resistance
  base_moment_is = ap (λ (t : ℕ). min (max (up_f (wall_coefficient q b *F whole b.moment)) t) b.resistance) (third_of_thousand b.resistance)

  base_moment_holds : DemandHolds (plain (pos (base_moment q b)) (exact_base_moment q b) (whole 1))
  base_moment_holds =
      let x = wall_coefficient q b *F whole b.moment in
      let y = ratio b.resistance 3 in
      let p = proper_product b.moment in
      let v = min base_rounded b.resistance in
      rw base_moment_is
      (demand_holds (plain (pos v) (exact_base_moment q b) (whole 1)) ((p, omega arith), omega arith) (omega arith)
      (capped_not_below base_uncapped base_rounded b.resistance (two_not_below x y p (omega arith)))
      (λ _. capped_excess base_uncapped v b.resistance (whole 1) (omega arith) (omega arith) (min-le_right base_rounded b.resistance)
      (two_excess x y p (omega arith) v (min-le_left base_rounded b.resistance))))

  -- it is the moment of a storey with J = J0
  pub base_moment_as_storey : (j : ℕ) → 1 ≤ j → design_moment (wall_coefficient q b) (least_root j j) b.moment b.resistance ≡ base_moment q b
  base_moment_as_storey j h = rw (same j h)

  -- the tests of the verdict
  abbrev base_failed : Bool
  base_failed = ltb b.strength (base_shear q b)

  abbrev base_short : Bool
  base_short = leb b.length (4 * b.thickness)

  pub base_holds : Hold (base_claims q b (base_row q b))
  unfolding base_claims base_row base_row_from
  base_holds =
      let ks : List Check = base_check ∷ [] in
      holds (base_claims q b (base_row q b)) (flags base_failed false false false false false false base_short) (ap pos (omega arith))
      (base_moment_holds, tt) (base_check_holds, tt)
      (one_raised 1 base_check [] base_failed refl tt (not_below_ℕ b.strength (base_shear q b)))
      (none_raised 2 ks tt) (none_raised 4 ks tt) (none_raised 8 ks tt) (none_raised 32 ks tt)

-- ---- a storey

module _ (q : ℕ) (b : WallBase) (s : Storey) (range : StoreyRange s) where
  abbrev root : ℕ
  root = least_root s.inertia s.base_inertia

  least : Least s.inertia s.base_inertia root
  least = least_root_least s.inertia s.base_inertia range.inertia_greatest

  positive : 0 < s.base_inertia
  positive = omega (arith, range.inertia_least, range.inertia_greatest)

  abbrev storey_shear : ℕ
  storey_shear = design_shear (wall_coefficient q b) root s.shear (base_shear q b)

  abbrev storey_moment : ℕ
  storey_moment = design_moment (wall_coefficient q b) root s.moment b.resistance

  abbrev shear_check : Check
  shear_check = check 1 (plain (pos storey_shear) (exact_storey_shear q b s) (shear_amount q b)) (operand (pos s.strength) s.strength)

  abbrev moment_check : Check
  moment_check = check 2 (plain (pos storey_moment) (exact_storey_moment q b s) (moment_amount b)) (operand (pos s.resistance) s.resistance)

  shear_check_holds : CheckHolds shear_check
  shear_check_holds =
      let x = wall_coefficient q b *F whole s.shear in
      let w = exact_base_shear q b in
      let px = proper_product q b s.shear in
      let pw = proper_product q b b.shear in
      let t = up (root * base_shear q b) 3000 in
      let third = third_of_up root w (least_root_within s.inertia s.base_inertia) pw in
      check_holds shear_check (px, (positive, pw)) (omega (arith, pw))
      (larger_not_below s.inertia s.base_inertia root x w 2 t least px pw third)
      (λ _. larger_excess s.inertia s.base_inertia root x w 2 t least px pw third storey_shear range.inertia_least (omega arith) (omega arith))
      (operand_strength (pos s.strength)) (λ _. tt)

  -- the exact moment before its cap, and the rounded one
  abbrev uncapped : Exact
  uncapped = larger_of (value (signed (wall_coefficient q b *F whole s.moment))) (root_third s.inertia s.base_inertia (whole b.resistance))

  abbrev rounded : ℕ
  rounded = max (up_f (wall_coefficient q b *F whole s.moment)) (up (root * b.resistance) 3000)

  moment_check_holds : CheckHolds moment_check
  moment_check_holds =
      let x = wall_coefficient q b *F whole s.moment in
      let w = whole b.resistance in
      let px = proper_product q b s.moment in
      let t = up (root * b.resistance) 3000 in
      let third = third_of_whole root b.resistance in
      check_holds moment_check ((px, (positive, omega arith)), omega arith) (omega arith)
      (capped_not_below uncapped rounded b.resistance (larger_not_below s.inertia s.base_inertia root x w 1 t least px (omega arith) third))
      (λ _. capped_excess uncapped storey_moment b.resistance (moment_amount b) (omega arith) (omega arith) (min-le_right rounded b.resistance)
      (larger_excess s.inertia s.base_inertia root x w 1 t least px (omega arith) third storey_moment range.inertia_least (omega arith)
      (min-le_left rounded b.resistance)))
      (operand_strength (pos s.resistance)) (λ _. tt)

  -- the tests of the verdict
  abbrev shear_failed : Bool
  shear_failed = ltb s.strength storey_shear

  abbrev moment_failed : Bool
  moment_failed = ltb s.resistance storey_moment

  pub storey_holds : Hold (storey_claims q b s (storey_row q b s))
  unfolding storey_claims storey_row storey_row_from
  storey_holds =
      let ks : List Check = shear_check ∷ moment_check ∷ [] in
      holds (storey_claims q b s (storey_row q b s)) (flags shear_failed moment_failed false false false false false false) (ap pos (omega arith))
      tt (shear_check_holds, (moment_check_holds, tt))
      (one_raised 1 shear_check (moment_check ∷ []) shear_failed refl tt (not_below_ℕ s.strength storey_shear))
      (other_raised 2 shear_check (moment_check ∷ []) moment_failed (λ e. omega arith)
      (one_raised 2 moment_check [] moment_failed refl tt (not_below_ℕ s.resistance storey_moment)))
      (none_raised 4 ks tt) (none_raised 8 ks tt) (none_raised 32 ks tt)
