-- How large the words of the rows of a wall are, for all operands in range. Assumes nothing.
use Prim.Native.Nat.{ℕ, ◌*◌, ◌≤◌}
use native.Mathlib.Omega.{arith}
use native.Mathlib.Nat.{mul-le-mul, max-le}
use lib.Dec.{leb, ltb}
use lib.IntN.{pos}
use Rattle.exact.proofs.Rounding.{up_le_of}
use Rattle.coefficient.proofs.Bounds.{product_le}
use Rattle.cubes.specs.Root.{least_root}
use Rattle.cubes.proofs.Roots.{least_root_within}
use Rattle.claims.specs.Verdict.{flag}
use Rattle.claims.specs.Sizes.{Sized}
use Rattle.claims.proofs.Bits.{flag_le}
use Rattle.claims.proofs.Sizes.{sized}
use Rattle.walls.specs.declared.WallBase.{WallBase}
use Rattle.walls.specs.declared.Storey.{Storey}
use Rattle.walls.specs.Base.{wall_coefficient, wall_governed, base_shear, design_moment, base_row_from, base_row, WallBaseRange}
use Rattle.walls.specs.Storey.{design_shear, storey_row_from, storey_row, StoreyRange}
use Rattle.walls.proofs.Ranges.{moment_le}
use Rattle.walls.proofs.Running.{base_shear_le}

pub base_sized : (q : ℕ) (b : WallBase) → WallBaseRange q b → Sized (base_row q b)
unfolding base_row base_row_from
base_sized q b r =
    let v = base_shear q b in
    let m = design_moment (wall_coefficient q b) 1000 b.moment b.resistance in
    sized (pos v) (pos b.strength) (pos m) (pos b.resistance) (pos (flag 1 (wall_governed q b))) _
    (omega (arith, base_shear_le q b r)) (omega (arith, r.strength)) (omega (arith, moment_le (wall_coefficient q b) 1000 b.moment b.resistance, r.resistance))
    (omega (arith, r.resistance)) (omega (arith, flag_le 1 (wall_governed q b))) (omega (arith, flag_le 1 (ltb b.strength v), flag_le 128 (leb b.length (4 * b.thickness))))

-- a is at most 4, and k·W/3000 at most a third of W
shear_le : (q : ℕ) (b : WallBase) (k x : ℕ) → WallBaseRange q b → k ≤ 1000 → x ≤ 100000000 → design_shear (wall_coefficient q b) k x (base_shear q b) ≤ 400000000
shear_le q b k x r i h =
    max-le (omega (arith, product_le 130 b.resistance b.moment q x r.behaviour))
    (up_le_of (k * base_shear q b) 3000 400000000 (omega arith) (omega (arith, mul-le-mul i (base_shear_le q b r))))

pub storey_sized : (q : ℕ) (b : WallBase) (s : Storey) → WallBaseRange q b → StoreyRange s → Sized (storey_row q b s)
unfolding storey_row storey_row_from
storey_sized q b s r i =
    let a = wall_coefficient q b in
    let k = least_root s.inertia s.base_inertia in
    let l = least_root_within s.inertia s.base_inertia in
    let v = design_shear a k s.shear (base_shear q b) in
    let m = design_moment a k s.moment b.resistance in
    sized (pos v) (pos s.strength) (pos m) (pos s.resistance) (pos k) _
    (omega (arith, shear_le q b k s.shear r l i.shear)) (omega (arith, i.strength)) (omega (arith, moment_le a k s.moment b.resistance, r.resistance))
    (omega (arith, i.resistance)) (omega (arith, l)) (omega (arith, flag_le 1 (ltb s.strength v), flag_le 2 (ltb s.resistance m)))
