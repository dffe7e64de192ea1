-- Every value of a row of a wall fits its word, for running values and operands in range. Assumes nothing.
use Prim.Native.Nat.{ℕ, ◌^◌, ◌≤◌, ◌<◌, max}
use native.Mathlib.Omega.{arith}
use native.Mathlib.Nat.{mul-le-mul, max-le, min-le_right, le_trans}
use Rattle.exact.specs.Quotient.{up}
use Rattle.exact.specs.Fraction.{Fraction}
use Rattle.exact.proofs.Rounding.{up_le_self}
use Rattle.coefficient.specs.declared.Quotient.{Quotient}
use Rattle.coefficient.specs.Coefficient.{fraction}
use Rattle.walls.specs.Base.{design_moment}
use Rattle.walls.specs.Storey.{design_shear}

-- the larger of two quotients, rounded up, is at most what both numerators are
larger_le : (n d m e top : ℕ) → 0 < d → 0 < e → n ≤ top → m ≤ top → max (up n d) (up m e) ≤ top
larger_le n d m e top p q h k = max-le (le_trans (up_le_self n d p) h) (le_trans (up_le_self m e q) k)

-- the shear of a storey fits
pub shear_fits : (a : Quotient) (k x base : ℕ) → a.num ≤ 20000000000 → 0 < a.den → x ≤ 100000000 → k ≤ 1000 → base ≤ 400000000 →
    design_shear (fraction a) k x base < 2 ^ 63
shear_fits a k x base n d h i j =
    let l : design_shear (fraction a) k x base ≤ 2000000000000000000 = larger_le _ _ _ _ _ (omega arith) (omega arith) (omega (arith, mul-le-mul n h)) (omega (arith, mul-le-mul i j)) in
    omega arith

-- a moment is at most MR
pub moment_le : (a : Fraction) (k x resistance : ℕ) → design_moment a k x resistance ≤ resistance
moment_le a k x resistance = min-le_right _ resistance
