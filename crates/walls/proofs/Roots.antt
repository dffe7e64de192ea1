-- The cube root of a storey against its k, over plain numbers and fractions: k/1000 is at least the root, and (k − 1)/1000 is
-- below it. So k·w/3000 is not below c·w/3, and (k − 1)·w/3000 is below it. Assumes nothing.
use Prim.Native.Nat.{ℕ, ◌-◌, ◌*◌, ◌^◌, ◌≤◌, ◌<◌}
use native.Mathlib.Omega.{arith}
use native.Mathlib.Nat.{le_of_mul-le-mul_right}
use lib.IntN.{pos}
use Rattle.exact.specs.Fraction.{Fraction, Proper, ratio}
use Rattle.exact.specs.SignedFraction.{signed, whole_s}
use Rattle.exact.proofs.Multiply.{◌·◌}
use Rattle.cubes.specs.Root.{Least}
use Rattle.cubes.proofs.Roots.{least_before}
use Rattle.claims.specs.Exact.{root_third, at_least}
use Rattle.claims.proofs.Orders.{pos_mul, pos_cube, cubed}

-- ---- numbers

-- where 3000·v·d ≥ k·n and k³·j0 ≥ 10⁹·j: 27·v³·j0·d³ ≥ j·n³
reached : (j j0 k n d v : ℕ) → 10 ^ 9 * j ≤ k * k * k * j0 → k * n ≤ 3000 * v * d → j * (n * n * n) ≤ 27 * j0 * (v * v * v) * (d * d * d)
reached j j0 k n d v l h =
    le_of_mul-le-mul_right {k = 10 ^ 9} (omega (arith, l · (n * n * n), cubed h · j0)) (omega arith)

-- where i³·j0 < 10⁹·j: 27·(i·n)³·j0·d³ < j·n³·(3000·d)³
missed : (j j0 i n d : ℕ) → i * i * i * j0 < 10 ^ 9 * j → 0 < n * n * n → 0 < d * d * d →
    27 * j0 * (i * n * (i * n) * (i * n)) * (d * d * d) < j * (n * n * n) * (3000 * d * (3000 * d) * (3000 * d))
missed j j0 i n d l p q = omega (arith, l · (27 * (n * n * n) * (d * d * d)), pos_mul p q)

-- ---- a storey's root

module _ (j j0 k : ℕ) (w : Fraction) (least : Least j j0 k) where
  -- v is at least k·w/3000
  pub root_not_below : (v : ℕ) → k * w.num ≤ 3000 * v * w.den → at_least (root_third j j0 w) (whole_s (pos v))
  root_not_below v h = omega (arith, reached j j0 k w.num w.den v least.enough h)

  -- (k − 1)·w/3000 is below
  pub root_excess : 1 ≤ j → 0 < w.num → Proper w → ¬ at_least (root_third j j0 w) (signed (ratio ((k - 1) * w.num) (3000 * w.den)))
  root_excess one n d h = omega (arith, missed j j0 (k - 1) w.num w.den (least_before one least) (pos_cube n) (pos_cube d))
