-- Values of `least_root`, by computation: at three ratios of J0 to J, for every J, and at the ends of the range.
-- Assumes nothing.
use mathlib.Core.Path.{◌≡◌, refl, sym}
use Prim.Native.Nat.{ℕ, suc, ◌-◌, ◌*◌, ◌^◌, ◌≤◌}
use native.Mathlib.Nat.{mul-le-mul_right, one-mul}
use native.Mathlib.Omega.{arith}
use lib.Dec.{T, leb, ltb, leb→le, ltb→lt}
use Rattle.cubes.specs.Cube.{cube}
use Rattle.cubes.specs.Root.{first_from, least_root}
use Rattle.cubes.proofs.Roots.{cube_mono, least_is}

-- where J0 is m·J, the value follows from two tests on m
ratio : (m k j : ℕ) → T (leb k 999) → T (leb (10 ^ 9) (cube (suc k) * m)) → T (ltb (cube k * m) (10 ^ 9)) → 1 ≤ j → least_root j (m * j) ≡ suc k
ratio m k j top enough short h =
    sym
    (least_is
    (record {
      within = omega (arith, leb→le k 999 top);
      enough = omega (arith, mul-le-mul_right j (leb→le (10 ^ 9) (cube (suc k) * m) enough));
      least = λ i l. omega (arith, mul-le-mul_right j (ltb→lt (cube k * m) (10 ^ 9) short), cube_mono {i = i} {k = k} (m * j) (omega arith));
    }))

-- J = J0
pub same : (j : ℕ) → 1 ≤ j → least_root j j ≡ 1000
same j h = rw one-mul at (ratio 1 999 j tt tt tt h)

-- J0 = 2·J
pub half : (j : ℕ) → 1 ≤ j → least_root j (2 * j) ≡ 794
half j h = ratio 2 793 j tt tt tt h

-- J0 = 8·J
pub eighth : (j : ℕ) → 1 ≤ j → least_root j (8 * j) ≡ 500
eighth j h = ratio 8 499 j tt tt tt h

-- the least J over the greatest J0
pub smallest : least_root 1 (2 ^ 32 - 1) ≡ 1
unfolding least_root first_from
smallest = refl

-- the greatest J below the greatest J0
pub next_to_same : least_root (2 ^ 32 - 2) (2 ^ 32 - 1) ≡ 1000
unfolding least_root first_from
next_to_same = refl
