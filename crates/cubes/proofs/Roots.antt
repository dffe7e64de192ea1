-- Laws of the least k with k³·J0 ≥ 10⁹·J: k³·J0 fits 64 bits, k is determined, is `least_root`, and is at most 1,000.
-- Assumes nothing.
use mathlib.Core.Path.{◌≡◌, refl}
use mathlib.Core.Bool.{Bool, true, false}
use Prim.Native.Nat.{ℕ, zero, suc, ◌+◌, ◌-◌, ◌*◌, ◌^◌, ◌≤◌, ◌<◌}
use native.Mathlib.Nat.{mul-le-mul, mul-le-mul_right, le_antisymm, lt_of_not-le}
use native.Mathlib.Omega.{arith}
use lib.Dec.{leb}
use borrow.Author.Tests.{leb-true, leb-false}
use Rattle.cubes.specs.Cube.{cube}
use Rattle.cubes.specs.Root.{Least, first_from, least_root}

-- a larger k has no smaller k³·J0
pub cube_mono : {i k : ℕ} (j0 : ℕ) → i ≤ k → cube i * j0 ≤ cube k * j0
cube_mono j0 h = mul-le-mul_right j0 (mul-le-mul (mul-le-mul h h) h)

-- k³·J0 is below 2⁶⁴
pub cube_fits : {k : ℕ} (j0 : ℕ) → k ≤ 1000 → j0 < 2 ^ 32 → cube k * j0 < 2 ^ 64
cube_fits j0 h f = omega (arith, cube_mono j0 h)

at_most : {j j0 a b : ℕ} → Least j j0 a → Least j j0 b → a ≤ b
at_most {a = a} {b = b} x y =
    omega (arith, lt_of_not-le {n = suc b} {m = a} (λ h. omega (arith, x.least b h, y.enough)))

-- two numbers that are least are one
pub least_unique : {j j0 a b : ℕ} → Least j j0 a → Least j j0 b → a ≡ b
least_unique x y = le_antisymm (at_most x y) (at_most y x)

-- what holds of both choices holds of the choice by a test
by_test : (P : ℕ → Type 0) (b : Bool) {x y : ℕ} → (b ≡ true → P x) → (b ≡ false → P y) → P (elim b [ true ↦ x | false ↦ y ])
by_test P true f g = f refl
by_test P false f g = g refl

-- no number below `end` is enough
abbrev pub Short : ℕ → ℕ → ℕ → Type 0
Short j j0 end = (i : ℕ) → i < end → cube i * j0 < 10 ^ 9 * j

-- where k is not enough, no number up to k is
pub short_to : (j j0 k : ℕ) → cube k * j0 < 10 ^ 9 * j → Short j j0 (suc k)
short_to j j0 k h i l = omega (arith, cube_mono {i = i} {k = k} j0 (omega arith))

module _ (j j0 : ℕ) where
  first_within : (n k : ℕ) → first_from j j0 n k ≤ k + n
  unfolding first_from
  first_within zero k = omega arith
  first_within (suc n) k =
      by_test (λ r. r ≤ k + suc n) (leb (10 ^ 9 * j) (cube k * j0)) (λ t. omega arith)
      (λ t. omega (arith, first_within n (suc k)))

  first_least : (n k : ℕ) → k + n ≡ 1000 → Short j j0 k → 10 ^ 9 * j ≤ cube 1000 * j0 → Least j j0 (first_from j j0 n k)
  unfolding first_from
  first_least zero k e s enough =
      let h : k ≡ 1000 = omega arith in record { within = omega arith; enough = rw h enough; least = s }
  first_least (suc n) k e s enough =
      by_test (Least j j0) (leb (10 ^ 9 * j) (cube k * j0))
      (λ t. record { within = omega arith; enough = leb-true _ _ t; least = s })
      (λ t. first_least n (suc k) (omega arith) (short_to j j0 k (leb-false _ _ t)) enough)

-- at most 1,000, whatever J and J0 are
pub least_root_within : (j j0 : ℕ) → least_root j j0 ≤ 1000
unfolding least_root
least_root_within j j0 = omega (arith, first_within j j0 1000 0)

-- where J ≤ J0 it is enough, and least
pub least_root_least : (j j0 : ℕ) → j ≤ j0 → Least j j0 (least_root j j0)
unfolding least_root
least_root_least j j0 h = first_least j j0 1000 0 refl (λ i l. omega arith) (omega arith)

-- what is least is `least_root`
pub least_is : {j j0 k : ℕ} → Least j j0 k → k ≡ least_root j j0
unfolding least_root
least_is {j} {j0} x =
    least_unique x (first_least j j0 1000 0 refl (λ i l. omega arith) (omega (arith, cube_mono j0 x.within, x.enough)))

-- 0 is not enough
pub least_positive : {j j0 k : ℕ} → 1 ≤ j → Least j j0 k → 1 ≤ k
least_positive {k = zero} h x = omega (arith, x.enough)
least_positive {k = suc k} h x = omega arith

-- the number before it is not enough
pub least_before : {j j0 k : ℕ} → 1 ≤ j → Least j j0 k → cube (k - 1) * j0 < 10 ^ 9 * j
least_before {k = k} h x = x.least (k - 1) (omega (arith, least_positive h x))
