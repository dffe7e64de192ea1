-- The k of a storey (01, "Members", storey): the least whole number with k³·J0 ≥ 10⁹·J, J and J0 the inertias of the section and of
-- the base, J ≤ J0. So k / 1000 is the cube root of J / J0, rounded up to a thousandth. Assumes nothing.
use Rattle.std.specs.Prelude.{true, false, ℕ, zero, suc, ◌*◌, ◌^◌, ◌≤◌, ◌<◌, leb}
use Rattle.cubes.specs.Cube.{cube}

-- k is the least that is enough, and at most 1,000
pub record Least (j j0 k : ℕ) : Type 0 where
  pub within : k ≤ 1000
  pub enough : 10 ^ 9 * j ≤ cube k * j0
  pub least : (i : ℕ) → i < k → cube i * j0 < 10 ^ 9 * j

-- the first of k, k + 1, .. that is enough, after at most n steps
unfoldable pub first_from : ℕ → ℕ → ℕ → ℕ → ℕ
first_from j j0 zero k = k
first_from j j0 (suc n) k = elim (leb (10 ^ 9 * j) (cube k * j0)) [ true ↦ k | false ↦ first_from j j0 n (suc k) ]

-- the first of 0, 1, .. that is enough; 1,000 where none below is
unfoldable pub least_root : ℕ → ℕ → ℕ
least_root j j0 = first_from j j0 1000 0
