-- The table of the cubes of 0 to 1,000 (01, "Members", storey).
-- Assumes nothing.
use Rattle.std.specs.Prelude.{◌≡◌, List, ℕ, ◌*◌, ◌≤◌, length, get_or}

abbrev pub cube : ℕ → ℕ
cube k = k * k * k

-- 1,001 entries, and that at k is k³
pub record IsCubes (table : List ℕ) : Type 0 where
  pub count : length table ≡ 1001
  pub entry : (k : ℕ) → k ≤ 1000 → get_or table k 0 ≡ cube k
