-- The cube rule of a table, proved at all of its entries by one test that antt computes.
-- Assumes nothing.
use mathlib.Core.Path.{◌≡◌}
use mathlib.Core.Bool.{Bool, true, false}
use mathlib.Core.List.{List, [], ◌∷◌}
use Prim.Native.Nat.{ℕ, zero, suc, ◌+◌, ◌<◌}
use native.Mathlib.Nat.{add-zero, zero-add, add-suc, suc-add, le_of_suc-le-suc, not-suc-le-zero}
use native.Mathlib.Omega.{arith}
use lib.Dec.{T, eqb, eqb→eq}
use lib.ListN.{length, get_or}
use Rattle.cubes.specs.Cube.{cube, IsCubes}

-- the entries are the cubes of i, i + 1, ..
abbrev pub cubes_from : ℕ → List ℕ → Bool
cubes_from i [] = true
cubes_from i (x ∷ xs) = elim (eqb x (cube i)) [ true ↦ cubes_from (suc i) xs | false ↦ false ]

first : (a b : Bool) → T (elim a [ true ↦ b | false ↦ false ]) → T a
first true b t = tt
first false b t = t

rest : (a b : Bool) → T (elim a [ true ↦ b | false ↦ false ]) → T b
rest true b t = t
rest false b t = absurd t

entry_from : (i : ℕ) (xs : List ℕ) → T (cubes_from i xs) → (k : ℕ) → k < length xs → get_or xs k 0 ≡ cube (i + k)
entry_from i [] t k h = absurd (not-suc-le-zero h)
entry_from i (x ∷ xs) t zero h = rw add-zero (eqb→eq x (cube i) (first (eqb x (cube i)) (cubes_from (suc i) xs) t))
entry_from i (x ∷ xs) t (suc k) h =
    rw (add-suc, ← suc-add) (entry_from (suc i) xs (rest (eqb x (cube i)) (cubes_from (suc i) xs) t) k (le_of_suc-le-suc h))

-- 1,001 entries that pass the test are the table
pub rule : (table : List ℕ) → length table ≡ 1001 → T (cubes_from 0 table) → IsCubes table
rule table n t = record { count = n; entry = λ k h. rw (zero-add k) at (entry_from 0 table t k (omega arith)) }
