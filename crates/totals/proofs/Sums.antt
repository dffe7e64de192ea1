-- Sums over the verdicts of rows: their bounds, and what they depend on. Assumes nothing.
use mathlib.Core.Path.{◌≡◌, refl, ap₂}
use mathlib.Core.List.{List}
use Prim.Native.Nat.{ℕ, zero, suc, ◌+◌, ◌*◌, ◌≤◌, ◌<◌, zero-le}
use native.Mathlib.Nat.{le_refl}
use native.Mathlib.Omega.{arith}
use lib.IntN.{ℤ}
use Rattle.totals.specs.Rows.{verdict_at, row_failed, checks_of, verdict_sum, rows_failed, checks_failed}
use Rattle.totals.proofs.Verdicts.{row_failed_le, row_has_check, row_without_check}

-- at most k for each row
sum_le : (count : ℤ → ℕ) (k : ℕ) (rows : List ℤ) (n : ℕ) → ((i : ℕ) → i < n → count (verdict_at rows i) ≤ k) → verdict_sum count rows n ≤ k * n
unfolding verdict_sum
sum_le count k rows zero h = zero-le
sum_le count k rows (suc n) h = omega (arith, sum_le count k rows n (λ i l. h i (omega arith)), h n (le_refl (suc n)))

-- of two counts, the one that is at most the other
sum_mono : (f g : ℤ → ℕ) → ((v : ℤ) → f v ≤ g v) → (rows : List ℤ) (n : ℕ) → verdict_sum f rows n ≤ verdict_sum g rows n
unfolding verdict_sum
sum_mono f g h rows zero = zero-le
sum_mono f g h rows (suc n) = omega (arith, sum_mono f g h rows n, h (verdict_at rows n))

-- of two slices with the same verdicts
pub sum_same : (count : ℤ → ℕ) (a b : List ℤ) (n : ℕ) → ((i : ℕ) → i < n → verdict_at a i ≡ verdict_at b i) → verdict_sum count a n ≡ verdict_sum count b n
unfolding verdict_sum
sum_same count a b zero h = refl
sum_same count a b (suc n) h =
    ap₂ (λ (k : ℕ) (v : ℤ). k + count v) (sum_same count a b n (λ i l. h i (omega arith))) (h n (le_refl (suc n)))

pub rows_failed_le : (rows : List ℤ) (n : ℕ) → rows_failed rows n ≤ n
unfolding rows_failed
rows_failed_le rows n = omega (arith, sum_le row_failed 1 rows n (λ i l. row_failed_le (verdict_at rows i)))

pub rows_have_checks : (rows : List ℤ) (n : ℕ) → rows_failed rows n ≤ checks_failed rows n
unfolding rows_failed checks_failed
rows_have_checks rows n = sum_mono row_failed checks_of row_has_check rows n

-- where no row failed, no check did
pub no_checks : (rows : List ℤ) (n : ℕ) → rows_failed rows n ≡ 0 → checks_failed rows n ≡ 0
unfolding rows_failed checks_failed verdict_sum
no_checks rows zero e = refl
no_checks rows (suc n) e =
    omega (arith, no_checks rows n (omega (arith, e)), row_without_check (verdict_at rows n) (omega (arith, e)))
