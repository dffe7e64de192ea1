-- The verdicts of rows, and what is counted in them. 01, "Rows and verdict bits": a row is eight words, and "word 7 the verdict,
-- 0 for passed"; 01, "Calls": "the rows failed and the checks failed, the latter the ones counted in the verdicts". Assumes nothing.
use Rattle.std.specs.Prelude.{Bool, false, List, ℕ, zero, suc, ◌+◌, ◌*◌, leb, ℤ, pos, negsuc, nat_abs, get_or}
use Rattle.std.specs.Int.Count.{ones}

-- word 7 of row i; rows are counted from 0
unfoldable pub verdict_at : List ℤ → ℕ → ℤ
verdict_at rows i = get_or rows (8 * i + 7) (pos 0)

-- 0 to 255
unfoldable pub good_verdict : ℤ → Bool
good_verdict (pos v) = leb v 255
good_verdict (negsuc v) = false

-- 1 where the row failed, 0 where it passed
unfoldable pub row_failed : ℤ → ℕ
row_failed (pos zero) = 0
row_failed (pos (suc v)) = 1
row_failed (negsuc v) = 1

-- the checks that failed in a row: how many binary digits of its verdict are 1 (`ones`; the language's count_ones gives the same)
unfoldable pub checks_of : ℤ → ℕ
checks_of v = ones (nat_abs v)

-- the sum of a count of each verdict, over the first n rows
unfoldable pub verdict_sum : (ℤ → ℕ) → List ℤ → ℕ → ℕ
unfolding verdict_at
verdict_sum count rows zero = 0
verdict_sum count rows (suc n) = verdict_sum count rows n + count (verdict_at rows n)

-- the rows failed, of the first n
unfoldable pub rows_failed : List ℤ → ℕ → ℕ
rows_failed rows n = verdict_sum row_failed rows n

-- the checks failed, of the first n rows: "the ones counted in the verdicts"
unfoldable pub checks_failed : List ℤ → ℕ → ℕ
checks_failed rows n = verdict_sum checks_of rows n
