-- The totals of the first n rows of a slice of words. 02, No. 8: "rows, rows failed and checks failed". Assumes nothing.
use Rattle.std.specs.Prelude.{◌≡◌, true, List, ℕ, ◌<◌, ℤ}
use Rattle.totals.specs.declared.Totals.{Totals}
use Rattle.totals.specs.Rows.{verdict_at, good_verdict, rows_failed, checks_failed}

abbrev pub counted_in : List ℤ → ℕ → Totals
counted_in words n = record { rows = n; failed = rows_failed words n; checks = checks_failed words n }

-- the verdict of each of them is from 0 to 255
pub record GoodRows (words : List ℤ) (n : ℕ) : Type 0 where
  pub good : (i : ℕ) → i < n → good_verdict (verdict_at words i) ≡ true
