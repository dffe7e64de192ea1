-- The listing of a job. 01, "Figures to hold to": the listing program "prints each row's eight words in decimal, separated by one
-- space, then the totals; a refusal prints one line". Assumes nothing.
use Rattle.std.specs.Prelude.{◌≡◌, List, ℕ, ℤ}
use Rattle.text.specs.Lines.{listing_text}
use Rattle.totals.specs.declared.Totals.{Totals}
use Rattle.totals.specs.Rows.{rows_failed, checks_failed}
use Rattle.report.specs.Printed.{printed_of}

-- n rows and their totals
unfoldable pub rows_listing : List ℤ → ℕ → List ℕ
rows_listing words n = listing_text words n (rows_failed words n) (checks_failed words n)

-- these are the totals of the rows that stand in the words
pub record TotalsOf (words : List ℤ) (t : Totals) : Type 0 where
  pub failed : t.failed ≡ rows_failed words t.rows
  pub checks : t.checks ≡ checks_failed words t.rows

unfoldable pub listing_of : List ℕ → List ℕ
listing_of job = printed_of rows_listing job
