-- The page of a job. 02, No. 3, for the program `page`: the rows of the job as the lines of a printed page, without totals; a refusal
-- prints the listing's one line. Assumes nothing.
use Rattle.std.specs.Prelude.{Bool, true, false, List, ℕ, ℤ}
use Rattle.printing.specs.Page.{page_text}
use Rattle.report.specs.Listing.{rows_listing}

-- the text of rows that a program asks for: the page, or the listing
abbrev pub rows_text : Bool → List ℤ → ℕ → List ℕ
rows_text true = page_text
rows_text false = rows_listing
