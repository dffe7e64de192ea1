-- What a program prints of a job, where a text of so many rows is given. 01, "Figures to hold to": the listing program's "buffers hold
-- 65,536 bytes, so 1,024 rows", and "a refusal prints one line"; the page program's are the same. Assumes nothing.
use Rattle.std.specs.Prelude.{cond, List, ℕ, leb, ltb, ℤ, length}
use Rattle.text.specs.Lines.{refused_line}
use Rattle.rows.specs.Writing.{joined}
use Rattle.job.specs.Placed.{Job, refused, accepted, placed, all_rows}

-- the bytes of a job, and the rows, that the buffers hold
abbrev pub most_bytes : ℕ
most_bytes = 65536

abbrev pub most_rows : ℕ
most_rows = 1024

module _ (rows_text : List ℤ → ℕ → List ℕ) where
  -- refusal 9 prints the rows needed
  abbrev pub accepted_text : List (List ℤ) → List ℕ
  accepted_text rows = cond (leb (length rows) most_rows) (rows_text (joined rows) (length rows)) (refused_line 9 (length rows))

  abbrev pub job_text : Job → List ℕ
  job_text (refused number offset) = refused_line number offset
  job_text (accepted ps) = accepted_text (all_rows ps)

  -- refusal 10, input above 65,536 bytes, prints 0
  unfoldable pub printed_of : List ℕ → List ℕ
  printed_of job = cond (ltb most_bytes (length job)) (refused_line 10 0) (job_text (placed job))
