-- The call `run`. 01, "Calls": "Run writes the rows and answers their number, leaving every later word as lent". 02, No. 8: it is "one
-- call whose answer has rows, rows failed and checks failed"; "On a refusal all three are zero and the slice keeps its words; refusal 9
-- still carries the rows needed, as a number of its own."
use Rattle.std.specs.Prelude.{◌≡◌, Bool, true, false, cond, Result, Ok, Err, List, ◌++◌, ℕ, ◌*◌, ◌≤◌, leb, ℤ, length, drop}
use Rattle.totals.specs.declared.Totals.{Totals}
use Rattle.totals.specs.Counted.{counted_in}
use Rattle.rows.specs.Writing.{joined}
use Rattle.job.specs.Refusals.{number_of}
use Rattle.job.specs.Placed.{Job, Placed, refused, accepted, placed, all_rows}
use Rattle.capacity.specs.declared.RunError.{RunError}
use Rattle.capacity.specs.declared.RunError.TheVariants.{Refused, TooShort}

-- whether the job is accepted and its rows written; the refusal's number and offset, 0 where there is none; the rows written, those
-- failed, and the checks failed; and the rows needed
pub record RunAnswer : Type 0 where
  pub accepted : Bool
  pub number : ℕ
  pub offset : ℕ
  pub rows : ℕ
  pub failed : ℕ
  pub checks : ℕ
  pub needed : ℕ

abbrev pub ran_answer : Totals → RunAnswer
ran_answer t = record { accepted = true; number = 0; offset = 0; rows = t.rows; failed = t.failed; checks = t.checks; needed = 0 }

abbrev pub refused_run : ℕ → ℕ → RunAnswer
refused_run number offset = record { accepted = false; number = number; offset = offset; rows = 0; failed = 0; checks = 0; needed = 0 }

-- refusal 9, too few words for the rows: offset 0 and the rows needed
abbrev pub too_short_run : ℕ → RunAnswer
too_short_run n = record { accepted = false; number = 9; offset = 0; rows = 0; failed = 0; checks = 0; needed = n }

-- the answer of run in the code, in these terms
abbrev pub run_answer : Result Totals RunError → RunAnswer
run_answer (Ok t) = ran_answer t
run_answer (Err (Refused r)) = refused_run (number_of r.refusal) r.offset
run_answer (Err (TooShort n)) = too_short_run n

-- the numbers of rows: how many they are; how many have a verdict that is not 0; and how many ones all verdicts have
abbrev pub totals_of : List (List ℤ) → Totals
totals_of rows = counted_in (joined rows) (length rows)

-- what run answers, on a slice of so many words
abbrev pub run_from : Job → ℕ → RunAnswer
run_from (refused number offset) words = refused_run number offset
run_from (accepted ps) words = cond (leb (8 * length (all_rows ps)) words) (ran_answer (totals_of (all_rows ps))) (too_short_run (length (all_rows ps)))

unfoldable pub run_of : List ℕ → ℕ → RunAnswer
unfolding placed
run_of job words = run_from (placed job) words

-- what the slice holds then: the rows, eight words each, and every later word as lent; in a refusal every word as lent
abbrev pub rows_from : Job → List ℤ → List ℤ
rows_from (refused number offset) words = words
rows_from (accepted ps) words = cond (leb (8 * length (all_rows ps)) (length words)) (joined (all_rows ps) ++ drop (8 * length (all_rows ps)) words) words

unfoldable pub rows_after : List ℕ → List ℤ → List ℤ
unfolding placed
rows_after job words = rows_from (placed job) words

-- what the writing pass does, for a job that is accepted and whose rows fit
pub record Writes (job : List ℕ) (before after : List ℤ) : Type 0 where
  pub written : (ps : List Placed) → placed job ≡ accepted ps → 8 * length (all_rows ps) ≤ length before → after ≡ joined (all_rows ps) ++ drop (8 * length (all_rows ps)) before
