-- What `run` answers and leaves where it has written the rows, over plain values. Assumes nothing.
use Rattle.std.proofs.Common.{◌≡◌, ℕ, ◌*◌, ◌/◌, ◌≤◌, List, ◌++◌, length, drop, sym, ap, ◌∙◌, subst}
use Rattle.std.proofs.Math.IntN.{ℤ}
use Rattle.layout.proofs.Numbers.{Bytes}
use Rattle.totals.specs.declared.Totals.{Totals}
use Rattle.totals.specs.Counted.{counted_in, GoodRows}
use Rattle.rows.specs.Writing.{joined}
use Rattle.job.specs.Placed.{all_rows}
use Rattle.job.specs.Answers.{rows_answer, size_of}
use Rattle.capacity.specs.Calls.{ran_answer, run_of, rows_after, Writes}
use Rattle.capacity.specs.DemandThree.{DemandThree}
use Rattle.capacity.proofs.Runs.{Accepted, accepted_run, enough, full_run}
use Rattle.capacity.proofs.Ranges.{AllGood, GoodJob, all_good}
use Rattle.capacity.proofs.Numbers.{rows_good_in, count_is}
use Rattle.capacity.proofs.Whole.{demand_three}

module _ (job : List ℕ) (bytes : Bytes job) (n : ℕ) (e : rows_answer n ≡ size_of job) (before after : List ℤ) (room : n ≤ length before / 8) (w : Writes job before after) where
  accepts : Accepted job n
  accepts = accepted_run job n e

  abbrev later : List ℤ
  later = drop (8 * length (all_rows accepts.commands)) before

  good : AllGood accepts.commands
  good = subst GoodJob accepts.is (all_good job bytes)

  written : after ≡ joined (all_rows accepts.commands) ++ later
  written = w.written accepts.commands accepts.is (enough job n before accepts room)

  pub verdicts : GoodRows after n
  verdicts = rows_good_in accepts.commands good later after n written accepts.count

  pub answered : (t : Totals) → t ≡ counted_in after n → ran_answer t ≡ run_of job (length before)
  answered t q = ap ran_answer (q ∙ count_is accepts.commands good later after n written accepts.count) ∙ (full_run job n before accepts room).0

  pub left : after ≡ rows_after job before
  left = written ∙ (full_run job n before accepts room).1

  pub holds : DemandThree job after
  holds = subst (DemandThree job) (sym written) (demand_three job bytes accepts.commands accepts.is later)
