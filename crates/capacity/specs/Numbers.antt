-- The three numbers that `run` answers are those of the words that it leaves. 02, No. 8. For every job and every slice lent, in a
-- refusal too (proofs/Numbers.antt, `run_numbers`). `rows_failed words n` counts, of the first n rows of the words, those whose verdict
-- is not 0, and `checks_failed words n` the ones of their verdicts.
use Rattle.std.specs.Prelude.{◌≡◌, true, List, ◌↔◌, ℕ, ◌≤◌, ◌<◌, ℤ, length}
use Rattle.totals.specs.Rows.{verdict_at, good_verdict, rows_failed, checks_failed}
use Rattle.capacity.specs.Calls.{RunAnswer, run_of, rows_after}

pub record NumbersOf (answer : RunAnswer) (words : List ℤ) : Type 0 where
  -- counting the words gives them
  pub failed_counted : answer.failed ≡ rows_failed words answer.rows
  pub checks_counted : answer.checks ≡ checks_failed words answer.rows
  -- at most all rows failed, and none exactly when no check did
  pub failed_few : answer.failed ≤ answer.rows
  pub none_failed : (answer.failed ≡ 0) ↔ (answer.checks ≡ 0)
  -- every verdict written is from 0 to 255
  pub verdicts_good : (i : ℕ) → i < answer.rows → good_verdict (verdict_at words i) ≡ true

abbrev pub RunNumbers : List ℕ → Type 0
RunNumbers job = (lent : List ℤ) → NumbersOf (run_of job (length lent)) (rows_after job lent)
