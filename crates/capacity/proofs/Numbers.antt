-- The three numbers that run answers are those of the words that it leaves, for every job and every slice. Assumes nothing.
use mathlib.Core.Path.{◌≡◌, refl, sym, subst}
use mathlib.Core.Bool.{Bool, true, false, true≢false, cond}
use mathlib.Core.List.{List, [], ◌∷◌, ◌++◌, append_assoc, map}
use Prim.Native.Nat.{ℕ, zero, suc, ◌+◌, ◌*◌, ◌≤◌, ◌<◌}
use native.Mathlib.Nat.{not-suc-le-zero}
use native.Mathlib.Omega.{arith}
use lib.Dec.{leb}
use lib.IntN.{ℤ, pos, negsuc}
use lib.ListN.{length, drop, get_or, get_or-append}
use lib.Seq.{get_or-append-add}
use lib.Signed.{◌≤ℤ◌}
use Rattle.exact.proofs.Integers.{≤ℤ_out}
use Rattle.claims.specs.declared.Row.{Row}
use Rattle.claims.specs.Sizes.{AllSized}
use Rattle.totals.specs.Rows.{verdict_at, good_verdict, verdict_sum, rows_failed, checks_failed}
use Rattle.totals.specs.Counted.{counted_in, GoodRows}
use Rattle.totals.proofs.Verdicts.{number_good}
use Rattle.totals.proofs.Sums.{rows_failed_le, rows_have_checks, no_checks}
use Rattle.totals.proofs.Laws.{front_failed, front_checks}
use Rattle.layout.proofs.Numbers.{Bytes}
use Rattle.format.specs.Commands.{byte_of}
use Rattle.rows.specs.Rows.{rows_of, words}
use Rattle.rows.specs.Writing.{joined}
use Rattle.rows.proofs.Memory.{Eights}
use Rattle.job.specs.Placed.{Placed, Job, refused, accepted, placed, all_rows}
use Rattle.capacity.specs.Calls.{RunAnswer, totals_of, ran_answer, refused_run, too_short_run, run_from, run_of, rows_from, rows_after}
use Rattle.capacity.specs.Numbers.{NumbersOf, RunNumbers}
use Rattle.capacity.proofs.Ranges.{AllGood, GoodJob, all_good}
use Rattle.capacity.proofs.RowsSized.{rows_sized}
use Rattle.capacity.proofs.Written.{rows_eight, joined_length}

-- ---- every verdict of a job's rows is from 0 to 255

abbrev EachGood : List (List ℤ) → Type 0
EachGood [] = Unit {0}
EachGood (r ∷ rs) = (good_verdict (get_or r 7 (pos 0)) ≡ true) × EachGood rs

in_range_good : (v : ℤ) → pos 0 ≤ℤ v → v ≤ℤ pos 255 → good_verdict v ≡ true
in_range_good (pos n) h k = number_good n (omega (arith, ≤ℤ_out k))
in_range_good (negsuc n) h k = absurd h.le

good_own : (offset byte : ℕ) (rows : List Row) (rest : List (List ℤ)) → AllSized rows → EachGood rest → EachGood (map (words offset byte) rows ++ rest)
good_own offset byte [] rest a g = g
good_own offset byte (r ∷ rs) rest a g = (in_range_good r.verdict a.0.verdict_least a.0.verdict_greatest, good_own offset byte rs rest a.1 g)

all_rows_good : (ps : List Placed) → AllGood ps → EachGood (all_rows ps)
unfolding all_rows
all_rows_good [] g = tt
all_rows_good (p ∷ ps) g = good_own p.offset (byte_of p.command) (rows_of p.context p.command) (all_rows ps) (rows_sized p g.0) (all_rows_good ps g.1)

-- as it stands in the slice, whatever words follow the rows
good_in_slice : (rows : List (List ℤ)) (after : List ℤ) → Eights rows → EachGood rows → (i : ℕ) → i < length rows → good_verdict (verdict_at (joined rows ++ after) i) ≡ true
unfolding verdict_at
good_in_slice [] after e g i h = absurd (not-suc-le-zero h)
good_in_slice (r ∷ rs) after e g zero h =
    rw (append_assoc r (joined rs) after, get_or-append r (joined rs ++ after) (pos 0) 7 (omega (arith, e.0))) g.0
good_in_slice (r ∷ rs) after e g (suc i) h =
    let k : 8 * suc i + 7 ≡ length r + (8 * i + 7) = omega (arith, e.0) in
    rw (append_assoc r (joined rs) after, k, get_or-append-add r (joined rs ++ after) (8 * i + 7) (pos 0)) (good_in_slice rs after e.1 g.1 i (omega arith))

-- ---- what `count` asks of words that begin with a job's rows, and what it gives

module _ (ps : List Placed) (g : AllGood ps) (after m : List ℤ) (n : ℕ) (e : m ≡ joined (all_rows ps) ++ after) (k : n ≡ length (all_rows ps)) where
  pub rows_good_in : GoodRows m n
  rows_good_in = rw (e, k) (record { good = good_in_slice (all_rows ps) after (rows_eight ps) (all_rows_good ps g) })

  pub count_is : counted_in m n ≡ totals_of (all_rows ps)
  count_is =
      let rows = joined (all_rows ps) in
      let fit : 8 * length (all_rows ps) ≤ length rows = omega (arith, joined_length (all_rows ps) (rows_eight ps)) in
      rw (e, k, front_failed rows after (length (all_rows ps)) fit, front_checks rows after (length (all_rows ps)) fit)

-- ---- the numbers

-- of no rows
none_of : (answer : RunAnswer) (m : List ℤ) → answer.rows ≡ 0 → answer.failed ≡ 0 → answer.checks ≡ 0 → NumbersOf answer m
unfolding rows_failed checks_failed verdict_sum
none_of answer m r f c =
    record {
      failed_counted = rw (r, f);
      checks_counted = rw (r, c);
      failed_few = omega (arith, f);
      none_failed = (λ e. c, λ e. f);
      verdicts_good = λ i h. absurd (not-suc-le-zero (subst (λ (n : ℕ). i < n) r h));
    }

-- of all rows of a job
numbers_of_rows : (ps : List Placed) → AllGood ps → (after : List ℤ) → NumbersOf (ran_answer (totals_of (all_rows ps))) (joined (all_rows ps) ++ after)
numbers_of_rows ps g after =
    let rows = all_rows ps in
    let n = length rows in
    let fit : 8 * n ≤ length (joined rows) = omega (arith, joined_length rows (rows_eight ps)) in
    record {
      failed_counted = sym (front_failed (joined rows) after n fit);
      checks_counted = sym (front_checks (joined rows) after n fit);
      failed_few = rows_failed_le (joined rows) n;
      none_failed = (no_checks (joined rows) n, λ e. omega (arith, e, rows_have_checks (joined rows) n));
      verdicts_good = (rows_good_in ps g after (joined rows ++ after) n refl refl).good;
    }

numbers_from : (j : Job) → GoodJob j → (m : List ℤ) → NumbersOf (run_from j (length m)) (rows_from j m)
numbers_from (refused number offset) g m = none_of (refused_run number offset) m refl refl refl
numbers_from (accepted ps) g m = by (leb (8 * length (all_rows ps)) (length m))
  where
    by : (b : Bool) → NumbersOf (cond b (ran_answer (totals_of (all_rows ps))) (too_short_run (length (all_rows ps)))) (cond b (joined (all_rows ps) ++ drop (8 * length (all_rows ps)) m) m)
    by true = numbers_of_rows ps g (drop (8 * length (all_rows ps)) m)
    by false = none_of (too_short_run (length (all_rows ps))) m refl refl refl

pub run_numbers : (job : List ℕ) → Bytes job → RunNumbers job
unfolding run_of rows_after
run_numbers job b lent = numbers_from (placed job) (all_good job b) lent

-- on every refusal the three numbers are 0
pub refused_numbers : (job : List ℕ) (words : ℕ) → (run_of job words).accepted ≡ false → ((run_of job words).rows ≡ 0) × ((run_of job words).failed ≡ 0) × ((run_of job words).checks ≡ 0)
unfolding run_of
refused_numbers job words = from (placed job)
  where
    from : (j : Job) → (run_from j words).accepted ≡ false → ((run_from j words).rows ≡ 0) × ((run_from j words).failed ≡ 0) × ((run_from j words).checks ≡ 0)
    from (refused number offset) e = (refl, refl, refl)
    from (accepted ps) e = by (leb (8 * length (all_rows ps)) words) e
      where
        by : (b : Bool) → (cond b (ran_answer (totals_of (all_rows ps))) (too_short_run (length (all_rows ps)))).accepted ≡ false →
            let a = cond b (ran_answer (totals_of (all_rows ps))) (too_short_run (length (all_rows ps))) in (a.rows ≡ 0) × (a.failed ≡ 0) × (a.checks ≡ 0)
        by true e = absurd (true≢false e)
        by false e = (refl, refl, refl)
