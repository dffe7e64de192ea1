-- What `run` answers and leaves in each of its three cases, over plain values. Assumes nothing.
use mathlib.Core.Path.{◌≡◌, refl, sym, ap}
use mathlib.Core.Bool.{true, false}
use mathlib.Core.List.{List, ◌++◌}
use Prim.Native.Nat.{ℕ, ◌*◌, ◌/◌, ◌≤◌, ◌<◌}
use native.Mathlib.Omega.{arith}
use borrow.Author.Tests.{le-leb, lt-leb}
use lib.IntN.{ℤ}
use lib.ListN.{length, drop}
use Rattle.rows.specs.Writing.{joined}
use Rattle.job.specs.Placed.{Placed, Job, refused, accepted, placed, all_rows}
use Rattle.job.specs.Answers.{Answer, rows_answer, refused_answer, size_from, size_of}
use Rattle.capacity.specs.Calls.{totals_of, ran_answer, refused_run, too_short_run, run_from, run_of, rows_from, rows_after}

pub differ : true ≡ false → ⊥
differ e = let z : ◌≡◌ {A = ℕ} 0 1 = cc in omega arith

-- ---- refused

refused_from : (number offset words : ℕ) (j : Job) → refused_answer number offset ≡ size_from j → (refused_run number offset ≡ run_from j words) × ((m : List ℤ) → m ≡ rows_from j m)
refused_from number offset words (refused n o) e = (ap (λ (a : Answer). refused_run a.number a.offset) e, λ m. refl)
refused_from number offset words (accepted ps) e = absurd (differ (sym (ap (λ (a : Answer). a.accepted) e)))

pub refused_run_lem : (job : List ℕ) (number offset : ℕ) (m : List ℤ) → refused_answer number offset ≡ size_of job → (refused_run number offset ≡ run_of job (length m)) × (m ≡ rows_after job m)
unfolding size_of run_of rows_after
refused_run_lem job number offset m e = let r = refused_from number offset (length m) (placed job) e in (r.0, r.1 m)

-- ---- accepted

pub record Accepted (job : List ℕ) (n : ℕ) : Type 0 where
  pub commands : List Placed
  pub is : placed job ≡ accepted commands
  pub count : n ≡ length (all_rows commands)

accepted_from : (n : ℕ) (j : Job) → rows_answer n ≡ size_from j → (ps : List Placed) × (j ≡ accepted ps) × (n ≡ length (all_rows ps))
accepted_from n (refused number offset) e = absurd (differ (ap (λ (a : Answer). a.accepted) e))
accepted_from n (accepted ps) e = (ps, refl, ap (λ (a : Answer). a.rows) e)

pub accepted_run : (job : List ℕ) (n : ℕ) → rows_answer n ≡ size_of job → Accepted job n
unfolding size_of
accepted_run job n e = let (ps, i, c) = accepted_from n (placed job) e in record { commands = ps; is = i; count = c }

short_from : (j : Job) (ps : List Placed) (n : ℕ) (m : List ℤ) → j ≡ accepted ps → n ≡ length (all_rows ps) → length m < 8 * length (all_rows ps) →
    (too_short_run n ≡ run_from j (length m)) × (m ≡ rows_from j m)
short_from j ps n m e c h =
    let l = lt-leb (8 * length (all_rows ps)) (length m) h in
    (rw (e, l) (ap too_short_run c), rw (e, l))

full_from : (j : Job) (ps : List Placed) (m : List ℤ) → j ≡ accepted ps → 8 * length (all_rows ps) ≤ length m →
    (ran_answer (totals_of (all_rows ps)) ≡ run_from j (length m)) × (joined (all_rows ps) ++ drop (8 * length (all_rows ps)) m ≡ rows_from j m)
full_from j ps m e h = let l = le-leb (8 * length (all_rows ps)) (length m) h in (rw (e, l), rw (e, l))

module _ (job : List ℕ) (n : ℕ) (m : List ℤ) (a : Accepted job n) where
  -- too few words
  pub short_run : length m / 8 < n → (too_short_run n ≡ run_of job (length m)) × (m ≡ rows_after job m)
  unfolding run_of rows_after
  short_run h = short_from (placed job) a.commands n m a.is a.count (omega (arith, a.count))

  -- room for all
  pub enough : n ≤ length m / 8 → 8 * length (all_rows a.commands) ≤ length m
  enough h = omega (arith, a.count)

  pub full_run : n ≤ length m / 8 → (ran_answer (totals_of (all_rows a.commands)) ≡ run_of job (length m)) × (joined (all_rows a.commands) ++ drop (8 * length (all_rows a.commands)) m ≡ rows_after job m)
  unfolding run_of rows_after
  full_run h = full_from (placed job) a.commands m a.is (enough h)
