-- What callers use of totals: the words after n rows count for nothing. Assumes nothing.
use mathlib.Core.Path.{◌≡◌}
use mathlib.Core.List.{List, ◌++◌}
use Prim.Native.Nat.{ℕ, ◌+◌, ◌*◌, ◌≤◌}
use native.Mathlib.Omega.{arith}
use lib.IntN.{ℤ, pos}
use lib.ListN.{length, get_or-append}
use Rattle.totals.specs.Rows.{verdict_at, row_failed, checks_of, rows_failed, checks_failed}
use Rattle.totals.proofs.Sums.{sum_same}

-- the verdict of a row that lies in the front
pub front_verdict : (front more : List ℤ) (i : ℕ) → 8 * i + 8 ≤ length front → verdict_at (front ++ more) i ≡ verdict_at front i
unfolding verdict_at
front_verdict front more i h = get_or-append front more (pos 0) (8 * i + 7) (omega arith)

module _ (front more : List ℤ) (n : ℕ) (h : 8 * n ≤ length front) where
  pub front_failed : rows_failed (front ++ more) n ≡ rows_failed front n
  unfolding rows_failed
  front_failed = sum_same row_failed (front ++ more) front n (λ i l. front_verdict front more i (omega arith))

  pub front_checks : checks_failed (front ++ more) n ≡ checks_failed front n
  unfolding checks_failed
  front_checks = sum_same checks_of (front ++ more) front n (λ i l. front_verdict front more i (omega arith))
