-- `totals::count` meets its contract: the rows before `row` are counted (Counting.antt). Assumes nothing.
use Rattle.std.proofs.Common.{◌≡◌}
use Rattle.totals.proofs.Counting.{Counting}
use Rattle.totals.proofs.count.Given as goal

abbrev pub invariant-loop-row : goal.invariant-loop-row
invariant-loop-row l = record {
  rows : l.totals.rows ≡ l.fn.n;
  counting : Counting l.fn.rows l.fn.n l.row-index l.totals.failed l.totals.checks;
}
