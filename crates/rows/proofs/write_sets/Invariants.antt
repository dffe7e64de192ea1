-- `rows::write_sets` meets its contract. The loop's invariant: what is left to write gives what the whole gives (SetRows.antt).
-- Assumes nothing.
use Rattle.rows.proofs.SetRows.{Filling}
use Rattle.rows.proofs.write_sets.Given as goal

abbrev pub invariant-loop-i : goal.invariant-loop-i
invariant-loop-i l = Filling l.wall l.sets l.at l.n l.initial.rows l.rows l.i
