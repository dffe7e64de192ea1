-- `least_root` meets its contract: each turn of the search keeps the bracket, which at the end is the root (Halving.antt).
-- Assumes nothing.
use Rattle.cubes.proofs.Halving.{turn, found}
use Rattle.cubes.proofs.least_root.Goals as goal

pub loop-length-preserved : goal.loop-length-preserved
loop-length-preserved c = turn c.loop-length.invariant c.loop-length-test.true (rw (c.from-need.ensures, c.from-base.ensures) at c.step_added-low.ensures)

pub returns-clause-value : goal.returns-clause-value
returns-clause-value c = found c.loop-length.invariant c.loop-length-test.false
