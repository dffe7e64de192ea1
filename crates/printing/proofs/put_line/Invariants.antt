-- `printing::put_line` meets its contract: the values before word i stand in the line (LineSteps.antt). Assumes nothing.
use Rattle.std.specs.Prelude.{length}
use Rattle.printing.proofs.LineSteps.{LinePart}
use Rattle.printing.proofs.put_line.Given as goal

abbrev pub invariant-loop-value : goal.invariant-loop-value
invariant-loop-value l = LinePart l.row l.line l.at (length l.yielded)
