-- `text::put_rows` meets its contract: the lines of the rows before the loop's row are written. Assumes nothing.
use Rattle.std.proofs.Common.{◌*◌}
use Rattle.text.specs.Lines.{rows_text}
use Rattle.slices.specs.Written.{WritesAtMost}
use Rattle.text.proofs.put_rows.Given as goal

abbrev pub invariant-loop-row : goal.invariant-loop-row
invariant-loop-row l = WritesAtMost (168 * l.row-index) l.initial.out l.fn.at (rows_text l.fn.rows l.row-index) l.out l.next
