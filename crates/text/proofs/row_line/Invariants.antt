-- `text::row_line` meets its contract: the words before the loop's word stand in the line, each with a space (RowSteps.antt).
-- Assumes nothing.
use Rattle.std.proofs.Common.{◌≡◌, ◌*◌, ◌≤◌, take}
use Rattle.arrayvec.specs.ArrayString.{array_string_len}
use Rattle.text.proofs.RowSteps.{spaced}
use Rattle.text.proofs.row_line.Given as goal

abbrev pub invariant-loop-word : goal.invariant-loop-word
invariant-loop-word l = record {
  text : l.line.bytes ≡ spaced (take l.word-index l.row);
  short : array_string_len l.line ≤ 21 * l.word-index;
}
