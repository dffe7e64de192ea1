-- `text::refused_line` meets its contract: two labels with their numbers, then a line feed (Labels.antt). Assumes nothing.
use Rattle.std.proofs.Common.{◌∙◌, arith}
use Rattle.text.proofs.Labels.{refused_labels}
use Rattle.text.proofs.refused_line.Goals as goal

pub returns : goal.returns
returns c = c.push.ensures.ascii (omega arith) ∙ rw (c.push_labelled-2.ensures.text, c.push_labelled.ensures.text, c.new-line.ensures) (refused_labels c.args.number c.args.offset)
