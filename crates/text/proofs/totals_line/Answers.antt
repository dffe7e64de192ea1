-- `text::totals_line` meets its contract: three labels with their numbers, then a line feed (Labels.antt). Assumes nothing.
use Rattle.std.proofs.Common.{◌∙◌, arith}
use Rattle.text.proofs.Labels.{totals_labels}
use Rattle.text.proofs.totals_line.Goals as goal

pub returns : goal.returns
returns c =
    c.push.ensures.ascii (omega arith)
    ∙ rw (c.push_labelled-3.ensures.text, c.push_labelled-2.ensures.text, c.push_labelled.ensures.text, c.new-line.ensures) (totals_labels c.args.rows c.args.failed c.args.checks)
