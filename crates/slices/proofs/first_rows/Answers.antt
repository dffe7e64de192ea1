-- `slices::first_rows` meets its contract: of the slice's whole rows it gives the first n (Rows.antt). Assumes nothing.
use Rattle.std.proofs.Common.{◌/◌, ◌≤◌, length, ap, ◌∙◌, arith}
use lib.ListN.{take}
use Rattle.slices.proofs.Rows.{take_chunks}
use Rattle.slices.proofs.first_rows.Goals as goal

pub returns : goal.returns
returns c =
    let whole = length c.args.words.now / 8 in
    let enough : c.args.n ≤ whole = omega arith in
    ap (take c.args.n) c.as_chunks.ensures.front ∙ take_chunks 8 c.args.n whole c.args.words.now enough
