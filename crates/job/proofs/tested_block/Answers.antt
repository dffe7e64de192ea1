-- `job::tested_block` meets its contract: of a set at fault, the operand that is named. Assumes nothing.
use Rattle.std.proofs.Common.{◌+◌, sym, ap, ◌∙◌, arith}
use Rattle.blocks.specs.Sets.{count_at, operand_named as set_named}
use Rattle.blocks.proofs.Sets.{storeys_of_slice}
use Rattle.job.proofs.Steps.{set_at}
use Rattle.job.proofs.tested_block.Goals as goal

pub returns-in-Some-clause-operand : goal.returns-in-Some-clause-operand
returns-in-Some-clause-operand c =
    let job = c.args.job.now in
    let at = c.args.place.offset in
    let n = c.from-count.ensures in
    let m = rw n at c.if-bytes-count.false in
    let e = rw n at c.in-Some.ensures ∙ ap set_named (storeys_of_slice job (at + 2) (count_at job at) _ (omega arith) (omega (arith, m, c.requires.asks.inside))) in
    rw c.at-in-Some.ensures (sym (set_at job at c.requires.asks.block c.in-Some.named e (sym (rw n at c.if-not-count_in_range.ensures))))
