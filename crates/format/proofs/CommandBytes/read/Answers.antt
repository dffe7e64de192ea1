-- `format::CommandBytes::read` meets its contract: a command by itself is no block. Assumes nothing.
use Rattle.layout.proofs.KnownBytes.{block_unknown, not_both}
use Rattle.format.proofs.CommandBytes.read.Goals as goal

pub unreachable-requires : goal.unreachable-requires
unreachable-requires c = not_both 11 (rw c.in-Block.is at c.args.self.single) block_unknown
