-- `context::wall_kept` meets its contract: the settings and the base are in range. Assumes nothing.
use Rattle.std.proofs.Common.{arith}
use Rattle.context.proofs.Ranges.{wall_base_range}
use Rattle.context.proofs.wall_kept.Goals as goal

pub wall_of-requires : goal.wall_of-requires
wall_of-requires c =
    let r = rw c.in-Some.is at c.requires.settings in
    wall_base_range _ (omega arith) _ c.requires.ranged
