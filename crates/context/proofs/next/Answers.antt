-- `context::next` meets its contract: a soil's values are in range. Assumes nothing.
use Rattle.format.proofs.CommandRanges.{soil_in_range}
use Rattle.context.proofs.next.Goals as goal

pub ground_given-requires : goal.ground_given-requires
ground_given-requires c =
    let o = soil_in_range _ (rw c.in-Soil.is at c.requires.ranged) in
    record { kind = o.kind; allowed = o.allowed }
