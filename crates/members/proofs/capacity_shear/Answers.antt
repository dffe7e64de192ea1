-- `members::capacity_shear` meets its contract: the smaller of both fits (Steps.antt). Assumes nothing.
use Rattle.members.proofs.Steps.{smaller_fits}
use Rattle.members.proofs.capacity_shear.Goals as goal

pub returns-clause-range : goal.returns-clause-range
returns-clause-range c =
    smaller_fits c.smaller.result.value (rw (c.from.ensures, c.from-2.ensures, c.from-3.ensures) at c.smaller.ensures.value) c.requires
