-- `cube_of` meets its contract: the table holds the cubes (Held.antt). Assumes nothing.
use Rattle.cubes.proofs.Held.{is_cubes}
use Rattle.cubes.proofs.cube_of.Goals as goal

pub returns : goal.returns
returns c = is_cubes.entry _ c.requires
