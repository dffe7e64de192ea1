-- `table` meets its contract: the entries are the cubes (Held.antt). Assumes nothing.
use Rattle.cubes.proofs.Held.{is_cubes}
use Rattle.cubes.proofs.table.Goals as goal

pub returns : goal.returns
returns c = is_cubes
