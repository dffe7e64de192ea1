-- `numbers::put` meets its contract: the last bytes of the number, in the place of the slice. Assumes nothing.
use Rattle.numbers.proofs.Stores.{last_bytes}
use Rattle.numbers.proofs.put.Goals as goal

pub returns : goal.returns
returns g c = rw (c.copy_from_slice.ensures.after, c.to_be_bytes.ensures) (last_bytes g.row.N c.args.value c.requires.width)
