-- `numbers::put_signed` meets its contract: the library's 32 bits of an i32. Assumes nothing.
use mir.Facts.{to_z-of_z}
use Rattle.numbers.proofs.Signs.{bits_is}
use Rattle.numbers.proofs.put_signed.Goals as goal

pub returns : goal.returns
returns c = rw (← bits_is c.args.value) (rw (c.cast_unsigned.ensures, to_z-of_z c.ranges.value) at c.put.ensures)
