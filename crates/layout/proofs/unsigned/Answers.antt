-- `layout::unsigned` meets its contract: the bytes behind zeros in a word of 4. Assumes nothing.
use Rattle.layout.proofs.Numbers.{word_number}
use Rattle.layout.proofs.unsigned.Goals as goal

pub returns : goal.returns
returns c = rw (c.from_be_bytes.ensures, c.copy_from_slice.ensures.after) (word_number c.args.bytes.now _ c.requires)
