-- `text::put_text` meets its contract: the part of the slice that the text takes is the text. Assumes nothing.
use Rattle.std.proofs.Common.{◌+◌, length, refl}
use Rattle.slices.proofs.Writing.{put_between}
use Rattle.text.proofs.put_text.Goals as goal

pub returns : goal.returns
returns c = put_between c.args.out.now c.args.at (c.args.at + length c.args.text.now) c.args.text.now c.copy_from_slice.ensures.after refl
