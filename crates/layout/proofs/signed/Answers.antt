-- `layout::signed` meets its contract: the library's i32 is that of the specification. Assumes nothing.
use mathlib.Core.Path.{ap, ◌∙◌}
use Rattle.layout.specs.Number.{signed32}
use Rattle.layout.proofs.Numbers.{returned_as, signed_is}
use Rattle.layout.proofs.signed.Goals as goal

pub returns : goal.returns
returns c = returned_as c.cast_signed.type_inv (c.cast_signed.ensures ∙ signed_is c.unsigned.result ∙ ap signed32 c.unsigned.ensures)
