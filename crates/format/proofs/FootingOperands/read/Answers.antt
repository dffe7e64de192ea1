-- `format::Footing::read` meets its contract: each operand at its offset. Assumes nothing.
use Rattle.layout.specs.Forms.{width}
use Rattle.layout.specs.Layouts.{forms_of, forms_in}
use Rattle.layout.specs.Operands.{offset_of, operand}
use Rattle.layout.proofs.Numbers.{returned_as}
use Rattle.format.specs.Commands.{command_of}
use Rattle.format.proofs.FootingOperands.read.Goals as goal

pub returns : goal.returns
unfolding operand offset_of width forms_of forms_in command_of
returns c =
    rw (
      c.unsigned.ensures,
      c.unsigned-2.ensures,
      c.unsigned-3.ensures,
      c.unsigned-4.ensures,
      returned_as c.signed.type_inv c.signed.ensures,
      returned_as c.signed-2.type_inv c.signed-2.ensures,
      returned_as c.signed-3.type_inv c.signed-3.ensures,
      returned_as c.signed-4.type_inv c.signed-4.ensures,
      returned_as c.signed-5.type_inv c.signed-5.ensures,
      returned_as c.signed-6.type_inv c.signed-6.ensures,
      returned_as c.signed-7.type_inv c.signed-7.ensures,
      returned_as c.signed-8.type_inv c.signed-8.ensures,
      c.unsigned-5.ensures,
      c.unsigned-6.ensures,
      c.unsigned-7.ensures,
    )
