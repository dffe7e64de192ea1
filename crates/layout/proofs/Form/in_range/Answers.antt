-- `layout::Form::in_range` meets its contract at a signed operand: the library's i32 is that of the specification. Assumes nothing.
use Rattle.layout.specs.Forms.{form_in_range}
use Rattle.layout.proofs.Numbers.{returned, signed_is}
use Rattle.layout.proofs.Form.in_range.Goals as goal

pub returns-in-SignedMoment : goal.returns-in-SignedMoment
unfolding form_in_range
returns-in-SignedMoment c =
    rw c.in-SignedMoment.is (rw (returned c.cast_signed.type_inv, c.cast_signed.ensures, signed_is c.args.value) at c.signed_in_range.ensures)

pub returns-in-SignedForce : goal.returns-in-SignedForce
unfolding form_in_range
returns-in-SignedForce c =
    rw c.in-SignedForce.is (rw (returned c.cast_signed-in-SignedForce.type_inv, c.cast_signed-in-SignedForce.ensures, signed_is c.args.value) at c.signed_in_range-in-SignedForce.ensures)
