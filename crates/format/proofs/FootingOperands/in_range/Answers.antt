-- `format::Footing::in_range` meets its contract: operand by operand. Assumes nothing.
use mathlib.Core.Path.{refl}
use native.Mathlib.Omega.{arith}
use Rattle.format.specs.declared.Command.TheVariants.{Footing}
use Rattle.layout.specs.Forms.{form_in_range}
use Rattle.layout.specs.Layouts.{forms_of, forms_in}
use Rattle.format.specs.Commands.{related}
use Rattle.format.proofs.RangeTest.{in_turn, in_turn_alone}
use Rattle.layout.proofs.Numbers.{as_in_file}
use Rattle.format.proofs.FootingOperands.in_range.Goals as goal

pub returns : goal.returns
unfolding in_turn related form_in_range forms_of forms_in
returns c =
    let f = c.args.self in
    rw (
      c.side_in_range.ensures,
      c.side_in_range-2.ensures,
      c.in_range.ensures,
      c.in_range-2.ensures,
      c.signed_in_range.ensures,
      c.signed_in_range-2.ensures,
      c.signed_in_range-3.ensures,
      c.signed_in_range-4.ensures,
      c.signed_in_range-5.ensures,
      c.signed_in_range-6.ensures,
      c.signed_in_range-7.ensures,
      c.signed_in_range-8.ensures,
      c.in_range-3.ensures,
      c.in_range-4.ensures,
      c.in_range-5.ensures,
      as_in_file f.nv (omega arith),
      as_in_file f.ne (omega arith),
      as_in_file f.xv (omega arith),
      as_in_file f.xe (omega arith),
      as_in_file f.yv (omega arith),
      as_in_file f.ye (omega arith),
      as_in_file f.hv (omega arith),
      as_in_file f.he (omega arith),
    )
    (in_turn_alone (Footing f) refl)
