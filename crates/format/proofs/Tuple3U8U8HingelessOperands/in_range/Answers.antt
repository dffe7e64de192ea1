-- `format::(u8, u8, Hingeless)::in_range` meets its contract: operand by operand. Assumes nothing.
use mathlib.Core.Path.{refl}
use mathlib.Core.Bool.{and-true}
use native.Mathlib.Omega.{arith}
use Rattle.format.specs.declared.Command.TheVariants.{Hingeless}
use Rattle.layout.specs.Forms.{form_in_range}
use Rattle.layout.specs.Layouts.{forms_of, forms_in}
use Rattle.format.specs.Commands.{related}
use Rattle.format.proofs.RangeTest.{in_turn, in_turn_alone}
use Rattle.layout.proofs.Numbers.{as_in_file}
use Rattle.quantity.specs.Range.{within}
use Rattle.quantity.specs.Quantities.{member_length}
use Rattle.format.proofs.Tuple3U8U8HingelessOperands.in_range.Goals as goal

pub returns : goal.returns
unfolding in_turn related form_in_range forms_of forms_in
returns c =
    let x = c.args.self in
    let m = x.2 in
    rw (
      c.member_in_range.ensures,
      c.in_range.ensures,
      c.in_range-2.ensures,
      c.signed_in_range.ensures,
      c.in_range-3.ensures,
      as_in_file m.nonseismic (omega arith),
    )
    (rw (and-true (within member_length m.length), and-true (within member_length m.length)) at (in_turn_alone (Hingeless x.0 x.1 m) refl))
