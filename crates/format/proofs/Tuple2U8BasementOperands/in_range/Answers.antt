-- `format::(u8, Basement)::in_range` meets its contract: operand by operand, and the id of a wall. Assumes nothing.
use mathlib.Core.Bool.{and-true}
use native.Mathlib.Omega.{arith}
use Rattle.format.specs.declared.Command.TheVariants.{Basement}
use Rattle.layout.specs.Forms.{to, form_in_range}
use Rattle.layout.specs.Layouts.{forms_of, forms_in}
use Rattle.format.specs.Commands.{related}
use Rattle.format.proofs.RangeTest.{in_turn, in_turn_lem}
use Rattle.layout.proofs.Numbers.{as_in_file}
use Rattle.quantity.specs.Range.{within}
use Rattle.format.proofs.Tuple2U8BasementOperands.in_range.Goals as goal

pub returns : goal.returns
unfolding in_turn related form_in_range forms_of forms_in
returns c =
    let x = c.args.self in
    let m = x.1 in
    rw (
      c.in_range.ensures,
      c.signed_in_range.ensures,
      c.in_range-2.ensures,
      c.signed_in_range-2.ensures,
      c.in_range-3.ensures,
      c.in_range-4.ensures,
      c.in_range-5.ensures,
      as_in_file m.nonseismic_shear (omega arith),
      as_in_file m.nonseismic_moment (omega arith),
    )
    (rw (and-true (within (to 0 1) m.place)) at (in_turn_lem (Basement x.0 m)))
