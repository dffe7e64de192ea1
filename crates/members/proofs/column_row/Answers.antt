-- `members::column_row` meets its contract: the exact shear, up, and the flag, in the row of specs/ (Rows.antt). Assumes nothing.
use mathlib.Core.Path.{◌≡◌, ◌∙◌}
use Rattle.exact.proofs.Integers.{returned, read_as}
use Rattle.exact.proofs.Rounding.{ceil_is}
use Rattle.coefficient.specs.Coefficient.{fraction}
use Rattle.members.specs.Column.{column_shear, column_governed}
use Rattle.members.proofs.Rows.{column_is}
use Rattle.members.proofs.column_row.Goals as goal

pub returns : goal.returns
returns c =
    let x = c.capacity_shear-shear in
    let sum = rw (c.from.ensures, c.from-2.ensures, c.from-3.ensures, c.from-4.ensures) at c.max-sum.ensures in
    let exact : fraction x.result.value ≡ column_shear c.args.behaviour c.args.c = rw sum at x.ensures.value in
    let governed : x.result.governs ≡ column_governed c.args.behaviour c.args.c = rw sum at x.ensures.governs in
    let demand = c.div_ceil-demand.ensures ∙ ceil_is x.result.value.num x.result.value.den x.ensures.range.positive in
    let verdict = rw c.from-strength.ensures at c.from-7.ensures in
    rw (read_as c.word.ensures c.word.type_inv, read_as c.from-5.ensures c.from-5.type_inv, returned {z = c.from-6.result} c.from-6.type_inv, returned {z = c.from-7.result} c.from-7.type_inv)
    (column_is c.args.behaviour c.args.c c.div_ceil-demand.result c.from-6.result c.from-7.result x.result exact governed demand c.from-6.ensures verdict)
