-- `members::detail_row` meets its contract: both products, and the two bits, in the row of specs/ (Rows.antt). Assumes nothing.
use mathlib.Core.Path.{◌≡◌, ap, ◌∙◌}
use mathlib.Core.Bool.{◌&&◌}
use lib.Dec.{eqb}
use lib.IntN.{pos}
use borrow.Author.Rules.{rules}
use Rattle.exact.proofs.Integers.{returned, read_as}
use Rattle.members.proofs.Rows.{detail_is}
use Rattle.members.proofs.detail_row.Goals as goal
use Rattle.members.proofs.detail_row.Goals.{then-d-eq-WALL_BASE, else-d-eq-WALL_BASE}

pub returns : goal.returns
returns c =
    let d = c.args.d in
    let v = c.word in
    let lap : c.if-d-eq-WALL_BASE.lap ≡ (eqb d.place 2 && eqb d.lap 1) = elim c.if-d-eq-WALL_BASE.branch [ then-d-eq-WALL_BASE w ↦ search rules | else-d-eq-WALL_BASE w ↦ search rules ] in
    rw (read_as c.from.ensures c.from.type_inv, read_as c.from-2.ensures c.from-2.type_inv, returned {z = v.result} v.type_inv)
    (detail_is d c.if-d-eq-WALL_BASE.lap v.result lap (v.ensures ∙ ap pos c.verdict_of.ensures.value))
