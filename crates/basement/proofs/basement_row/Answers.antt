-- `basement::basement_row` meets its contract: V ± a·E up and down, and the bit of the two tests, in the row of specs/ (Rows.antt).
-- Assumes nothing.
use mathlib.Core.Path.{◌∙◌, ap}
use mathlib.Core.Bool.{Bool}
use lib.IntN.{pos}
use Rattle.claims.specs.Verdict.{flag}
use Rattle.exact.proofs.Integers.{returned, read_as, read32}
use Rattle.coefficient.specs.Coefficient.{fraction}
use Rattle.basement.proofs.Rows.{basement_is}
use Rattle.basement.proofs.basement_row.Goals as goal

pub returns : goal.returns
returns c =
    let u = c.up-upper in
    let l = c.down-lower in
    let w = c.from in
    let v = c.word in
    let steady = read32 c.args.steady c.requires.range.steady in
    let seismic = read32 (pos c.args.seismic) c.requires.range.seismic in
    let upper = rw (rw (steady, seismic) at c.action.ensures) at u.ensures in
    let lower = rw (rw (steady, seismic) at c.action-2.ensures) at l.ensures in
    let ru = returned {z = u.result} u.type_inv in
    let rl = returned {z = l.result} l.type_inv in
    let exceeded = rw (ru, rl) at c.either_exceeds-exceeded.ensures in
    let verdict = v.ensures ∙ ap pos (c.flagged.ensures ∙ ap (λ (t : Bool). flag c.args.bit t) exceeded) in
    rw (ru, rl, read_as w.ensures w.type_inv, returned {z = v.result} v.type_inv)
    (basement_is c.args.bit (fraction c.args.a) c.args.steady c.args.seismic c.args.strength u.result l.result v.result upper lower verdict)
