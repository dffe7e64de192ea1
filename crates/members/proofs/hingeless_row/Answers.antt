-- `members::hingeless_row` meets its contract: V0 plus and minus the rounded shear, in the row of specs/ (Rows.antt). Assumes nothing.
use mathlib.Core.Path.{◌∙◌}
use native.Mathlib.Omega.{arith}
use lib.IntN.{pos, ◌+ℤ◌, ◌-ℤ◌}
use Rattle.exact.proofs.Integers.{returned, nat_abs_+ℤ, read_as, read32}
use Rattle.members.proofs.Steps.{read64, nat_abs_minus}
use Rattle.members.proofs.Rows.{hingeless_is}
use Rattle.members.proofs.hingeless_row.Goals as goal

pub returns : goal.returns
returns c =
    let z = c.args.m.nonseismic in
    let n = c.hingeless_shear.result in
    let v = c.shears_verdict in
    let rz = read_as (c.from-nonseismic.ensures ∙ read32 z c.requires.nonseismic) c.from-nonseismic.type_inv in
    let rn = read_as c.word-shear.ensures c.word-shear.type_inv in
    let ru = read64 (z +ℤ pos n) (omega (arith, nat_abs_+ℤ z (pos n), c.requires.nonseismic, c.hingeless_shear.ensures.bound)) in
    let rl = read64 (z -ℤ pos n) (omega (arith, nat_abs_minus z (pos n), c.requires.nonseismic, c.hingeless_shear.ensures.bound)) in
    let verdict = rw (rz, rn, ru, rl) at v.ensures in
    rw (rz, rn, ru, rl, read_as c.from.ensures c.from.type_inv, returned {z = v.result} v.type_inv)
    (hingeless_is c.args.settings c.args.j1 c.args.j2 c.args.m n v.result c.hingeless_shear.ensures.value verdict)
