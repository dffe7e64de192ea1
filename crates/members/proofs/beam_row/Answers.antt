-- `members::beam_row` meets its contract: V0 plus and minus the shear of each direction, and the flag of each, in the row of specs/
-- (Rows.antt). Assumes nothing.
use mathlib.Core.Path.{ap, ◌∙◌}
use Rattle.coefficient.specs.Coefficient.{fraction}
use Rattle.exact.specs.SignedFraction.{SignedFraction, up_s, down_s}
use Rattle.exact.proofs.Integers.{returned, read_as, read32}
use Rattle.actions.proofs.Sums.{plus_one, minus_one}
use Rattle.members.proofs.Rows.{beam_is}
use Rattle.members.proofs.Steps.{shear_fits}
use Rattle.members.proofs.beam_row.Goals as goal

pub action-requires : goal.action-requires
action-requires c =
    let b = c.args.b in
    rw (read32 b.nonseismic c.requires.nonseismic)
    (shear_fits b.nonseismic c.capacity_shear-added.result.value c.requires.nonseismic c.capacity_shear-added.ensures.range)

pub action-requires-2 : goal.action-requires-2
action-requires-2 c =
    let b = c.args.b in
    rw (read32 b.nonseismic c.requires.nonseismic)
    (shear_fits b.nonseismic c.capacity_shear-taken.result.value c.requires.nonseismic c.capacity_shear-taken.ensures.range)

pub returns : goal.returns
returns c =
    let b = c.args.b in
    let x = c.capacity_shear-added in
    let y = c.capacity_shear-taken in
    let z = read32 b.nonseismic c.requires.nonseismic in
    let sum = rw z at c.action.ensures in
    let difference = rw z at c.action-2.ensures in
    let upper = c.up-upper.ensures ∙ ap (λ (s : SignedFraction). up_s s) (sum ∙ plus_one (fraction x.result.value) b.nonseismic) in
    let lower = c.down-lower.ensures ∙ ap (λ (s : SignedFraction). down_s s) (difference ∙ minus_one (fraction y.result.value) b.nonseismic) in
    let ru = returned {z = c.up-upper.result} c.up-upper.type_inv in
    let rl = returned {z = c.down-lower.result} c.down-lower.type_inv in
    let v = c.shears_verdict in
    let verdict = rw (ru, rl) at v.ensures in
    let rp = returned {z = c.from-6.result} c.from-6.type_inv in
    let rm = returned {z = c.from-7.result} c.from-7.type_inv in
    let plus = rw (c.from.ensures, c.from-2.ensures) at x.ensures.value in
    let plus_governs = rw (c.from.ensures, c.from-2.ensures) at x.ensures.governs in
    let minus = rw (c.from-3.ensures, c.from-4.ensures) at y.ensures.value in
    let minus_governs = rw (c.from-3.ensures, c.from-4.ensures) at y.ensures.governs in
    rw (ru, rl, read_as c.from-5.ensures c.from-5.type_inv, rp, rm, returned {z = v.result} v.type_inv)
    (beam_is c.args.behaviour b c.up-upper.result c.down-lower.result c.from-6.result c.from-7.result v.result x.result y.result (plus, plus_governs) (minus, minus_governs)
    upper lower c.from-6.ensures c.from-7.ensures verdict)
