-- `actions::action` meets its contract: V and ± a·E are handed on as they stand. Assumes nothing.
use mir.Facts.{to_z-of_z}
use Rattle.exact.proofs.Integers.{read_as}
use Rattle.actions.proofs.Sums.{action_is}
use Rattle.actions.proofs.action.Goals as goal

pub returns : goal.returns
returns c =
    let v = rw (to_z-of_z c.ranges.v) at c.from.ensures in
    let part = rw (to_z-of_z c.ranges.e) at c.seismic_part.ensures in
    rw (c.new.ensures, read_as v c.from.type_inv, read_as part c.seismic_part.type_inv)
    (action_is c.args.sign c.args.a.num c.args.a.den c.args.v c.args.e)
