-- `job::pass_building` meets its contract: another building leaves nothing given. Assumes nothing.
use Rattle.std.proofs.Common.{ap}
use Rattle.context.specs.declared.State.{State}
use Rattle.context.specs.Running.{next_state, next_joints}
use Rattle.format.proofs.RangeTest.{building_in_range}
use Rattle.job.specs.declared.Place.{Place}
use Rattle.job.specs.Walking.{behind_building}
use Rattle.job.proofs.pass_building.Goals as goal

pub next-requires : goal.next-requires
next-requires c = record { state = c.requires.state; ranged = building_in_range }

pub returns-clause-passed : goal.returns-clause-passed
unfolding next_state next_joints
returns-clause-passed c =
    let with_state : State → Place = λ t. record { offset = (behind_building c.args.place).offset; counts = (behind_building c.args.place).counts; rows = c.args.place.rows; state = t } in
    (ap with_state c.next.ensures, c.hold_joint.ensures)
