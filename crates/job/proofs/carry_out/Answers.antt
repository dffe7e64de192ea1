-- `job::carry_out` meets its contract: a command in range leaves a sound state and sound joints. Assumes nothing.
use Rattle.context.specs.Running.{room_for}
use Rattle.std.proofs.Common.{length}
use Rattle.context.proofs.Laws.{next_sound, joints_sound}
use Rattle.job.proofs.carry_out.Goals as goal

pub emit-place-requires-clause-asks : goal.emit-place-requires-clause-asks
emit-place-requires-clause-asks c =
    record {
      state = rw c.next.ensures (next_sound (room_for (length c.args.rows.now)) c.args.place.now.state c.args.command c.requires.state c.requires.ranged);
      joints = rw c.hold_joint.ensures (joints_sound c.args.joints.now c.args.command c.requires.joints c.requires.ranged);
      ranged = c.requires.ranged;
    }
