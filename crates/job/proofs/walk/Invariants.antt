-- `job::walk` meets its contract. The loop's invariant: the whole walk is what is left of it (Stands.antt), before each stretch. A
-- stretch leaves the answer, or a block, which `pass_block` refuses or passes. Assumes nothing.
use Rattle.std.proofs.Common.{length}
use Rattle.context.specs.Running.{room_for}
use Rattle.job.specs.Walking.{walk_from}
use Rattle.job.proofs.Stands.{Stands}
use Rattle.job.proofs.walk.Given as goal

abbrev pub invariant-loop-progress : goal.invariant-loop-progress
invariant-loop-progress l =
    Stands (room_for (length l.initial.rows)) (walk_from (room_for (length l.initial.rows)) l.initial.left l.job l.initial.place l.initial.joints l.initial.rows) l.job
    l.initial.rows l.joints l.rows l.place l.left

abbrev pub decreases-loop-progress : goal.decreases-loop-progress
decreases-loop-progress l = l.left
