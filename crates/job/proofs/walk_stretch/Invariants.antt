-- `job::walk_stretch` meets its contract. The loop's invariant: the whole walk is what is left of it (Stands.antt). Each way out, and the
-- way on, is a law of Ways.antt. Assumes nothing.
use Rattle.std.proofs.Common.{length}
use Rattle.context.specs.Running.{room_for}
use Rattle.job.specs.Walking.{walk_from}
use Rattle.job.proofs.Stands.{Stands}
use Rattle.job.proofs.walk_stretch.Given as goal

abbrev pub invariant-loop-left : goal.invariant-loop-left
invariant-loop-left l =
    Stands (room_for (length l.initial.rows)) (walk_from (room_for (length l.initial.rows)) l.budget l.job l.initial.place l.initial.joints l.initial.rows) l.job
    l.initial.rows l.joints l.rows l.place l.left
