-- `job::walk_without_rows` meets its contract: the walk from the start, with no words lent. Assumes nothing.
use Rattle.std.proofs.Common.{sym, ap, subst}
use Rattle.context.specs.Running.{JointTable}
use Rattle.job.specs.declared.Place.{Place}
use Rattle.job.specs.Walking.{Final, WalkAsks, first_place}
use Rattle.job.proofs.Begin.{begin_asks}
use Rattle.job.proofs.walk_without_rows.Goals as goal

pub walk-requires : goal.walk-requires
walk-requires c =
    record {
      asks =
          subst (λ (p : Place). WalkAsks c.args.job.now p c.args.joints.now) (sym c.first_place.ensures)
          (subst (λ (joints : JointTable). WalkAsks c.args.job.now first_place joints) (sym c.requires) (begin_asks c.args.job.now));
    }

pub returns : goal.returns
returns c = ap (λ (f : Final). f.answer) (rw (c.first_place.ensures, c.requires) at c.walk.ensures)
