-- `capacity::write_rows` meets its contract: the walk from the start writes the rows (Written.antt). Assumes nothing.
use mathlib.Core.Path.{sym, ap, ◌∙◌, subst}
use lib.ListN.{length}
use Rattle.context.specs.Running.{room_for, no_joints}
use Rattle.job.specs.declared.Place.{Place}
use Rattle.job.specs.Walking.{Final, walk_from, WalkAsks}
use Rattle.job.proofs.Begin.{begin_asks}
use Rattle.capacity.proofs.Written.{walk_writes}
use Rattle.capacity.proofs.write_rows.Goals as goal

pub walk-requires : goal.walk-requires
walk-requires c =
    record {
      asks = subst (λ (p : Place). WalkAsks c.args.job.now p no_joints) (sym c.first_place.ensures) (begin_asks c.args.job.now);
    }

pub returns : goal.returns
returns c =
    record {
      written = λ ps e h.
          sym (ap (λ (x : Final). x.memory) c.walk.ensures)
          ∙ ap (λ (p : Place). (walk_from (room_for (length c.args.rows.now)) 4097 c.args.job.now p no_joints c.args.rows.now).memory) c.first_place.ensures
          ∙ walk_writes c.args.job.now c.args.rows.now (λ k. (c.type_inv.job k).fits) ps e h;
    }
