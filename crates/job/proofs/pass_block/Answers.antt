-- `job::pass_block` meets its contract: the way out, and the way on, are laws of Ways.antt. Assumes nothing.
use Rattle.std.proofs.Common.{sym, arith}
use Rattle.std.proofs.lemmas.Result.{err_from_is_err_and}
use Rattle.context.specs.Running.{room_for}
use Rattle.std.proofs.Common.{length}
use Rattle.job.proofs.ReadHere.{sets_width, sets_here}
use Rattle.job.proofs.Steps.{block_passed}
use Rattle.job.proofs.Stands.{standing}
use Rattle.job.proofs.Ways.{refused_block, block_on}
use Rattle.job.proofs.pass_block.Goals as goal

pub returns-in_err-sets : goal.returns-in_err-sets
returns-in_err-sets c =
    let p = err_from_is_err_and c.from_residual.result c.from_residual.ensures.1 in
    let e = c.in_err-sets.ensures in
    rw (p.1, p.2, e.offset) (λ left joints l asks.
    let room = room_for (length c.args.rows.now) in
    refused_block (standing room c.args.job.now joints c.args.rows.now c.args.place left asks) l c.requires.asks.inside c.requires.asks.block
    c.in_err-sets.field-0.0.refusal e.number e.operand)

pub emit_sets-written-requires : goal.emit_sets-written-requires
emit_sets-written-requires c =
    let p = block_passed c.args.job.now c.args.place (sym c.in_ok-sets.ensures.number) in
    let w = sets_width c.args.job.now c.args.place.offset p.whole c.in_ok-sets.ensures.sets in
    let a = c.requires.asks in
    record {
      wall = rw c.running-wall.ensures a.state.wall;
      asks = rw (sets_here c.args.job.now c.args.place.offset p.whole c.in_ok-sets.ensures.sets) p.ranged;
      offset = omega (arith, w, p.whole, c.well_formed);
      rows = omega (arith, w, a.rows, p.few);
    }

pub returns : goal.returns
returns c left joints l asks =
    let m = c.emit_sets-written in
    let on = block_on (standing (room_for (length c.args.rows.now)) c.args.job.now joints c.args.rows.now c.args.place left asks) l c.requires.asks.inside c.requires.asks.block
    c.in_ok-sets.ensures.number c.in_ok-sets.sets.now c.in_ok-sets.ensures.sets m.new.rows m.result (rw c.running-wall.ensures at m.ensures.memory) m.ensures.count in
    (on.same, on.asks)
