-- `job::walk_stretch` meets its contract: each way out, and the way on, is a law of Ways.antt. Assumes nothing.
use Rattle.std.proofs.Common.{ℕ, ◌+◌, ap, ◌∙◌, arith}
use Rattle.std.proofs.lemmas.Result.{err_from_is_err_and}
use borrow.Author.Tests.{eq-eqb, ne_eqb}
use Rattle.layout.specs.Layouts.{operands_width}
use Rattle.job.proofs.Faultless.{other_byte}
use Rattle.job.proofs.ReadHere.{read_here, end_here, no_end_here}
use Rattle.job.proofs.Ways.{pauses, ends_short, refused_early, refused_late, refused_building, building_on, bytes_after, done, ranged, single, on}
use Rattle.job.proofs.walk_stretch.Goals as goal

pub returns-then-job-offset : goal.returns-then-job-offset
returns-then-job-offset c = rw c.at.ensures (ends_short c.loop-left.invariant c.loop-left-test.true c.if-job-offset.true)

pub returns-in_err-place : goal.returns-in_err-place
returns-in_err-place c =
    let p = err_from_is_err_and c.from_residual.result c.from_residual.ensures.1 in
    let e = c.in_err-place.ensures in
    rw (p.1, p.2, e.refused.0, e.refused.1)
    (refused_building c.loop-left.invariant c.loop-left-test.true c.if-job-offset.false (eq-eqb _ 13 c.if-byte-eq-BUILDING.true) c.in_err-place.field-0.0.refusal e.number e.operand)

pub loop-left-preserved-then-byte-eq-BUILDING : goal.loop-left-preserved-then-byte-eq-BUILDING
loop-left-preserved-then-byte-eq-BUILDING c =
    let e = c.in_ok-place.ensures in
    building_on c.loop-left.invariant c.loop-left-test.true c.if-job-offset.false (eq-eqb _ 13 c.if-byte-eq-BUILDING.true) e.number c.pass_building.new.joints c.in_ok-place.place e.passed.1 e.passed.0

pub returns-in_err-bytes : goal.returns-in_err-bytes
returns-in_err-bytes c =
    let p = err_from_is_err_and c.from_residual-in_err-bytes.result c.from_residual-in_err-bytes.ensures.1 in
    let e = c.in_err-bytes.ensures in
    rw (p.1, p.2, e.offset) (
    refused_early c.loop-left.invariant c.loop-left-test.true c.if-job-offset.false (other_byte _ c.if-byte-eq-BLOCK.false) c.in_err-bytes.field-0.0.refusal e.number e.operand
    )

pub returns-in_err-test_late : goal.returns-in_err-test_late
returns-in_err-test_late c =
    let p = err_from_is_err_and c.from_residual-in_err-test_late.result c.from_residual-in_err-test_late.ensures.1 in
    let b = c.in_ok-bytes.ensures in
    let e = c.in_err-test_late.ensures in
    let r = read_here c.args.job.now c.loop-left.place.offset c.in_ok-bytes.bytes.kind b.kind b.operands c.read-command.ensures in
    rw (p.1, p.2, e.offset) (
    refused_late c.loop-left.invariant c.loop-left-test.true c.if-job-offset.false (other_byte _ c.if-byte-eq-BLOCK.false) b.number r c.in_err-test_late.field-0.0.refusal e.number e.operand
    )

pub returns-then-offset-job : goal.returns-then-offset-job
returns-then-offset-job c =
    let b = c.in_ok-bytes.ensures in
    let r = read_here c.args.job.now c.loop-left.place.offset c.in_ok-bytes.bytes.kind b.kind b.operands c.read-command.ensures in
    rw c.at-then-offset-job.ensures (
    bytes_after c.loop-left.invariant c.loop-left-test.true c.if-job-offset.false (other_byte _ c.if-byte-eq-BLOCK.false) b.number r c.in_ok-test_late.ensures.number (end_here c.args.job.now c.loop-left.place.offset c.in_ok-bytes.bytes.kind b.kind c.in-Finish.is) c.if-offset-job.true
    )

pub returns-in-Finish : goal.returns-in-Finish
returns-in-Finish c =
    let b = c.in_ok-bytes.ensures in
    let r = read_here c.args.job.now c.loop-left.place.offset c.in_ok-bytes.bytes.kind b.kind b.operands c.read-command.ensures in
    done c.loop-left.invariant c.loop-left-test.true c.if-job-offset.false (other_byte _ c.if-byte-eq-BLOCK.false) b.number r c.in_ok-test_late.ensures.number (end_here c.args.job.now c.loop-left.place.offset c.in_ok-bytes.bytes.kind b.kind c.in-Finish.is) c.if-offset-job.false

pub carry_out-requires : goal.carry_out-requires
carry_out-requires c =
    let a = c.loop-left.invariant.asks in
    let b = c.in_ok-bytes.ensures in
    let r = read_here c.args.job.now c.loop-left.place.offset c.in_ok-bytes.bytes.kind b.kind b.operands c.read-command.ensures in
    record {
      state = a.state;
      joints = a.joints;
      ranged = ranged c.loop-left.invariant c.loop-left-test.true c.if-job-offset.false (other_byte _ c.if-byte-eq-BLOCK.false) b.number r c.in_ok-test_late.ensures.number;
      offset = omega (arith, c.if-job-offset.false, c.well_formed);
      commands = a.commands;
      single = single c.loop-left.invariant c.loop-left-test.true c.if-job-offset.false (other_byte _ c.if-byte-eq-BLOCK.false) b.number r c.in_ok-test_late.ensures.number (ne_eqb _ 13 c.if-byte-eq-BUILDING.false);
      rows = omega (arith, a.rows, a.commands);
    }

pub loop-left-preserved : goal.loop-left-preserved
loop-left-preserved c =
    let b = c.in_ok-bytes.ensures in
    let r = read_here c.args.job.now c.loop-left.place.offset c.in_ok-bytes.bytes.kind b.kind b.operands c.read-command.ensures in
    on c.loop-left.invariant c.loop-left-test.true c.if-job-offset.false (other_byte _ c.if-byte-eq-BLOCK.false) b.number r c.in_ok-test_late.ensures.number c.carry_out.new.joints c.carry_out.new.rows c.carry_out.new.place
    (ap (λ (n : ℕ). c.loop-left.place.offset + 1 + n) (c.width.ensures ∙ ap operands_width b.kind)) (rw c.loop-left.invariant.rows_kept at c.carry_out.ensures.place) c.carry_out.ensures.joints c.carry_out.ensures.memory
    (no_end_here c.args.job.now c.loop-left.place.offset c.in_ok-bytes.bytes.kind b.kind c.in_default.not-Finish)

pub returns : goal.returns
returns c = pauses c.loop-left.invariant (omega arith)
