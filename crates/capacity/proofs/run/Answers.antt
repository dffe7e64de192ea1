-- `capacity::run` meets its contract, in each of its cases (Runs.antt, WrittenRun.antt). Assumes nothing.
use Rattle.std.proofs.Common.{sym}
use Rattle.layout.proofs.Numbers.{Bytes}
use Rattle.std.proofs.lemmas.Result.{err_from_is_err_and}
use Rattle.capacity.proofs.Runs.{differ, refused_run_lem, accepted_run, short_run}
use Rattle.capacity.proofs.WrittenRun.{verdicts, answered, left, holds}
use Rattle.capacity.proofs.run.Goals as goal

pub returns-in_err-n : goal.returns-in_err-n
returns-in_err-n c =
    let p = err_from_is_err_and c.from_residual.result c.from_residual.ensures.1 in
    let r = refused_run_lem c.args.job.now _ _ c.args.rows.now c.in_err-n.ensures.size in
    rw (p.1, p.2) (record { answer = r.0; words = r.1; demand3 = λ f. absurd (differ (sym f)) })

pub returns-then-rows-n : goal.returns-then-rows-n
returns-then-rows-n c =
    let r = short_run c.args.job.now _ c.args.rows.now (accepted_run c.args.job.now _ c.in_ok-n.ensures.size) c.if-rows-n.true in
    record { answer = r.0; words = r.1; demand3 = λ f. absurd (differ (sym f)) }

pub count-requires-clause-verdicts : goal.count-requires-clause-verdicts
count-requires-clause-verdicts c =
    verdicts c.args.job.now (λ k. (c.type_inv.job k).fits) _ c.in_ok-n.ensures.size c.args.rows.now c.write_rows.new.rows c.if-rows-n.false c.write_rows.ensures

pub returns : goal.returns
returns c =
    let bytes : Bytes c.args.job.now = λ k. (c.type_inv.job k).fits in
    let e = c.in_ok-n.ensures.size in
    record {
      answer = answered c.args.job.now bytes _ e c.args.rows.now c.write_rows.new.rows c.if-rows-n.false c.write_rows.ensures c.count.result c.count.ensures;
      words = left c.args.job.now bytes _ e c.args.rows.now c.write_rows.new.rows c.if-rows-n.false c.write_rows.ensures;
      demand3 = λ f. holds c.args.job.now bytes _ e c.args.rows.now c.write_rows.new.rows c.if-rows-n.false c.write_rows.ensures;
    }
