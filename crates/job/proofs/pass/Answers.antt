-- `job::pass` meets its contract: the walk from the start is the placed commands (Begin.antt). Assumes nothing.
use Rattle.std.proofs.Common.{[], false, refl, ap, ◌∙◌}
use Rattle.std.proofs.lemmas.Result.{err_from_is_err_and}
use Rattle.layout.proofs.Numbers.{Bytes}
use Rattle.job.specs.Walking.{Finished, Paused, refused_there, progress_answer}
use Rattle.job.proofs.Begin.{ended}
use Rattle.job.proofs.pass.Goals as goal

pub returns-in_err-walked : goal.returns-in_err-walked
returns-in_err-walked c =
    let p = err_from_is_err_and c.from_residual.result c.from_residual.ensures.1 in
    let bytes : Bytes c.args.job.now = λ k. (c.type_inv.job k).fits in
    let e = ended false c.args.job.now [] bytes refl (refused_there c.in_err-walked.field-0.0) c.in_err-walked.ensures in
    rw (p.1, p.2) (record { size = e.0; fault = e.1 })

pub unreachable-requires : goal.unreachable-requires
unreachable-requires c =
    let bytes : Bytes c.args.job.now = λ k. (c.type_inv.job k).fits in
    ended false c.args.job.now [] bytes refl (Paused c.in-Paused.field-0) (c.in_ok-walked.ensures ∙ ap progress_answer c.in-Paused.is)

pub returns : goal.returns
returns c =
    let bytes : Bytes c.args.job.now = λ k. (c.type_inv.job k).fits in
    let e = ended false c.args.job.now [] bytes refl (Finished c.in-Finished.rows) (c.in_ok-walked.ensures ∙ ap progress_answer c.in-Finished.is) in
    record { size = e.0; fault = e.1 }
