-- `report::printed_text` meets its contract, by the number of the job's bytes and run's answer. Assumes nothing.
use Rattle.std.proofs.Common.{◌≡◌, sym, ap, ◌∙◌, arith, rules}
use Rattle.report.specs.Page.{rows_text}
use Rattle.report.proofs.Answers.{listed, told, error_text, at_most, long_text, whole_text}
use Rattle.report.proofs.printed_text.Goals as goal
use Rattle.report.proofs.printed_text.Goals.{in-Refused, in-TooShort}

pub returns-then-job-gt-MOST_BYTES : goal.returns-then-job-gt-MOST_BYTES
returns-then-job-gt-MOST_BYTES c =
    let s = c.args in
    rw (long_text (rows_text s.paged) s.job.now (omega (arith, c.if-job-gt-MOST_BYTES.true))) (at_most c.put_refused.ensures (omega arith))

pub put_text-requires : goal.put_text-requires
put_text-requires c =
    let l = listed c.args.job.now (λ k. (c.type_inv.job k).fits) _ (search rules) _ c.in-Ok.ensures.answer _ c.run.ensures.words (search rules) in
    record { words = l.whole; totals = l.totals; narrow = l.narrow; room = omega (arith, l.few, c.requires) }

pub returns-in-Ok : goal.returns-in-Ok
returns-in-Ok c =
    let s = c.args in
    let l = listed s.job.now (λ k. (c.type_inv.job k).fits) _ (search rules) _ c.in-Ok.ensures.answer _ c.run.ensures.words (search rules) in
    rw (whole_text (rows_text s.paged) s.job.now (omega (arith, c.if-job-gt-MOST_BYTES.false)), l.text s.paged) (at_most c.put_text.ensures (omega (arith, l.few)))

pub returns-after-error : goal.returns-after-error
returns-after-error c =
    let s = c.args in
    let same : (c.match-error.error ≡ c.in-Err.error) × (c.match-error.offset ≡ told c.in-Err.error) =
    elim c.match-error.branch [
      | in-Refused w ↦ (w.error-is ∙ sym w.in-Refused.is, w.offset-is ∙ ap told (sym w.in-Refused.is))
      | in-TooShort w ↦ (w.error-is ∙ sym w.in-TooShort.is, w.offset-is ∙ ap told (sym w.in-TooShort.is))
    ] in
    rw (whole_text (rows_text s.paged) s.job.now (omega (arith, c.if-job-gt-MOST_BYTES.false)), error_text s.paged s.job.now c.in-Err.error c.in-Err.ensures.answer)
    (at_most (rw (c.from.ensures, c.number.ensures, same.0, same.1) at c.put_refused-in-Err.ensures) (omega arith))
