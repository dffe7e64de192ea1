-- `report::put_text` meets its contract: the slice has room, so the page is printed (Paged.antt); the totals listed are those of the
-- rows. Assumes nothing.
use Rattle.printing.specs.Answers.{page_answer}
use Rattle.report.specs.Listing.{rows_listing}
use Rattle.report.proofs.Paged.{length_or_zero, paged}
use Rattle.report.proofs.put_text.Goals as goal

pub returns-then-paged : goal.returns-then-paged
returns-then-paged c =
    rw (c.if-paged.true, c.unwrap_or.ensures, length_or_zero c.page.result)
    (paged c.args.rows.now c.args.totals.rows c.args.out.now c.page.new.bytes (page_answer c.page.result) c.requires.words c.requires.narrow c.requires.room c.page.ensures.answer c.page.ensures.bytes)

pub returns-else-paged : goal.returns-else-paged
unfolding rows_listing
returns-else-paged c = rw (c.if-paged.false, ← c.requires.totals.failed, ← c.requires.totals.checks) c.put_listing.ensures
