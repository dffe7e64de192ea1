-- `totals::count` meets its contract: the rows before `row` are counted (Counting.antt), and a verdict, which is in its range, is read
-- back from its bits (Verdicts.antt). Assumes nothing.
use Rattle.std.proofs.Common.{◌≡◌, ℕ, ◌≤◌, length, arith, refl, ap, ◌∙◌}
use mir.Facts.{to_z-of_z}
use Rattle.slices.proofs.Rows.{length_chunks}
use Rattle.totals.specs.Rows.{verdict_at, row_failed, checks_of}
use Rattle.totals.proofs.Verdicts.{good_fits, failed_byte, row_failed_le, checks_le}
use Rattle.totals.proofs.Counting.{reached, begun, failed_le, turn, with_rows, ended}
use Rattle.totals.proofs.count.Goals as goal

pub loop-row-init : goal.loop-row-init
loop-row-init c = record { rows = refl; counting = begun c.args.rows.now c.args.n }

pub overflow_add-totals : goal.overflow_add-totals
overflow_add-totals c =
    let words = c.args.rows.now in
    let i = c.loop-row.row-index in
    let r = reached words c.args.n i c.first_rows-first.result.now c.first_rows-first.ensures c.requires.verdicts c.loop-row-test.true in
    let one : c.from.result ≡ row_failed (verdict_at words i) = c.from.ensures ∙ rw r.is (failed_byte (verdict_at words i) (good_fits _ r.good)) in
    omega (arith, one, row_failed_le (verdict_at words i), failed_le words c.args.n c.loop-row.invariant.counting, c.requires.room)

pub checks_failed-requires : goal.checks_failed-requires
checks_failed-requires c =
    let r = reached c.args.rows.now c.args.n c.loop-row.row-index c.first_rows-first.result.now c.first_rows-first.ensures c.requires.verdicts c.loop-row-test.true in
    rw (r.is, to_z-of_z (good_fits _ r.good)) r.good

pub overflow_add-totals-in-loop-row : goal.overflow_add-totals-in-loop-row
overflow_add-totals-in-loop-row c =
    let words = c.args.rows.now in
    let i = c.loop-row.row-index in
    let r = reached words c.args.n i c.first_rows-first.result.now c.first_rows-first.ensures c.requires.verdicts c.loop-row-test.true in
    let some : c.checks_failed.result ≡ checks_of (verdict_at words i) = rw (r.is, to_z-of_z (good_fits _ r.good)) at c.checks_failed.ensures in
    omega (arith, some, checks_le (verdict_at words i) r.good, c.loop-row.invariant.counting.at_most_eight, c.requires.room)

pub loop-row-preserved : goal.loop-row-preserved
loop-row-preserved c =
    let words = c.args.rows.now in
    let i = c.loop-row.row-index in
    let r = reached words c.args.n i c.first_rows-first.result.now c.first_rows-first.ensures c.requires.verdicts c.loop-row-test.true in
    let fits = good_fits (verdict_at words i) r.good in
    let one : c.from.result ≡ row_failed (verdict_at words i) = c.from.ensures ∙ rw r.is (failed_byte (verdict_at words i) fits) in
    let some : c.checks_failed.result ≡ checks_of (verdict_at words i) = rw (r.is, to_z-of_z fits) at c.checks_failed.ensures in
    record { rows = c.loop-row.invariant.rows; counting = rw (one, some) (turn words c.args.n c.loop-row.invariant.counting r.within r.good) }

pub returns : goal.returns
returns c =
    let t = c.loop-row.totals in
    let all : c.args.n ≤ c.loop-row.row-index = omega (arith, ap length c.first_rows-first.ensures, length_chunks 8 c.args.n c.args.rows.now) in
    ap (λ (k : ℕ). with_rows k t.failed t.checks) c.loop-row.invariant.rows ∙ ended c.args.rows.now c.args.n c.loop-row.invariant.counting all
