-- `printing::put_page` meets its contract: the page of the first `lines` rows is written. Assumes nothing.
use Rattle.std.proofs.Common.{◌≡◌, ◌≤◌, ◌<◌, ◌*◌, ◌+◌, ℕ, List, ℤ, [], false, length, get_or, ap, ◌∙◌, arith, add-one}
use borrow.Author.Rules.{rules}
use Rattle.std.specs.Simd.{first_chunks}
use Rattle.text.specs.Lines.{row_words}
use Rattle.slices.specs.Written.{Writes}
use Rattle.slices.proofs.Writing.{nothing, then, put_between}
use Rattle.slices.proofs.Rows.{length_chunks, chunk_at}
use Rattle.printing.specs.Page.{widths, page_text, page_length, page_line}
use Rattle.printing.specs.Answers.{any_too_wide, page_too_wide}
use Rattle.printing.proofs.Scan.{narrow_before, narrow_row}
use Rattle.printing.proofs.LineSteps.{length_line}
use Rattle.printing.proofs.Lengths.{length_feed, page_length_lem}
use Rattle.printing.proofs.put_page.Goals as goal

-- a turn begins where the page of the rows before it ends
record Turn (words : List ℤ) (n row at : ℕ) (word : List ℤ) : Type 0 where
  within : row < n
  place : at ≡ page_length row
  is : word ≡ row_words words row
  narrow : any_too_wide widths word ≡ false

turn : (words : List ℤ) (n row : ℕ) {rows : List (List ℤ)} {at : ℕ} {before out : List ℕ} → 8 * n ≤ length words → page_too_wide words n ≡ false
    → rows ≡ first_chunks 8 n words → row < length rows → Writes before 0 (page_text words row) out at → Turn words n row at (get_or rows row [])
turn words n row {rows} h e is l w =
    let within : row < n = omega (arith, ap length is, length_chunks 8 n words) in
    let same : get_or rows row [] ≡ row_words words row = ap (λ r. get_or r row []) is ∙ chunk_at n row words [] within in
    record {
      within = within;
      place = omega (arith, w.position, page_length_lem words row (omega arith) (narrow_before words row n (omega arith) e));
      is = same;
      narrow = ap (any_too_wide widths) same ∙ narrow_row words row n within e;
    }

pub loop-lines-init : goal.loop-lines-init
unfolding page_text
loop-lines-init c = nothing c.args.out.now 0

pub put_feed-line-requires : goal.put_feed-line-requires
put_feed-line-requires c =
    let t = turn c.args.rows.now c.args.n c.loop-lines.lines c.requires.words c.requires.narrow c.first_rows-first.ensures c.loop-lines-test.true c.loop-lines.invariant in
    omega (arith, t.within, t.place, c.requires.room)

pub overflow_add-at : goal.overflow_add-at
overflow_add-at c =
    let t = turn c.args.rows.now c.args.n c.loop-lines.lines c.requires.words c.requires.narrow c.first_rows-first.ensures c.loop-lines-test.true c.loop-lines.invariant in
    let room : c.put_feed-line.result + 81 ≤ length c.put_feed-line.new.out = omega (arith, t.within, t.place, c.requires.room, c.put_feed-line.ensures.position, length_feed c.loop-lines.lines) in
    search rules

pub slice_bounds-put_line-end : goal.slice_bounds-put_line-end
slice_bounds-put_line-end c =
    let t = turn c.args.rows.now c.args.n c.loop-lines.lines c.requires.words c.requires.narrow c.first_rows-first.ensures c.loop-lines-test.true c.loop-lines.invariant in
    let room : c.put_feed-line.result + 81 ≤ length c.put_feed-line.new.out = omega (arith, t.within, t.place, c.requires.room, c.put_feed-line.ensures.position, length_feed c.loop-lines.lines) in
    search rules

pub put_line-requires-clause-narrow : goal.put_line-requires-clause-narrow
put_line-requires-clause-narrow c =
    (turn c.args.rows.now c.args.n c.loop-lines.lines c.requires.words c.requires.narrow c.first_rows-first.ensures c.loop-lines-test.true c.loop-lines.invariant).narrow

pub loop-lines-preserved : goal.loop-lines-preserved
unfolding page_text
loop-lines-preserved c =
    let words = c.args.rows.now in
    let row = c.loop-lines.lines in
    let t = turn words c.args.n row c.requires.words c.requires.narrow c.first_rows-first.ensures c.loop-lines-test.true c.loop-lines.invariant in
    let text : c.put_line.new.line ≡ page_line (row_words words row) = c.put_line.ensures ∙ ap page_line t.is in
    let size = length_line words row (omega (arith, t.within, c.requires.words)) (narrow_row words row c.args.n t.within c.requires.narrow) in
    let line = put_between c.put_feed-line.new.out c.put_feed-line.result (c.put_feed-line.result + 81) (page_line (row_words words row)) text (omega (arith, size)) in
    rw add-one (then (omega arith) (then (omega arith) c.loop-lines.invariant c.put_feed-line.ensures) line)

pub returns : goal.returns
returns c =
    let all : c.loop-lines.lines ≡ c.args.n = omega (arith, ap length c.first_rows-first.ensures, length_chunks 8 c.args.n c.args.rows.now) in
    rw all at c.loop-lines.invariant
