-- `text::put_row` meets its contract: the line has at most 168 bytes. Assumes nothing.
use Rattle.std.proofs.Common.{◌≡◌, ◌≤◌, ◌+◌, [], length, get_or, ap, ◌∙◌, arith}
use Rattle.text.specs.Lines.{row_line, row_words}
use Rattle.slices.proofs.Rows.{length_chunks, chunk_at}
use Rattle.text.proofs.put_row.Goals as goal

pub bounds-first_rows-row : goal.bounds-first_rows-row
bounds-first_rows-row c = omega (arith, ap length c.first_rows.ensures, length_chunks 8 (c.args.row + 1) c.args.rows.now)

pub put_text-requires : goal.put_text-requires
put_text-requires c = omega (arith, ap length c.as_bytes.ensures.value, c.as_str.ensures.fits, c.requires.room)

pub returns : goal.returns
returns c =
    let short : length c.as_bytes.result.now ≤ 168 = omega (arith, ap length c.as_bytes.ensures.value, c.as_str.ensures.fits) in
    let row : get_or c.first_rows.result.now c.args.row [] ≡ row_words c.args.rows.now c.args.row =
    ap (λ rows. get_or rows c.args.row []) c.first_rows.ensures ∙ chunk_at (c.args.row + 1) c.args.row c.args.rows.now [] (omega arith) in
    let line : c.as_bytes.result.now ≡ row_line (row_words c.args.rows.now c.args.row) = c.as_bytes.ensures.value ∙ c.as_str.ensures.value ∙ c.row_line-line.ensures ∙ ap row_line row in
    record { writes = rw (← line) c.put_text.ensures; short = omega (arith, c.put_text.ensures.position) }
