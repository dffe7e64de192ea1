-- `text::put_rows` meets its contract: the lines of the rows before the loop's row are written. Assumes nothing.
use Rattle.std.proofs.Common.{◌≡◌, ◌≤◌, ◌<◌, [], length, get_or, ap, ◌∙◌, arith, add-one}
use Rattle.text.specs.Lines.{rows_text, row_line, row_words}
use Rattle.slices.proofs.Writing.{nothing, then}
use Rattle.slices.proofs.Rows.{length_chunks, chunk_at}
use Rattle.text.proofs.put_rows.Goals as goal

pub loop-row-init : goal.loop-row-init
unfolding rows_text
loop-row-init c = record { writes = nothing c.args.out.now c.args.at; short = omega arith }

pub put_text-next-requires : goal.put_text-next-requires
put_text-next-requires c =
    let short : length c.as_bytes.result.now ≤ 168 = omega (arith, ap length c.as_bytes.ensures.value, c.as_str.ensures.fits) in
    let within : c.loop-row.row-index < c.args.count = omega (arith, ap length c.first_rows-first.ensures, length_chunks 8 c.args.count c.args.rows.now) in
    omega (arith, c.requires.room)

pub loop-row-preserved : goal.loop-row-preserved
unfolding rows_text
loop-row-preserved c =
    let i = c.loop-row.row-index in
    let short : length c.as_bytes.result.now ≤ 168 = omega (arith, ap length c.as_bytes.ensures.value, c.as_str.ensures.fits) in
    let within : i < c.args.count = omega (arith, ap length c.first_rows-first.ensures, length_chunks 8 c.args.count c.args.rows.now) in
    let row : get_or c.first_rows-first.result.now i [] ≡ row_words c.args.rows.now i =
    ap (λ rows. get_or rows i []) c.first_rows-first.ensures ∙ chunk_at c.args.count i c.args.rows.now [] within in
    let line : c.as_bytes.result.now ≡ row_line (row_words c.args.rows.now i) = c.as_bytes.ensures.value ∙ c.as_str.ensures.value ∙ c.row_line.ensures ∙ ap row_line row in
    record {
      writes = rw (add-one, ← line) (then (omega arith) c.loop-row.invariant.writes c.put_text-next.ensures);
      short = omega (arith, c.put_text-next.ensures.position, c.loop-row.invariant.short);
    }

pub returns : goal.returns
returns c =
    let all : c.loop-row.row-index ≡ c.args.count = omega (arith, ap length c.first_rows-first.ensures, length_chunks 8 c.args.count c.args.rows.now) in
    rw all at c.loop-row.invariant
