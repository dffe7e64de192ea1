-- `text::row_line` meets its contract: the words before the loop's word stand in the line, each with a space (RowSteps.antt).
-- Assumes nothing.
use Rattle.std.proofs.Common.{◌≡◌, ◌<◌, get_or, take, pos, length, ◌∙◌, arith}
use borrow.Author.Rules.{rules}
use lib.Seq.{length-take-le, get_or-take}
use mir.Facts.{to_z-of_z}
use mir.Syntax.{w64}
use mir.Val.{SFits}
use Rattle.text.proofs.RowSteps.{spaced_next, line_whole}
use Rattle.text.proofs.row_line.Goals as goal

pub loop-word-preserved : goal.loop-word-preserved
loop-word-preserved c =
    let row = c.args.row.now in
    let i = c.loop-word.word-index in
    let eight : length row ≡ 8 = search rules in
    let within : i < 7 = omega (arith, length-take-le 7 row (omega arith)) in
    let f : SFits w64 (get_or row i (pos 0)) = record { sfits = search rules } in
    let word : get_or (take 7 row) i (pos 0) ≡ get_or row i (pos 0) = get_or-take 7 row i (pos 0) within in
    record {
      text = c.push_word.ensures.text ∙ rw (word, to_z-of_z f, c.loop-word.invariant.text, spaced_next row i (pos 0) (omega arith));
      short = omega (arith, c.push_word.ensures.short, c.loop-word.invariant.short);
    }

pub returns : goal.returns
returns c =
    let row = c.args.row.now in
    let eight : length row ≡ 8 = search rules in
    let f : SFits w64 (get_or row 7 (pos 0)) = record { sfits = search rules } in
    let seven : c.loop-word.word-index ≡ 7 = omega (arith, length-take-le 7 row (omega arith)) in
    c.push_word-2.ensures.text ∙ rw (to_z-of_z f, c.loop-word.invariant.text, seven) (line_whole row (pos 0) eight)
