-- `rows::put_row` meets its contract: with room the eight words are the row, without it nothing is written. Assumes nothing.
use Rattle.std.proofs.Common.{rules, arith, SFits}
use Rattle.std.specs.Int.{w64}
use mir.Facts.{to_z-of_z}
use Rattle.exact.proofs.Integers.{returned}
use Rattle.rows.proofs.Memory.{stored_part, stored_full}
use Rattle.rows.proofs.put_row.Goals as goal

pub returns-then-n-places : goal.returns-then-n-places
returns-then-n-places c =
    let r = c.args.row in
    let f2 : SFits w64 r.word2 = search rules in
    let f3 : SFits w64 r.word3 = search rules in
    let f4 : SFits w64 r.word4 = search rules in
    let f5 : SFits w64 r.word5 = search rules in
    let f6 : SFits w64 r.word6 = search rules in
    let f7 : SFits w64 r.verdict = search rules in
    rw (
      c.set_words.ensures,
      returned c.word.type_inv,
      returned c.from.type_inv,
      to_z-of_z f2,
      to_z-of_z f3,
      to_z-of_z f4,
      to_z-of_z f5,
      to_z-of_z f6,
      to_z-of_z f7,
      c.word.ensures,
      c.from.ensures,
    )
    (stored_part c.args.rows.now c.args.n _ (omega arith))

pub returns-else-n-places : goal.returns-else-n-places
returns-else-n-places c = rw (stored_full c.args.rows.now c.args.n _ (omega arith))
