-- `text::push_word` meets its contract: the word's decimal, at most 20 bytes, and what follows it. Assumes nothing.
use Rattle.std.proofs.Common.{◌≡◌, ◌++◌, length, ap, ◌∙◌, arith, append_assoc}
use mir.Facts.{to_z-of_z}
use Rattle.std.specs.Fmt as printed
use Rattle.text.specs.Decimal.{signed_decimal}
use Rattle.text.proofs.Digits.{length_signed}
use Rattle.text.proofs.Printed.{signed_printed}
use Rattle.text.proofs.push_word.Goals as goal

pub returns : goal.returns
returns c =
    let word : c.format.result.now ≡ signed_decimal c.args.word = c.format.ensures.text ∙ ap printed.signed_decimal (to_z-of_z c.ranges.word) ∙ signed_printed c.args.word c.ranges.word in
    record {
      text = c.push_str-2.ensures.bytes ∙ ap (λ b. b ++ c.args.after.now) (c.push_str.ensures.bytes ∙ ap (λ w. c.args.line.now.bytes ++ w) word) ∙ append_assoc c.args.line.now.bytes (signed_decimal c.args.word) c.args.after.now;
      short = omega (arith, ap length word, length_signed c.args.word c.ranges.word);
    }
