-- `text::push_labelled` meets its contract: the label, then the number's decimal, at most 20 bytes. Assumes nothing.
use Rattle.std.proofs.Common.{◌≡◌, ◌++◌, length, ap, ap₂, ◌∙◌, arith, append_assoc}
use Rattle.text.specs.Decimal.{decimal}
use Rattle.text.proofs.Digits.{length_decimal}
use Rattle.text.proofs.Printed.{decimal_printed}
use Rattle.text.proofs.push_labelled.Goals as goal

pub returns : goal.returns
returns g c =
    let number : c.format.result.now ≡ decimal c.args.value = c.format.ensures.text ∙ decimal_printed c.args.value c.ranges.value.fits in
    record {
      text = c.push_str-2.ensures.bytes ∙ ap₂ (λ a b. a ++ b) c.push_str.ensures.bytes number ∙ append_assoc c.args.line.now.bytes c.args.label.now (decimal c.args.value);
      short = omega (arith, ap length number, length_decimal c.args.value c.ranges.value.fits);
    }
