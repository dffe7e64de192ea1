-- `printing::put_value` meets its contract: the digits stand up to the end of the field, and a minus before them (Values.antt). Assumes
-- nothing.
use Rattle.std.proofs.Common.{◌≡◌, length, ap, ◌∙◌, arith}
use mir.Facts.{to_z-of_z}
use lib.IntN.{nat_abs}
use Rattle.std.specs.Fmt as printed
use Rattle.text.specs.Decimal.{decimal}
use Rattle.text.proofs.Digits.{some_digit}
use Rattle.text.proofs.Printed.{decimal_printed}
use Rattle.text.proofs.Signs.{below_read, from_read, length_size}
use Rattle.printing.proofs.Values.{placed, blank_before, natural_placed, negative_placed}
use Rattle.printing.proofs.put_value.Goals as goal

pub write_digits-first-requires : goal.write_digits-first-requires
write_digits-first-requires c =
    let width = length c.args.field.now in
    let size : c.unsigned_abs.result ≡ nat_abs c.args.value = c.unsigned_abs.ensures.value ∙ ap nat_abs (to_z-of_z c.ranges.value) in
    let digits : length (printed.decimal c.unsigned_abs.result) ≡ length (decimal (nat_abs c.args.value)) =
    ap length (decimal_printed c.unsigned_abs.result c.unsigned_abs.type_inv ∙ ap decimal size) in
    (omega (arith, digits, length_size c.args.value, blank_before width c.args.value c.requires.narrow), omega arith)

pub overflow_sub-field : goal.overflow_sub-field
overflow_sub-field c =
    let width = length c.args.field.now in
    let w = c.write_digits-first.ensures in
    let p = placed width _ _ _ _ w.start c.requires.blank w.written w.before in
    let below = below_read c.ranges.value c.unsigned_abs.ensures.value c.if-value-lt0.true in
    omega (arith, p.position, ap length below, ap length (decimal_printed c.unsigned_abs.result c.unsigned_abs.type_inv), blank_before width c.args.value c.requires.narrow)

pub bounds-field-first : goal.bounds-field-first
bounds-field-first c =
    let some = some_digit c.unsigned_abs.result in
    omega (arith, c.write_digits-first.ensures.start, c.write_digits-first.auto.buf, some, ap length (decimal_printed c.unsigned_abs.result c.unsigned_abs.type_inv))

pub returns-then-value-lt0 : goal.returns-then-value-lt0
returns-then-value-lt0 c =
    let width = length c.args.field.now in
    let w = c.write_digits-first.ensures in
    let p = placed width _ _ _ _ w.start c.requires.blank w.written w.before in
    let below = below_read c.ranges.value c.unsigned_abs.ensures.value c.if-value-lt0.true in
    let digits = decimal_printed c.unsigned_abs.result c.unsigned_abs.type_inv in
    (negative_placed width c.args.value (rw digits at p) below (blank_before width c.args.value c.requires.narrow)).1

pub returns-else-value-lt0 : goal.returns-else-value-lt0
returns-else-value-lt0 c =
    let width = length c.args.field.now in
    let w = c.write_digits-first.ensures in
    let p = placed width _ _ _ _ w.start c.requires.blank w.written w.before in
    let from = from_read c.ranges.value c.unsigned_abs.ensures.value c.if-value-lt0.false in
    let digits = decimal_printed c.unsigned_abs.result c.unsigned_abs.type_inv in
    natural_placed width c.args.value (rw digits at p) from
