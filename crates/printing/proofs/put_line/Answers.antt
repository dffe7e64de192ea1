-- `printing::put_line` meets its contract: the values before word i stand in the line (LineSteps.antt). Assumes nothing.
use Rattle.std.proofs.Common.{rules, get_or, pos, length, replicate, ap, ◌∙◌, arith}
use Rattle.std.proofs.lemmas.Slice.Zip.{zip_turn, zip_end}
use lib.ListN.{length-append}
use mir.Facts.{to_z-of_z}
use mir.Syntax.{w64}
use mir.Val.{SFits}
use Rattle.text.specs.Lines.{space}
use Rattle.printing.specs.Page.{widths}
use Rattle.printing.proofs.LineSteps.{line_begun, field_size, field_blank, narrow_word, line_turn, line_ended}
use Rattle.printing.proofs.put_line.Goals as goal

pub loop-value-init : goal.loop-value-init
loop-value-init c = line_begun c.args.row.now (search rules) (c.fill.ensures.after (λ y e. e) ∙ ap (λ n. replicate n space) c.requires.room)

pub put_value-requires-clause-narrow : goal.put_value-requires-clause-narrow
put_value-requires-clause-narrow c =
    let row = c.args.row.now in
    let (_, h, value, width) = zip_turn row widths c.loop-value.yielded _ c.loop-value.value-iterator c.next.new.self _ (search rules) (search rules) c.loop-value.yielded_by _ c.in-Some.is c.next.ensures.steps in
    let f : SFits w64 (get_or row (length c.loop-value.yielded) (pos 0)) = record { sfits = search rules } in
    rw (value (pos 0), to_z-of_z f, field_size row (search rules) c.loop-value.invariant h (width 0), width 0) (narrow_word row (search rules) c.loop-value.invariant h c.requires.narrow)

pub put_value-requires-clause-blank : goal.put_value-requires-clause-blank
put_value-requires-clause-blank c =
    let row = c.args.row.now in
    let (_, h, value, width) = zip_turn row widths c.loop-value.yielded _ c.loop-value.value-iterator c.next.new.self _ (search rules) (search rules) c.loop-value.yielded_by _ c.in-Some.is c.next.ensures.steps in
    rw (field_size row (search rules) c.loop-value.invariant h (width 0)) (field_blank row (search rules) c.loop-value.invariant h (width 0))

pub loop-value-preserved : goal.loop-value-preserved
loop-value-preserved c =
    let row = c.args.row.now in
    let (_, h, value, width) = zip_turn row widths c.loop-value.yielded _ c.loop-value.value-iterator c.next.new.self _ (search rules) (search rules) c.loop-value.yielded_by _ c.in-Some.is c.next.ensures.steps in
    let f : SFits w64 (get_or row (length c.loop-value.yielded) (pos 0)) = record { sfits = search rules } in
    let size = field_size row (search rules) c.loop-value.invariant h (width 0) in
    rw length-append (line_turn row (search rules) c.loop-value.invariant h c.requires.narrow (width 0) (rw (value (pos 0), to_z-of_z f, size) at c.put_value.ensures))

pub returns : goal.returns
returns c =
    let row = c.args.row.now in
    let end = zip_end row widths c.loop-value.yielded _ c.loop-value.value-iterator c.next.new.self _ (search rules) (search rules) c.loop-value.yielded_by c.in-None.is c.next.ensures.steps in
    (line_ended row (search rules) c.loop-value.invariant (omega (arith, end, c.told-row))).1
