-- `format::fault_among` meets its contract. The loop's invariant: the operands so far are in range (Scan.antt). Assumes nothing.
use mathlib.Core.Path.{sym, ap, ◌∙◌}
use Prim.Native.Nat.{ℕ}
use native.Mathlib.Omega.{arith}
use lib.ListN.{length}
use Rattle.std.specs.Prelude.{Option}
use Rattle.std.specs.Option.{unwrap_or}
use Rattle.layout.specs.Layouts.{byte_of_kind}
use Rattle.format.proofs.Scan.{begins, named, scanned, step_fits, step_narrow, step_place, step_found, step_on}
use Rattle.format.proofs.fault_among.Goals as goal

pub loop-place-init : goal.loop-place-init
loop-place-init c = begins c.args.operands.now (byte_of_kind c.args.kind)

pub split_at-requires : goal.split_at-requires
split_at-requires c =
    let a = c.args in
    let l = c.loop-place in
    step_fits a.kind a.operands.now c.forms-form-items.result.now c.forms-form-items.ensures l.place l.rest.now l.invariant c.loop-place-test.true c.width.result c.width.ensures c.requires.width

pub unsigned_of_any-requires : goal.unsigned_of_any-requires
unsigned_of_any-requires c =
    let a = c.args in
    let l = c.loop-place in
    step_narrow a.kind a.operands.now c.forms-form-items.result.now c.forms-form-items.ensures l.place l.rest.now l.invariant c.loop-place-test.true c.width.result c.width.ensures (length c.split_at.result.0.now) c.split_at.ensures.front_len

pub overflow_cast-result : goal.overflow_cast-result
overflow_cast-result c =
    let a = c.args in
    let l = c.loop-place in
    omega (arith, step_place a.kind a.operands.now c.forms-form-items.result.now c.forms-form-items.ensures l.place l.rest.now l.invariant c.loop-place-test.true c.width.result c.width.ensures)

pub returns-then-not-in_range : goal.returns-then-not-in_range
returns-then-not-in_range c =
    let a = c.args in
    let l = c.loop-place in
    step_found a.kind a.operands.now c.forms-form-items.result.now c.forms-form-items.ensures l.place l.rest.now l.invariant c.loop-place-test.true c.width.result c.width.ensures
    c.unsigned_of_any.result (rw c.split_at.ensures.front at c.unsigned_of_any.ensures) c.requires.single (λ i. (c.type_inv.operands i).fits) c.in_range.ensures c.if-not-in_range.true

pub loop-place-preserved : goal.loop-place-preserved
loop-place-preserved c =
    let a = c.args in
    let l = c.loop-place in
    rw c.split_at.ensures.back
    (step_on a.kind a.operands.now c.forms-form-items.result.now c.forms-form-items.ensures l.place l.rest.now l.invariant c.loop-place-test.true c.width.result c.width.ensures
    c.unsigned_of_any.result (rw c.split_at.ensures.front at c.unsigned_of_any.ensures) c.in_range.ensures c.if-not-in_range.false)

pub returns : goal.returns
returns c =
    let a = c.args in
    let l = c.loop-place in
    c.unwrap_or.ensures
    ∙ ap (λ (o : Option ℕ). unwrap_or o 0) c.relation_operand.ensures
    ∙ named (byte_of_kind a.kind)
    ∙ sym (scanned a.kind a.operands.now c.forms-form-items.result.now c.forms-form-items.ensures l.place l.rest.now l.invariant c.requires.single (λ i. (c.type_inv.operands i).fits) c.loop-place-test.false)
