-- `writing::write_values` meets its contract: out of range, too short, or its byte and its operands (Promised.antt). Assumes nothing.
use mathlib.Core.Path.{ap, ◌∙◌}
use Prim.Native.Nat.{ℕ, ◌+◌}
use native.Mathlib.Omega.{arith}
use Rattle.layout.specs.declared.Kind.{Kind}
use Rattle.layout.specs.Layouts.{byte_of_kind, operands_width}
use Rattle.layout.proofs.Widths.{width_le}
use Rattle.blocks.specs.FileCommands.{one}
use Rattle.writing.proofs.Promised.{outside, command_short, command_done}
use Rattle.writing.proofs.write_values.Goals as goal

pub returns-then-not-in_range : goal.returns-then-not-in_range
returns-then-not-in_range g c = outside (one (g.T.Operands.command c.args.values)) c.args.bytes.now c.in_range.ensures c.if-not-in_range.true

pub overflow_add-width : goal.overflow_add-width
overflow_add-width g c = omega (arith, c.width-width.ensures, width_le (byte_of_kind c.KIND.result))

pub returns-then-bytes-width : goal.returns-then-bytes-width
returns-then-bytes-width g c =
    let v = c.args.values in
    command_short (g.T.Operands.command v) (byte_of_kind g.T.Operands.KIND) (g.met.T.Puts.same_byte v) c.args.bytes.now (1 + c.width-width.result)
    (ap (λ (n : ℕ). 1 + n) (c.width-width.ensures ∙ ap (λ (k : Kind). operands_width (byte_of_kind k)) c.KIND.ensures))
    c.in_range.ensures c.if-not-in_range.false c.if-bytes-width.true

pub returns : goal.returns
returns g c =
    let v = c.args.values in
    command_done (g.T.Operands.command v) (byte_of_kind g.T.Operands.KIND) (g.met.T.Puts.same_byte v) c.args.bytes.now (1 + c.width-width.result)
    (ap (λ (n : ℕ). 1 + n) (c.width-width.ensures ∙ ap (λ (k : Kind). operands_width (byte_of_kind k)) c.KIND.ensures))
    c.in_range.ensures c.if-not-in_range.false c.put.ensures.types c.if-bytes-width.false
    (rw c.KIND-2.ensures at c.from.ensures) c.put.ensures.put
