-- `layout::unsigned_of_any` meets its contract, byte by byte. Assumes nothing.
use Rattle.std.proofs.Common.{◌<◌, refl, sym, ◌∙◌, arith}
use lib.Dec.{lit<}
use Rattle.layout.specs.Number.{number}
use Rattle.layout.proofs.Numbers.{next_small, next_after, none_after}
use Rattle.layout.proofs.unsigned_of_any.Goals as goal

pub loop-byte-init : goal.loop-byte-init
unfolding number
loop-byte-init c = record { rest = refl; small = lit< tt }

pub overflow_mul-value : goal.overflow_mul-value
overflow_mul-value c =
    let l = c.loop-byte in
    omega (arith, (next_small l.byte-index l.value 0 (omega arith) l.invariant.small (lit< tt)).1)

pub loop-byte-preserved : goal.loop-byte-preserved
loop-byte-preserved c =
    let l = c.loop-byte in
    let b : c.from.result < 256 = rw c.from.ensures (c.type_inv.bytes l.byte-index).fits in
    record {
      rest = rw c.from.ensures (sym (next_after l.value l.byte-index c.args.bytes.now c.loop-byte-test.true) ∙ l.invariant.rest);
      small = (next_small l.byte-index l.value c.from.result (omega arith) l.invariant.small b).0;
    }

pub returns : goal.returns
returns c = sym (none_after c.loop-byte.value c.loop-byte.byte-index c.args.bytes.now (omega arith)) ∙ c.loop-byte.invariant.rest
