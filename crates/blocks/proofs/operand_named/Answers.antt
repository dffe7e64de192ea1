-- `blocks::operand_named` meets its contract. The loop's invariant: the sets so far are in range (Searching.antt). Assumes nothing.
use mathlib.Core.Path.{refl, ap}
use Prim.Native.Nat.{ℕ, ◌+◌, ◌*◌, ◌/◌}
use native.Mathlib.Omega.{arith}
use lib.ListN.{length}
use Rattle.layout.specs.Layouts.{known, known_in}
use Rattle.blocks.proofs.Searching.{search_begins, searches_on, search_found, search_ends, below, width_here, range_here, fault_here, named_fits}
use Rattle.blocks.proofs.operand_named.Goals as goal

pub loop-set-init : goal.loop-set-init
loop-set-init c = search_begins c.args.sets.now (length c.args.sets.now / 24)

pub read-requires : goal.read-requires
read-requires c = width_here c.args.sets.now c.as_chunks.result.0.now c.loop-set.set c.as_chunks.ensures.front c.as_chunks.ensures.front_len c.loop-set-test.true

pub new-storey-requires-clause-width : goal.new-storey-requires-clause-width
new-storey-requires-clause-width c = width_here c.args.sets.now c.as_chunks.result.0.now c.loop-set.set c.as_chunks.ensures.front c.as_chunks.ensures.front_len c.loop-set-test.true

pub new-storey-requires-clause-single : goal.new-storey-requires-clause-single
unfolding known known_in
new-storey-requires-clause-single c = refl

pub overflow_add-result-then-not-in_range : goal.overflow_add-result-then-not-in_range
overflow_add-result-then-not-in_range c =
    omega (arith, named_fits c.args.sets.now c.as_chunks.result.0.now c.loop-set.set c.as_chunks.ensures.front c.as_chunks.ensures.front_len c.loop-set-test.true c.operand_at_fault.result (rw (c.new-storey.ensures.kind, c.new-storey.ensures.operands) at c.operand_at_fault.ensures) c.requires)

pub returns-then-not-in_range : goal.returns-then-not-in_range
returns-then-not-in_range c =
    let set = c.loop-set.set in
    let r = c.operand_at_fault.result in
    search_found c.args.sets.now (length c.args.sets.now / 24) set c.loop-set.invariant
    (below c.args.sets.now c.as_chunks.result.0.now c.loop-set.set c.as_chunks.ensures.front c.as_chunks.ensures.front_len c.loop-set-test.true)
    (range_here c.args.sets.now c.as_chunks.result.0.now c.loop-set.set c.as_chunks.ensures.front c.as_chunks.ensures.front_len c.loop-set-test.true c.read.ensures c.in_range.ensures c.if-not-in_range.true)
    (1 + 6 * set + r)
    (ap (λ (k : ℕ). 1 + 6 * set + k) (fault_here c.args.sets.now c.as_chunks.result.0.now c.loop-set.set c.as_chunks.ensures.front c.as_chunks.ensures.front_len c.loop-set-test.true r (rw (c.new-storey.ensures.kind, c.new-storey.ensures.operands) at c.operand_at_fault.ensures)))

pub loop-set-preserved : goal.loop-set-preserved
loop-set-preserved c =
    searches_on c.args.sets.now (length c.args.sets.now / 24) c.loop-set.set c.loop-set.invariant
    (below c.args.sets.now c.as_chunks.result.0.now c.loop-set.set c.as_chunks.ensures.front c.as_chunks.ensures.front_len c.loop-set-test.true)
    (range_here c.args.sets.now c.as_chunks.result.0.now c.loop-set.set c.as_chunks.ensures.front c.as_chunks.ensures.front_len c.loop-set-test.true c.read.ensures c.in_range.ensures c.if-not-in_range.false)

pub returns : goal.returns
returns c =
    search_ends c.args.sets.now (length c.args.sets.now / 24) c.loop-set.set c.loop-set.invariant (omega (arith, c.as_chunks.ensures.front_len, c.loop-set-test.false))
