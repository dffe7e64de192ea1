-- `rows::write_sets` meets its contract. The loop's invariant: what is left to write gives what the whole gives (SetRows.antt).
-- Assumes nothing.
use Rattle.std.proofs.Common.{arith}
use Rattle.rows.proofs.SetRows.{set_ranged, fills_on, filled}
use Rattle.rows.proofs.write_sets.Goals as goal

pub least_root-k-requires : goal.least_root-k-requires
least_root-k-requires c =
    (set_ranged _ _ _ c.requires.asks c.as_chunks.ensures.front c.as_chunks.ensures.front_len (omega arith) c.read-storey.ensures).inertia_greatest

pub storey_row_at-row-requires-clause-storey : goal.storey_row_at-row-requires-clause-storey
storey_row_at-row-requires-clause-storey c =
    set_ranged _ _ _ c.requires.asks c.as_chunks.ensures.front c.as_chunks.ensures.front_len (omega arith) c.read-storey.ensures

pub loop-i-preserved : goal.loop-i-preserved
loop-i-preserved c =
    fills_on c.loop-i.invariant c.as_chunks.ensures.front c.as_chunks.ensures.front_len c.loop-i-test.true c.read-storey.ensures _
    (rw (c.put_row.ensures, c.storey_row_at-row.ensures, c.from.ensures))

pub returns : goal.returns
returns c = filled c.loop-i.invariant (omega (arith, c.as_chunks.ensures.front_len, c.loop-i-test.false))
