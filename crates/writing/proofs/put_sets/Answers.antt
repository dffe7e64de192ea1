-- `writing::put_sets` meets its contract. The loop's invariant: the sets so far are put (GivenSets.antt). Assumes nothing.
use native.Mathlib.Omega.{arith}
use Rattle.layout.proofs.Widths.{widths}
use Rattle.writing.proofs.GivenSets.{put_begins, puts_on, put_ends}
use Rattle.writing.proofs.put_sets.Goals as goal

pub loop-set-init : goal.loop-set-init
loop-set-init c = put_begins c.args.bytes.now c.args.sets.now

pub put-requires : goal.put-requires
put-requires c = omega (arith, widths.storey, c.loop-set.invariant.kept, c.requires, c.loop-set-test.true)

pub loop-set-preserved : goal.loop-set-preserved
loop-set-preserved c =
    let l = c.loop-set in
    puts_on c.args.bytes.now c.args.sets.now l.bytes l.set l.invariant c.loop-set-test.true c.requires (rw c.storey_of.ensures at c.put.ensures.put) (omega arith)

pub returns : goal.returns
returns c = let l = c.loop-set in put_ends c.args.bytes.now c.args.sets.now l.bytes l.set l.invariant c.loop-set-test.false
