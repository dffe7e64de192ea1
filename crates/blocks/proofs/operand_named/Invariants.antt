-- `blocks::operand_named` meets its contract. The loop's invariant: the sets so far are in range (Searching.antt). Assumes nothing.
use Prim.Native.Nat.{◌/◌}
use lib.ListN.{length}
use Rattle.blocks.proofs.Searching.{Searching}
use Rattle.blocks.proofs.operand_named.Given as goal

abbrev pub invariant-loop-set : goal.invariant-loop-set
invariant-loop-set l = Searching l.sets (length l.sets / 24) l.set
