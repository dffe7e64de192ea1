-- `writing::put_sets` meets its contract. The loop's invariant: the sets so far are put (GivenSets.antt). Assumes nothing.
use Rattle.writing.proofs.GivenSets.{Putting}
use Rattle.writing.proofs.put_sets.Given as goal

abbrev pub invariant-loop-set : goal.invariant-loop-set
invariant-loop-set l = Putting l.initial.bytes l.sets l.bytes l.set
