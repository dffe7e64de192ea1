-- `writing::sets_in_range` meets its contract. The loop's invariant: the sets so far are in range (GivenSets.antt). Assumes nothing.
use Rattle.writing.proofs.GivenSets.{Testing}
use Rattle.writing.proofs.sets_in_range.Given as goal

abbrev pub invariant-loop-words : goal.invariant-loop-words
invariant-loop-words l = Testing l.sets l.words-index
