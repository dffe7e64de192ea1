-- `least_root` meets its contract. The loop's invariant: the least k lies from `low` to `low + length`. The measure is
-- the length. Assumes nothing.
use Rattle.cubes.proofs.Halving.{Bracket}
use Rattle.cubes.proofs.least_root.Given as goal

abbrev pub invariant-loop-length : goal.invariant-loop-length
invariant-loop-length l = Bracket l.j l.j0 l.low l.length l.rest

abbrev pub decreases-loop-length : goal.decreases-loop-length
decreases-loop-length l = l.length
