-- An exact demand, by what is at least it. 01, "Exact values": a storey's cube root c is never a number, "c is compared by
-- cubes", so an exact demand is a formula, and `at_least e y` says of a signed fraction y that it is at least that demand.
use Rattle.std.specs.Prelude.{◌⊎◌, ℕ, ◌*◌, ◌<◌}
use Rattle.exact.specs.Fraction.{Fraction, Proper, times, cube}
use Rattle.exact.specs.SignedFraction.{SignedFraction, ProperS, signed, ◌≤S◌, times_s, cube_s}

pub data Exact : Type 0 where
  -- a fraction
  value : SignedFraction → Exact
  -- c·w/3, where c is the cube root of j/j0
  root_third : ℕ → ℕ → Fraction → Exact
  -- the larger and the smaller of two
  larger_of smaller_of : Exact → Exact → Exact

-- y ≥ c·w/3 means 27·y³·j0 ≥ j·w³
abbrev pub at_least : Exact → SignedFraction → Type 0
at_least (value e) y = e ≤S y
at_least (root_third j j0 w) y = signed (times j (cube w)) ≤S times_s (27 * j0) (cube_s y)
at_least (larger_of d e) y = at_least d y × at_least e y
at_least (smaller_of d e) y = at_least d y ⊎ at_least e y

-- every denominator is positive; with a zero denominator the order would say nothing
abbrev pub ProperE : Exact → Type 0
ProperE (value e) = ProperS e
ProperE (root_third j j0 w) = (0 < j0) × Proper w
ProperE (larger_of d e) = ProperE d × ProperE e
ProperE (smaller_of d e) = ProperE d × ProperE e
