-- The table of the code holds the cubes: the cube rule is a test at each of the 1,001 entries, which antt computes. Assumes nothing.
use mathlib.Core.Path.{refl}
use Rattle.cubes.specs.Cube.{IsCubes}
use Rattle.cubes.specs.declared.entries.TheConstants.{CUBES}
use Rattle.cubes.proofs.Rule.{rule}

pub is_cubes : IsCubes CUBES
is_cubes = rule CUBES refl tt
