-- The library's 32 bits of an i32 are those of the specification. Assumes nothing.
use mathlib.Core.Path.{◌≡◌, refl}
use native.Mathlib.Omega.{arith}
use lib.IntN.{ℤ, pos, negsuc}
use mir.Syntax.{w32}
use mir.Val.{of_z}
use Rattle.layout.specs.Number.{bits32}

pub bits_is : (z : ℤ) → of_z w32 z ≡ bits32 z
unfolding bits32
bits_is (pos n) = refl
bits_is (negsuc n) = omega arith
