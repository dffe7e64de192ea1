-- A byte that is unknown reads as no command's, and that of every command is known. Assumes nothing.
use mathlib.Core.Bool.{true, false}
use mathlib.Core.Path.{◌≡◌, refl}
use Prim.Native.Nat.{ℕ}
use Rattle.layout.specs.Layouts.{known, known_in}
use Rattle.layout.proofs.KnownBytes.{other}
use Rattle.format.specs.Commands.{Command, finish, settings, joint, column, beam, hingeless, wall_base, storey, soil, footing, detail, basement, building, byte_of, command_of}

pub command_other : (b : ℕ) (v : ℕ → ℕ) → known b ≡ false → command_of b v ≡ finish
unfolding command_of known known_in
command_other b v h = simp (other b h)

pub byte_known : (c : Command) → known (byte_of c) ≡ true
unfolding known known_in
byte_known finish = refl
byte_known (settings s) = refl
byte_known (joint id j) = refl
byte_known (column c) = refl
byte_known (beam b) = refl
byte_known (hingeless id1 id2 m) = refl
byte_known (wall_base b) = refl
byte_known (storey s) = refl
byte_known (soil s) = refl
byte_known (footing f) = refl
byte_known (detail d) = refl
byte_known (basement id m) = refl
byte_known building = refl
