-- A soil value that is a NaN, whichever of its patterns a program gives, is refusal 5, and every byte stays as lent. Assumes nothing.
use mathlib.Core.Path.{◌≡◌}
use mathlib.Core.Bool.{false, and-false}
use mathlib.Core.List.{List}
use Prim.Native.Nat.{ℕ}
use lib.Ieee.{Float, nan, binary32, fits, to_bits}
use lib.Ieee.Bits.{of_bits-to_bits}
use Rattle.soil.specs.Value.{allowed}
use Rattle.soil.specs.Kinds.{known, value_allowed}
use Rattle.soil.specs.Reading.{soil_allowed}
use Rattle.layout.specs.Layouts.{forms_of}
use Rattle.format.specs.Commands.{operands_of, related, all_in_range, in_range}
use Rattle.blocks.specs.FileCommands.{one}
use Rattle.writing.specs.Answers.{refused_with, write_of, bytes_after}
use Rattle.writing.proofs.Answered.{answer_5, slice_5}
use Rattle.capacity_c.specs.declared.writes.SoilOperands.{SoilOperands}
use Rattle.capacity_c.specs.Commands.{soil_command}

nan_not_allowed : (kind : ℕ) → value_allowed kind nan ≡ false
unfolding value_allowed allowed
nan_not_allowed kind = and-false (known kind)

bits_not_allowed : (kind : ℕ) (x : Float) → x ≡ nan → soil_allowed kind (to_bits binary32 x) ≡ false
unfolding soil_allowed fits
bits_not_allowed kind x e = rw (e, of_bits-to_bits binary32 nan tt) (nan_not_allowed kind)

outside : (v : SoilOperands) → v.value ≡ nan → in_range (soil_command v) ≡ false
unfolding in_range related
outside v e = rw (bits_not_allowed v.kind v.value e) (and-false (all_in_range (forms_of 8) (operands_of (soil_command v))))

module _ (v : SoilOperands) (e : v.value ≡ nan) where
  pub nan_refused : (room : ℕ) → write_of (soil_command v) room ≡ refused_with 5
  nan_refused room = answer_5 (one (soil_command v)) (outside v e) room

  pub nan_unwritten : (before : List ℕ) → bytes_after (soil_command v) before ≡ before
  nan_unwritten before = slice_5 (one (soil_command v)) (outside v e) before
