-- The commands that one of a file gives, read from bytes, have values of the code's types. Assumes nothing.
use mathlib.Core.Bool.{Bool, true, false}
use mathlib.Core.List.{List, [], ◌∷◌}
use mathlib.Core.Path.{◌≡◌, refl}
use Prim.Native.Nat.{ℕ, ◌+◌}
use Rattle.layout.specs.Operands.{byte_at}
use Rattle.layout.proofs.Numbers.{Bytes}
use Rattle.walls.specs.declared.Storey.{Storey}
use Rattle.format.specs.declared.Command.{Command}
use Rattle.format.specs.Types.{OfTypes}
use Rattle.format.proofs.ReadTypes.{types_read}
use Rattle.blocks.specs.Sets.{is_block, sets_of}
use Rattle.blocks.specs.FileCommands.{file_command_at, storeys_from, commands_from}
use Rattle.blocks.proofs.FileCommands.{at_one, at_block}

abbrev pub AllTyped : List (ℕ × Command) → Type 0
AllTyped [] = Unit {0}
AllTyped ((at, c) ∷ cs) = OfTypes c × AllTyped cs

storeys_typed : (at : ℕ) (ss : List Storey) → AllTyped (storeys_from at ss)
storeys_typed at [] = tt
storeys_typed at (s ∷ ss) = (tt, storeys_typed (at + 24) ss)

pub types_given : (job : List ℕ) (offset : ℕ) → Bytes job → AllTyped (commands_from offset (file_command_at job offset))
types_given job offset b = by (is_block (byte_at job offset)) refl
  where
    by : (k : Bool) → is_block (byte_at job offset) ≡ k → AllTyped (commands_from offset (file_command_at job offset))
    by true e = rw (at_block job offset e) (storeys_typed (offset + 2) (sets_of job offset))
    by false e = rw (at_one job offset e) (types_read job offset b, tt)
