-- The bytes of a command: its own byte, then its operands in the order and the widths of its layout. 01, "Job commands": "One byte,
-- then operands of fixed width, big-endian." Those of a block: its byte, its count, then the operands of its storeys. 02, No. 7: "New
-- command 0B has a count (u8, 1 to 64) and then that many sets of storey operands, 24 bytes each."
use Rattle.std.specs.Prelude.{List, [], ◌∷◌, ◌++◌, ℕ, length}
use Rattle.numbers.specs.BigEndian.{big_endian}
use Rattle.layout.specs.declared.Form.{Form}
use Rattle.layout.specs.Forms.{width}
use Rattle.layout.specs.Layouts.{forms_of}
use Rattle.walls.specs.declared.Storey.{Storey}
use Rattle.format.specs.declared.Command.{Command}
use Rattle.format.specs.declared.Command.TheVariants.{Storey as storey}
use Rattle.format.specs.Commands.{byte_of, operands_of}
use Rattle.blocks.specs.FileCommands.{FileCommand, one, block}

-- operands of these forms, one after the other
unfoldable pub operand_bytes : List Form → List ℕ → List ℕ
unfolding big_endian width
operand_bytes [] vs = []
operand_bytes (f ∷ fs) [] = []
operand_bytes (f ∷ fs) (v ∷ vs) = big_endian (width f) v ++ operand_bytes fs vs

unfoldable pub bytes_of : Command → List ℕ
unfolding operand_bytes forms_of
bytes_of c = byte_of c ∷ operand_bytes (forms_of (byte_of c)) (operands_of c)

-- the operands of storeys, one set after the other
unfoldable pub set_bytes : List Storey → List ℕ
set_bytes [] = []
set_bytes (s ∷ ss) = operand_bytes (forms_of 7) (operands_of (storey s)) ++ set_bytes ss

-- ---- the commands of a file: a command by itself, or a block

abbrev pub file_bytes_of : FileCommand → List ℕ
file_bytes_of (one c) = bytes_of c
file_bytes_of (block ss) = 11 ∷ length ss ∷ set_bytes ss
