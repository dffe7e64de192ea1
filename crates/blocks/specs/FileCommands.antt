-- The commands of a file: a command by itself, or a block, which is a list of storeys; and the commands that it gives, each with its
-- own offset. 02, No. 7: "Its rows are those of the same storeys given singly, word 1 being 07, except that word 0 is the offset of
-- each set's first byte."
use Rattle.std.specs.Prelude.{cond, List, [], ◌∷◌, map, ℕ, ◌+◌, ◌*◌, length}
use Rattle.layout.specs.Layouts.{operands_width}
use Rattle.layout.specs.Operands.{byte_at}
use Rattle.walls.specs.declared.Storey.{Storey}
use Rattle.format.specs.declared.Command.{Command}
use Rattle.format.specs.declared.Command.TheVariants.{Storey as storey}
use Rattle.format.specs.Commands.{byte_of, operand_at_fault}
use Rattle.format.specs.Reading.{command_at}
use Rattle.blocks.specs.Sets.{is_block, count_at, count_in_range, sets_of, set_at_fault}

pub data FileCommand : Type 0 where
  one : Command → FileCommand
  block : List Storey → FileCommand

-- the one at an offset
unfoldable pub file_command_at : List ℕ → ℕ → FileCommand
file_command_at job at = cond (is_block (byte_at job at)) (block (sets_of job at)) (one (command_at job at))

-- its first byte
abbrev pub file_byte_of : FileCommand → ℕ
file_byte_of (one c) = byte_of c
file_byte_of (block ss) = 11

-- its bytes: its own, the count of a block, and the operands
abbrev pub width_of : FileCommand → ℕ
width_of (one c) = 1 + operands_width (byte_of c)
width_of (block ss) = 2 + 24 * length ss

-- the same read at an offset, where there may be no command: an unknown byte has no operands
unfoldable pub width_at : List ℕ → ℕ → ℕ
unfolding operands_width
width_at job at = cond (is_block (byte_at job at)) (2 + 24 * count_at job at) (1 + operands_width (byte_at job at))

-- the storeys of sets, the first at an offset
abbrev pub storeys_from : ℕ → List Storey → List (ℕ × Command)
storeys_from at [] = []
storeys_from at (s ∷ ss) = (at, storey s) ∷ storeys_from (at + 24) ss

-- the commands that a command of the file at an offset gives, each with its offset: itself, or a block's storeys, each at its set's
-- first byte
abbrev pub commands_from : ℕ → FileCommand → List (ℕ × Command)
commands_from at (one c) = (at, c) ∷ []
commands_from at (block ss) = storeys_from (at + 2) ss

-- the operand at fault of one that is out of range: the count of a block is operand 0, and operand j of set i is 1 + 6·i + j
unfoldable pub file_operand_at_fault : FileCommand → ℕ
unfolding operand_at_fault count_in_range set_at_fault
file_operand_at_fault (one c) = operand_at_fault c
file_operand_at_fault (block ss) = cond (count_in_range (length ss)) (1 + set_at_fault ss) 0

-- the commands that it gives, without offsets: a block gives its storeys
abbrev pub given : FileCommand → List Command
given (one c) = c ∷ []
given (block ss) = map (λ s. storey s) ss

-- the storeys of a block, each given by itself
abbrev pub singly : List Storey → List FileCommand
singly ss = map (λ s. one (storey s)) ss
