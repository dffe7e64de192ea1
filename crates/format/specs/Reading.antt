-- Reading a command: its byte, then its operands. 01, "Job commands".
use Rattle.std.specs.Prelude.{List, ℕ, get_or}
use Rattle.layout.specs.declared.Kind.{Kind}
use Rattle.layout.specs.Layouts.{forms_of, byte_of_kind}
use Rattle.layout.specs.Operands.{operand, read_operands, byte_at, operands_at}
use Rattle.format.specs.Commands.{Command, command_of}

-- the command at an offset
unfoldable pub command_at : List ℕ → ℕ → Command
unfolding read_operands forms_of command_of
command_at job at = command_of (byte_at job at) (λ i. get_or (operands_at job at) i 0)

-- the command of a kind, from the bytes of its operands
abbrev pub command_in : Kind → List ℕ → Command
command_in kind operands = command_of (byte_of_kind kind) (operand (byte_of_kind kind) operands 0)
