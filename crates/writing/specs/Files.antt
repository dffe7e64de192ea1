-- A file written command by command, and the commands that it is read as. 02, No. 2: a routine "takes one command's values at a time
-- and a lent byte slice, and reports the bytes written"; a block is a command of the file (02, No. 7). Reading says nothing of
-- acceptance.
use Rattle.std.specs.Prelude.{true, cond, List, [], ◌∷◌, ◌++◌, ◌≡◌, ℕ, zero, suc, ◌+◌, eqb, length, take, drop}
use Rattle.layout.specs.Operands.{byte_at}
use Rattle.format.specs.Types.{OfTypes}
use Rattle.blocks.specs.FileCommands.{FileCommand, one, block, file_byte_of, file_command_at, width_at}
use Rattle.writing.specs.Bytes.{file_bytes_of}
use Rattle.writing.specs.Answers.{file_in_range, write_file_of, file_bytes_after}

-- ---- written

-- the values that the code's types hold; the range test keeps the operands of a storey within their width
abbrev pub OfFileTypes : FileCommand → Type 0
OfFileTypes (one c) = OfTypes c
OfFileTypes (block ss) = Unit {0}

-- a command other than the end, of the code's types and in range
pub record Writable (c : FileCommand) : Type 0 where
  pub types : OfFileTypes c
  pub range : file_in_range c ≡ true
  pub other : file_byte_of c ≡ 0 → ⊥

abbrev pub AllWritable : List FileCommand → Type 0
AllWritable [] = Unit {0}
AllWritable (c ∷ cs) = Writable c × AllWritable cs

-- the bytes of commands, one after the other
unfoldable pub all_bytes : List FileCommand → List ℕ
all_bytes [] = []
all_bytes (c ∷ cs) = file_bytes_of c ++ all_bytes cs

-- a slice after these commands were written into it, each behind the bytes that the call before it reported
unfoldable pub written_in_turn : List FileCommand → List ℕ → List ℕ
written_in_turn [] bytes = bytes
written_in_turn (c ∷ cs) bytes =
    let n = (write_file_of c (length bytes)).bytes in
    take n (file_bytes_after c bytes) ++ written_in_turn cs (drop n (file_bytes_after c bytes))

-- ---- read

-- commands that stand one after the other, the first at an offset: each with its own offset
abbrev pub with_offsets : ℕ → List FileCommand → List (ℕ × FileCommand)
with_offsets at [] = []
with_offsets at (c ∷ cs) = (at, c) ∷ with_offsets (at + length (file_bytes_of c)) cs

-- the commands of a file from an offset on, up to the end, each with its offset; at most so many
unfoldable pub read_from : ℕ → List ℕ → ℕ → List (ℕ × FileCommand)
read_from zero file at = []
read_from (suc n) file at =
    cond (eqb (byte_at file at) 0) []
    ((at, file_command_at file at) ∷ read_from n file (at + width_at file at))
