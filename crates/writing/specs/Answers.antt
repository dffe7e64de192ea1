-- What the call `write` answers, and what the lent slice holds then. 02, No. 2: it "reports the bytes written"; "out-of-range values
-- get 5; then 11 when the slice can't hold the command"; "A write changes only the bytes reported; a refused one reports 0"; "a refusal
-- carries offset 0 where none is stated". A command of a file is a command by itself or a block (02, No. 7).
use Rattle.std.specs.Prelude.{Bool, ◌&&◌, cond, List, ◌++◌, ◌≡◌, ℕ, leb, length, drop, Result, Ok, Err}
use Rattle.std.proofs.Math.Option.{Option, none, some}
use Rattle.format.specs.declared.Command.{Command}
use Rattle.format.specs.Commands.{in_range}
use Rattle.blocks.specs.Sets.{count_in_range, all_in_range}
use Rattle.blocks.specs.FileCommands.{FileCommand, one, block, file_command_at}
use Rattle.writing.specs.declared.WriteError.{WriteError}
use Rattle.writing.specs.declared.WriteError.TheVariants.{OutOfRange, TooShort}
use Rattle.writing.specs.Bytes.{file_bytes_of}

-- the refusal's number and offset, 0 where there is none, and the bytes written
pub record WriteAnswer : Type 0 where
  pub number : ℕ
  pub offset : ℕ
  pub bytes : ℕ

abbrev pub wrote : ℕ → WriteAnswer
wrote n = record { number = 0; offset = 0; bytes = n }

abbrev pub refused_with : ℕ → WriteAnswer
refused_with number = record { number = number; offset = 0; bytes = 0 }

-- the answer of write in the code, in 02's terms
abbrev pub answer_of : Result ℕ WriteError → WriteAnswer
answer_of (Ok n) = wrote n
answer_of (Err OutOfRange) = refused_with 5
answer_of (Err TooShort) = refused_with 11

-- the range test is that of the walk: of a block its count's, and each set's
abbrev pub file_in_range : FileCommand → Bool
file_in_range (one c) = in_range c
file_in_range (block ss) = count_in_range (length ss) && all_in_range ss

-- what write answers for a command of a file, on a slice of so many bytes
unfoldable pub write_file_of : FileCommand → ℕ → WriteAnswer
write_file_of c room =
    cond (file_in_range c)
    (cond (leb (length (file_bytes_of c)) room) (wrote (length (file_bytes_of c))) (refused_with 11))
    (refused_with 5)

-- what the slice holds then: the command's bytes, and every later byte as lent; in a refusal every byte as lent
unfoldable pub file_bytes_after : FileCommand → List ℕ → List ℕ
file_bytes_after c before =
    cond (file_in_range c)
    (cond (leb (length (file_bytes_of c)) (length before)) (file_bytes_of c ++ drop (length (file_bytes_of c)) before) before)
    before

-- the same of a command by itself
abbrev pub write_of : Command → ℕ → WriteAnswer
write_of c room = write_file_of (one c) room

abbrev pub bytes_after : Command → List ℕ → List ℕ
bytes_after c before = file_bytes_after (one c) before

-- the same where the values given may make no command, which is refusal 5
abbrev pub write_given : Option FileCommand → ℕ → WriteAnswer
write_given none room = refused_with 5
write_given (some c) room = write_file_of c room

abbrev pub bytes_given : Option FileCommand → List ℕ → List ℕ
bytes_given none before = before
bytes_given (some c) before = file_bytes_after c before

-- what a write of a command promises: the answer, every byte of the slice, and, where the command is written, that it is read back
-- with the same values
pub record WritesFileCommand (c : FileCommand) (before : List ℕ) (answer : Result ℕ WriteError) (after : List ℕ) : Type 0 where
  pub answers : answer_of answer ≡ write_file_of c (length before)
  pub bytes : after ≡ file_bytes_after c before
  pub back : (answer_of answer).number ≡ 0 → file_command_at after 0 ≡ c

abbrev pub WritesCommand : Command → List ℕ → Result ℕ WriteError → List ℕ → Type 0
WritesCommand c before answer after = WritesFileCommand (one c) before answer after
