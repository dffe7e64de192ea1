-- The fault of a command, tried in the order of 01 and 02: "The walk stops at the first command at fault, trying 2, 1, 8, 4, 5, 6, 7";
-- since 02, No. 1, "Refusal 7 no longer occurs", and since No. 10 there is 13, "tried after 8". A block has an order of its own. 02,
-- No. 7: "Faults inside a block are reported at the block's command, trying 2, 1 for a missing count, 5 for the count, 1 for the sets,
-- 8, 4, 6, then 5 for the sets."
use Rattle.std.specs.Prelude.{Bool, not, ◌&&◌, ◌||◌, cond, List, [], ◌∷◌, ℕ, ◌+◌, eqb, leb, ltb, length}
use Rattle.layout.specs.Layouts.{known}
use Rattle.walls.specs.declared.Storey.{Storey}
use Rattle.format.specs.declared.Command.{Command}
use Rattle.format.specs.Commands.{in_range}
use Rattle.layout.specs.Operands.{byte_at}
use Rattle.format.specs.Reading.{command_at}
use Rattle.blocks.specs.Sets.{is_block, count_at, count_in_range, sets_of, all_in_range}
use Rattle.blocks.specs.FileCommands.{FileCommand, width_at, file_operand_at_fault}
use Rattle.context.specs.Context.{Context, given, missing, absent}
use Rattle.job.specs.declared.Counts.{Counts}

-- 2: unknown command
abbrev pub unknown : List ℕ → ℕ → Bool
unknown job at = not (known (byte_at job at) || is_block (byte_at job at))

-- the offset after the command
abbrev pub after_command : List ℕ → ℕ → ℕ
after_command job at = at + width_at job at

-- 1: command cut short; of a block, its sets
abbrev pub cut_short : List ℕ → ℕ → Bool
cut_short job at = ltb (length job) (after_command job at)

-- 8: a 4,097th command, end not counted; by the command's byte and the commands before it
unfoldable pub too_many : ℕ → ℕ → Bool
too_many byte count = not (eqb byte 0) && leb 4096 count

-- the byte is 0D, that of another building
abbrev pub is_building : ℕ → Bool
is_building byte = eqb byte 13

-- 13: the 0D that begins a 17th building; by the command's byte, and the buildings begun before it with the first one counted
unfoldable pub seventeenth : ℕ → ℕ → Bool
seventeenth byte buildings = is_building byte && leb 16 buildings

-- 4: first command not settings, or settings again; 02, No. 10: "refusal 4 also covers a missing settings after 0D". By the byte, and
-- whether settings are given in this building
unfoldable pub misplaced : ℕ → Bool → Bool
misplaced byte settings_given = cond settings_given (eqb byte 1) (not (eqb byte 1))

-- 5: operand out of range
abbrev pub out_of_range : Command → Bool
out_of_range c = not (in_range c)

-- ---- the tests of a block alone

-- 1: no count behind the block's byte
abbrev pub count_missing : List ℕ → ℕ → Bool
count_missing job at = leb (length job) (at + 1)

-- 5: the count
abbrev pub count_out_of_range : ℕ → Bool
count_out_of_range count = not (count_in_range count)

-- 8: "A block counts as that many commands towards 4,096, and refusal 8 is due when it would pass the limit"; by its storeys and the
-- commands before it
unfoldable pub passes_limit : ℕ → ℕ → Bool
passes_limit storeys count = ltb 4096 (count + storeys)

-- 6: storeys without base
abbrev pub without_base : Context → Bool
without_base h = missing h.wall

-- 5: a set
abbrev pub set_out_of_range : List Storey → Bool
set_out_of_range ss = not (all_in_range ss)

-- ---- the order of trial

-- the number of the first test that finds a fault, and 0 where none does
abbrev pub first_of : List (Bool × ℕ) → ℕ
first_of [] = 0
first_of (t ∷ ts) = cond t.0 t.1 (first_of ts)

-- tests of the command at an offset of a job, with what is counted before it and what holds there: each with its number, in the
-- order of trial
abbrev pub Tests : Type 0
Tests = List ℕ → ℕ → Counts → Context → List (Bool × ℕ)

-- those of a command by itself; 6 is `absent`
unfoldable pub command_tests : Tests
command_tests job at counts h =
    (unknown job at, 2)
    ∷ (cut_short job at, 1)
    ∷ (too_many (byte_at job at) counts.commands, 8)
    ∷ (seventeenth (byte_at job at) counts.buildings, 13)
    ∷ (misplaced (byte_at job at) (given h.settings), 4)
    ∷ (out_of_range (command_at job at), 5)
    ∷ (absent h (command_at job at), 6)
    ∷ []

-- those of a block
unfoldable pub block_tests : Tests
block_tests job at counts h =
    (unknown job at, 2)
    ∷ (count_missing job at, 1)
    ∷ (count_out_of_range (count_at job at), 5)
    ∷ (cut_short job at, 1)
    ∷ (passes_limit (count_at job at) counts.commands, 8)
    ∷ (misplaced (byte_at job at) (given h.settings), 4)
    ∷ (without_base h, 6)
    ∷ (set_out_of_range (sets_of job at), 5)
    ∷ []

-- the tests of 01 and 02
unfoldable pub tests_at : Tests
unfolding command_tests block_tests
tests_at job at counts h = cond (is_block (byte_at job at)) (block_tests job at counts h) (command_tests job at counts h)

-- the operand that a refusal names: for 5 the operand at fault, counted from 0; 0 in every other refusal
abbrev pub operand_named : ℕ → FileCommand → ℕ
operand_named number c = cond (eqb number 5) (file_operand_at_fault c) 0
