-- The order of trial at a block, by computation: which number is given where two faults are present, with its offset and the operand that
-- it names; and blocks that are accepted, with their rows' offsets. 02, No. 7. Assumes nothing.
use mathlib.Core.Path.{◌≡◌, refl}
use mathlib.Core.List.{List, [], ◌∷◌, ◌++◌, map}
use Prim.Native.Nat.{ℕ}
use Rattle.quantity.specs.Range.{within, within_signed}
use Rattle.layout.specs.Number.{number, number_after, signed32, bits32}
use Rattle.layout.specs.Forms.{width, form_in_range}
use Rattle.layout.specs.Layouts.{known, known_in, forms_of, forms_in, width_of_all, operands_width}
use Rattle.layout.specs.Operands.{operand, offset_of, read_operands}
use Rattle.format.specs.Commands.{command_of, in_range, all_in_range, related, first_outside, relation_names, operand_at_fault}
use Rattle.format.specs.Reading.{command_at}
use Rattle.blocks.specs.Sets.{count_in_range, storey_at, storeys_at, set_at_fault, all_in_range as sets_in_range}
use Rattle.blocks.specs.FileCommands.{file_command_at, width_at, file_operand_at_fault}
use Rattle.context.specs.Context.{nothing, next, absent}
use Rattle.job.specs.Faults.{too_many, seventeenth, misplaced, passes_limit, command_tests, block_tests, tests_at}
use Rattle.job.specs.Placed.{Placed, placed_all, listed_by, listed, placed}
use Rattle.job.specs.Reached.{reached_from, reached}
use Rattle.job.specs.Answers.{FaultAnswer, fault_of}
use Rattle.job.proofs.Passing.{so_many}
use Rattle.job.proofs.PlacedCases.{fault_at}
use Rattle.job.proofs.Refusals.{zeros, settings, wall_base, finish, begun}

-- a set with J and J0: 24 bytes
abbrev set : ℕ → ℕ → List ℕ
set inertia base = zeros 11 ++ inertia ∷ zeros 3 ++ base ∷ zeros 8

abbrev block : ℕ → List ℕ → List ℕ
block count sets = 0x0b ∷ count ∷ sets

-- a good set, and one with J above J0
abbrev good : List ℕ
good = set 1 2

abbrev bad : List ℕ
bad = set 2 1

abbrev refusal : ℕ → ℕ → ℕ → FaultAnswer
refusal number offset operand = record { number = number; offset = offset; command = 11; operand = operand }

-- ---- each number in its turn; 8 is below

pub record BlockTrial : Type 0 where
  -- 1 for a missing count, though settings are missing too; 5 for the count before 1 for the sets and before 4
  pub no_count : fault_of (0x0b ∷ []) ≡ refusal 1 0 0
  pub count_0 : fault_of (block 0 []) ≡ refusal 5 0 0
  pub count_65 : fault_of (settings ++ block 65 good) ≡ refusal 5 7 0
  -- 1 for the sets before 4, 6 and 5; the last byte of a set is missing
  pub sets_missing : fault_of (block 2 (bad ++ zeros 23)) ≡ refusal 1 0 0
  -- 4 before 6 and 5, 6 before 5
  pub first : fault_of (block 1 bad ++ finish) ≡ refusal 4 0 0
  pub no_base : fault_of (settings ++ block 1 bad ++ finish) ≡ refusal 6 7 0
  -- 5 for a set: J of the second set is operand 1 + 6 + 2, and of the first 1 + 2
  pub second_set : fault_of (settings ++ wall_base ++ block 2 (good ++ bad) ++ finish) ≡ refusal 5 32 9
  pub first_set : fault_of (settings ++ wall_base ++ block 2 (bad ++ bad) ++ finish) ≡ refusal 5 32 3
  -- none: two storeys, each at its set's first byte, and the end behind them
  pub accepted : map (λ (p : Placed). p.offset) (placed_all (reached (settings ++ wall_base ++ block 2 (good ++ good) ++ finish))) ≡ 0 ∷ 7 ∷ 34 ∷ 58 ∷ []

pub block_trial : BlockTrial
unfolding
    fault_of placed listed listed_by reached reached_from tests_at command_tests block_tests too_many seventeenth misplaced passes_limit known known_in forms_of forms_in operands_width width_of_all width command_at command_of read_operands number number_after
    in_range all_in_range form_in_range related within within_signed signed32 bits32 next absent count_in_range storey_at storeys_at sets_in_range set_at_fault operand offset_of file_command_at width_at file_operand_at_fault first_outside relation_names operand_at_fault
block_trial =
    record {
      no_count = refl;
      count_0 = refl;
      count_65 = refl;
      sets_missing = refl;
      first = refl;
      no_base = refl;
      second_set = refl;
      first_set = refl;
      accepted = refl;
    }

-- ---- the limit

-- after so many commands, with settings given and no base: 8 where the block would pass 4,096, after 1 and before 4, 6 and 5
pub record BlockLimit : Type 0 where
  pub fills : fault_at (block 2 (good ++ good)) 0 (so_many 1 4094) begun ≡ 6
  pub passes : fault_at (block 2 (good ++ good)) 0 (so_many 1 4095) begun ≡ 8
  pub passes_cut : fault_at (block 2 good) 0 (so_many 1 4096) begun ≡ 1
  pub passes_first : fault_at (block 1 bad) 0 (so_many 1 4096) nothing ≡ 8

pub block_limit : BlockLimit
unfolding
    tests_at block_tests misplaced passes_limit known known_in forms_of forms_in operands_width width_of_all width command_at command_of read_operands number number_after in_range all_in_range form_in_range related within within_signed signed32 bits32
    next count_in_range storey_at storeys_at sets_in_range operand offset_of width_at
block_limit = record { fills = refl; passes = refl; passes_cut = refl; passes_first = refl }
