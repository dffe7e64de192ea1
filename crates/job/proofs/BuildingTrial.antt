-- The faults at and behind a 0D, by computation: each number with its offset, in the order of trial; and files of several buildings that
-- are accepted. 02, No. 10. Assumes nothing.
use mathlib.Core.Path.{◌≡◌, refl}
use mathlib.Core.List.{List, [], ◌∷◌, ◌++◌}
use Prim.Native.Nat.{ℕ, zero, suc}
use Rattle.std.specs.Float.Ieee.{of_bits}
use Rattle.soil.specs.Reading.{soil_allowed}
use Rattle.quantity.specs.Range.{within, within_signed}
use Rattle.layout.specs.Number.{number, number_after, signed32, bits32}
use Rattle.layout.specs.Forms.{width, form_in_range}
use Rattle.layout.specs.Layouts.{known, known_in, forms_of, forms_in, width_of_all, operands_width}
use Rattle.layout.specs.Operands.{read_operands}
use Rattle.format.specs.Commands.{command_of, in_range, all_in_range, related}
use Rattle.format.specs.Reading.{command_at}
use Rattle.blocks.specs.Sets.{count_in_range, storey_at, storeys_at, all_in_range as sets_in_range}
use Rattle.blocks.specs.FileCommands.{file_command_at, width_at}
use Rattle.context.specs.Context.{nothing, next, absent}
use Rattle.rows.specs.Rows.{rows_of, rows_with}
use Rattle.job.specs.Faults.{too_many, seventeenth, misplaced, passes_limit, command_tests, block_tests, tests_at}
use Rattle.job.specs.Placed.{refused, listed_by, listed, placed, all_rows}
use Rattle.job.specs.Answers.{rows_answer, size_of}
use Rattle.job.proofs.Passing.{so_many}
use Rattle.job.proofs.PlacedCases.{fault_at}
use Rattle.job.proofs.Refusals.{zeros, settings, column, joint, wall_base, storey, footing, hingeless, finish, begun}

-- a soil of kind 0, value 0: 7 bytes
abbrev soil : List ℕ
soil = 0x08 ∷ zeros 6

abbrev building : List ℕ
building = 0x0d ∷ []

-- another building with settings, so many times
abbrev buildings : ℕ → List ℕ
buildings zero = []
buildings (suc n) = building ++ settings ++ buildings n

pub record BuildingTrial : Type 0 where
  -- first, and behind another one: 4
  pub first : placed (building ++ settings ++ finish) ≡ refused 4 0
  pub twice : placed (settings ++ building ++ building ++ settings ++ finish) ≡ refused 4 8
  -- 4 for whatever is not settings behind it, the end too, also with bytes behind that
  pub joint_next : placed (settings ++ building ++ joint ++ finish) ≡ refused 4 8
  pub end_next : placed (settings ++ building ++ finish) ≡ refused 4 8
  pub end_next_more : placed (settings ++ building ++ finish ++ finish) ≡ refused 4 8
  -- 2 for an unknown byte there, 1 for a command cut short, 5 for a block's count, 1 where the file stops there
  pub unknown_next : placed (settings ++ building ++ 0x0e ∷ []) ≡ refused 2 8
  pub cut_next : placed (settings ++ building ++ 0x01 ∷ zeros 2) ≡ refused 1 8
  pub count_next : placed (settings ++ building ++ 0x0b ∷ 0 ∷ finish) ≡ refused 5 8
  pub stops_there : placed (settings ++ building) ≡ refused 1 8
  -- what was given is forgotten, and the settings are not those of the building before
  pub no_joint : placed (settings ++ joint ++ building ++ settings ++ hingeless ++ finish) ≡ refused 6 29
  pub no_base : placed (settings ++ wall_base ++ building ++ settings ++ storey ++ finish) ≡ refused 6 40
  pub no_soil : placed (settings ++ soil ++ building ++ settings ++ footing ++ finish) ≡ refused 6 22
  pub settings_twice : placed (settings ++ building ++ settings ++ settings ++ finish) ≡ refused 4 15
  -- sixteen buildings, and one more: 13 at its 0D, also where settings are missing there
  pub sixteen : size_of (settings ++ buildings 15 ++ finish) ≡ rows_answer 0
  pub seventeen : placed (settings ++ buildings 16 ++ finish) ≡ refused 13 127
  pub seventeen_no_settings : placed (settings ++ buildings 14 ++ building ++ building ++ finish) ≡ refused 13 120
  -- a building may have settings alone; rows in two of them
  pub settings_alone : size_of (settings ++ column ++ building ++ settings ++ building ++ settings ++ column ++ finish) ≡ rows_answer 2

pub building_trial : BuildingTrial
unfolding
    size_of all_rows rows_of rows_with placed listed listed_by tests_at command_tests block_tests width_at file_command_at too_many seventeenth misplaced passes_limit known known_in forms_of forms_in operands_width width_of_all width command_at command_of read_operands
    number number_after in_range all_in_range form_in_range related within within_signed signed32 bits32 next absent count_in_range storey_at storeys_at sets_in_range soil_allowed of_bits
building_trial =
    record {
      first = refl;
      twice = refl;
      joint_next = refl;
      end_next = refl;
      end_next_more = refl;
      unknown_next = refl;
      cut_next = refl;
      count_next = refl;
      stops_there = refl;
      no_joint = refl;
      no_base = refl;
      no_soil = refl;
      settings_twice = refl;
      sixteen = refl;
      seventeen = refl;
      seventeen_no_settings = refl;
      settings_alone = refl;
    }

-- ---- the limits

-- after so many buildings and commands: 8 before 13, 13 before 4; the 16th building is none too many, and as the 4,097th command a 0D is 8
pub record BuildingLimits : Type 0 where
  pub last : fault_at building 0 (so_many 15 4095) begun ≡ 0
  pub one_more : fault_at building 0 (so_many 16 4095) begun ≡ 13
  pub many : fault_at building 0 (so_many 15 4096) begun ≡ 8
  pub many_and_one_more : fault_at building 0 (so_many 16 4096) begun ≡ 8
  pub one_more_misplaced : fault_at building 0 (so_many 16 15) nothing ≡ 13

pub building_limits : BuildingLimits
unfolding
    tests_at command_tests width_at too_many seventeenth misplaced known known_in forms_of forms_in operands_width width_of_all width command_at command_of read_operands in_range all_in_range related next absent number number_after form_in_range
building_limits = record { last = refl; one_more = refl; many = refl; many_and_one_more = refl; one_more_misplaced = refl }
