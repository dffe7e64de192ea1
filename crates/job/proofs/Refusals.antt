-- Refusals of small jobs, by computation: each number with its offset, and which number is given where two faults are present
-- at one command. 01, "Who can make a job fail". Assumes nothing.
use mathlib.Core.Path.{◌≡◌, refl}
use mathlib.Core.Bool.{Bool, true, false}
use mathlib.Core.List.{List, [], ◌∷◌, ◌++◌}
use Prim.Native.Nat.{ℕ}
use lib.ListN.{replicate}
use Rattle.quantity.specs.Range.{within, within_signed}
use Rattle.layout.specs.Number.{number, number_after, signed32, bits32}
use Rattle.layout.specs.Forms.{width, form_in_range}
use Rattle.layout.specs.Layouts.{known, known_in, forms_of, forms_in, width_of_all, operands_width}
use Rattle.format.specs.Commands.{command_of, in_range, all_in_range, related}
use Rattle.layout.specs.Operands.{byte_at, read_operands}
use Rattle.format.specs.Reading.{command_at}
use Rattle.context.specs.Context.{Context, nothing, next, given, absent}
use Rattle.rows.specs.Rows.{rows_of, rows_with}
use Rattle.blocks.specs.FileCommands.{file_command_at, width_at}
use Rattle.job.specs.Faults.{unknown, cut_short, too_many, seventeenth, misplaced, out_of_range, command_tests, tests_at}
use Rattle.job.specs.Placed.{refused, listed_by, listed, placed_with, placed, all_rows}
use Rattle.job.specs.Answers.{rows_answer, size_of}
use Rattle.job.proofs.AcceptedBefore.{with7}
use Rattle.job.proofs.Passing.{so_many}
use Rattle.job.proofs.PlacedCases.{fault_at}

-- ---- commands

abbrev pub zeros : ℕ → List ℕ
zeros n = replicate n 0

-- q 300, gj 120, gf 120: 7 bytes
abbrev pub settings : List ℕ
settings = 0x01 ∷ 0x01 ∷ 0x2c ∷ 0x00 ∷ 0x78 ∷ 0x00 ∷ 0x78 ∷ []

-- q 0
abbrev wrong_settings : List ℕ
wrong_settings = 0x01 ∷ 0x00 ∷ 0x00 ∷ 0x00 ∷ 0x78 ∷ 0x00 ∷ 0x78 ∷ []

-- the joint 9: 14 bytes
abbrev pub joint : List ℕ
joint = 0x02 ∷ 0x09 ∷ zeros 12

-- 3,000 long: 29 bytes
abbrev pub column : List ℕ
column = 0x03 ∷ 0x00 ∷ 0x00 ∷ 0x0b ∷ 0xb8 ∷ zeros 24

-- 0 long
abbrev wrong_column : List ℕ
wrong_column = 0x03 ∷ zeros 28

-- between the joints 9 and 10: 23 bytes
abbrev pub hingeless : List ℕ
hingeless = 0x05 ∷ 0x00 ∷ 0x00 ∷ 0x0b ∷ 0xb8 ∷ 0x09 ∷ 0x0a ∷ zeros 16

-- 4,096 long, 256 thick, no strengths: 25 bytes
abbrev pub wall_base : List ℕ
wall_base = 0x06 ∷ 0x00 ∷ 0x00 ∷ 0x10 ∷ 0x00 ∷ 0x00 ∷ 0x00 ∷ 0x01 ∷ 0x00 ∷ zeros 16

-- J 1, J0 1: 25 bytes
abbrev pub storey : List ℕ
storey = 0x07 ∷ zeros 11 ++ 0x01 ∷ zeros 3 ++ 0x01 ∷ zeros 8

-- J 2, J0 1
abbrev pub wrong_storey : List ℕ
wrong_storey = 0x07 ∷ zeros 11 ++ 0x02 ∷ zeros 3 ++ 0x01 ∷ zeros 8

-- 1,000 by 1,000: 58 bytes
abbrev pub footing : List ℕ
footing = 0x09 ∷ 0x00 ∷ 0x00 ∷ 0x03 ∷ 0xe8 ∷ 0x00 ∷ 0x00 ∷ 0x03 ∷ 0xe8 ∷ zeros 49

abbrev pub finish : List ℕ
finish = 0x00 ∷ []

-- ---- each number, with its offset; 8 is below

pub record Numbers : Type 0 where
  pub empty : placed [] ≡ refused 1 0
  pub no_end : placed settings ≡ refused 1 7
  pub no_end_later : placed (settings ++ column) ≡ refused 1 36
  pub cut_short_lem : placed (settings ++ 0x03 ∷ zeros 27) ≡ refused 1 7
  pub unknown_command : placed (settings ++ 0x0e ∷ []) ≡ refused 2 7
  pub after_end : placed (settings ++ finish ++ finish) ≡ refused 3 8
  pub end_first : placed finish ≡ refused 4 0
  pub end_first_more : placed (finish ++ finish) ≡ refused 4 0
  pub not_settings : placed (column ++ finish) ≡ refused 4 0
  pub settings_again : placed (settings ++ settings ++ finish) ≡ refused 4 7
  pub out_of_range_lem : placed (settings ++ wrong_column ++ finish) ≡ refused 5 7
  pub no_base : placed (settings ++ storey ++ finish) ≡ refused 6 7
  pub no_soil : placed (settings ++ footing ++ finish) ≡ refused 6 7
  pub no_joint : placed (settings ++ joint ++ hingeless ++ finish) ≡ refused 6 21
  -- 7 by the tests of document 01 alone
  pub joint_twice_before : placed_with (with7 tests_at) (settings ++ joint ++ joint ++ finish) ≡ refused 7 21
  -- and none: settings, a column and the end are accepted, with one row; a joint given again too
  pub no_refusal : size_of (settings ++ column ++ finish) ≡ rows_answer 1
  pub joint_again_lem : size_of (settings ++ joint ++ joint ++ finish) ≡ rows_answer 0

pub numbers : Numbers
unfolding
    size_of all_rows rows_of rows_with placed listed listed_by tests_at command_tests width_at file_command_at too_many seventeenth misplaced known known_in forms_of forms_in operands_width width_of_all width command_at command_of read_operands number number_after in_range all_in_range form_in_range
    related within within_signed signed32 bits32 next absent
numbers =
    record {
      empty = refl;
      no_end = refl;
      no_end_later = refl;
      cut_short_lem = refl;
      unknown_command = refl;
      after_end = refl;
      end_first = refl;
      end_first_more = refl;
      not_settings = refl;
      settings_again = refl;
      out_of_range_lem = refl;
      no_base = refl;
      no_soil = refl;
      no_joint = refl;
      joint_twice_before = refl;
      no_refusal = refl;
      joint_again_lem = refl;
    }

-- ---- the order of trial: 2, 1, 8, 4, 5, 6

-- two faults are present at the command at an offset, and a job is refused there with the number of the first
abbrev Both : Bool → Bool → List ℕ → ℕ → ℕ → Type 0
Both first second job number offset = (first ≡ true) × (second ≡ true) × (placed job ≡ refused number offset)

-- the fault of a 4,097th command that has another fault too
abbrev Last : Bool → List ℕ → Context → ℕ → Type 0
Last other command h number = (too_many (byte_at command 0) 4096 ≡ true) × (other ≡ true) × (fault_at command 0 (so_many 1 4096) h ≡ number)

-- what holds after settings
abbrev pub begun : Context
begun = next nothing (command_at settings 0)

-- the jobs
abbrev unknown_first : List ℕ
unknown_first = 0x0e ∷ []

abbrev column_cut : List ℕ
column_cut = 0x03 ∷ zeros 27

abbrev settings_cut : List ℕ
settings_cut = 0x01 ∷ zeros 2

abbrev storey_cut : List ℕ
storey_cut = settings ++ 0x07 ∷ zeros 23

abbrev wrong_again : List ℕ
wrong_again = settings ++ wrong_settings ++ finish

abbrev storey_first : List ℕ
storey_first = storey ++ finish

abbrev wrong_no_base : List ℕ
wrong_no_base = settings ++ wrong_storey ++ finish

-- 2 before 4; 1 before 4, 5, 6; 4 before 5, 6; 5 before 6
pub record OrderOfTrial : Type 0 where
  pub unknown_misplaced : Both (unknown unknown_first 0) (misplaced (byte_at unknown_first 0) false) unknown_first 2 0
  pub cut_misplaced : Both (cut_short column_cut 0) (misplaced (byte_at column_cut 0) false) column_cut 1 0
  pub cut_range : Both (cut_short settings_cut 0) (out_of_range (command_at settings_cut 0)) settings_cut 1 0
  pub cut_absent : Both (cut_short storey_cut 7) (absent begun (command_at storey_cut 7)) storey_cut 1 7
  pub misplaced_range : Both (misplaced (byte_at wrong_again 7) true) (out_of_range (command_at wrong_again 7)) wrong_again 4 7
  pub misplaced_absent : Both (misplaced (byte_at storey_first 0) false) (absent nothing (command_at storey_first 0)) storey_first 4 0
  pub range_absent : Both (out_of_range (command_at wrong_no_base 7)) (absent begun (command_at wrong_no_base 7)) wrong_no_base 5 7
  -- a 4,097th command: 2 and 1 before 8; 8, not for the one before it nor for the end; 8 before 4, 5, 6
  pub unknown_many : Last (unknown unknown_first 0) unknown_first begun 2
  pub cut_many : Last (cut_short column_cut 0) column_cut begun 1
  pub many : fault_at column 0 (so_many 1 4096) begun ≡ 8
  pub many_before : fault_at column 0 (so_many 1 4095) begun ≡ 0
  pub end_not_counted : fault_at finish 0 (so_many 1 4096) begun ≡ 0
  pub many_misplaced : Last (misplaced (byte_at settings 0) (given begun.settings)) settings begun 8
  pub many_range : Last (out_of_range (command_at wrong_column 0)) wrong_column begun 8
  pub many_absent : Last (absent begun (command_at storey 0)) storey begun 8

pub order_of_trial : OrderOfTrial
unfolding
    placed listed listed_by tests_at command_tests width_at file_command_at too_many seventeenth misplaced known known_in forms_of forms_in operands_width width_of_all width command_at command_of read_operands number number_after in_range all_in_range form_in_range
    related within within_signed signed32 bits32 next absent
order_of_trial =
    record {
      unknown_misplaced = (refl, refl, refl);
      cut_misplaced = (refl, refl, refl);
      cut_range = (refl, refl, refl);
      cut_absent = (refl, refl, refl);
      misplaced_range = (refl, refl, refl);
      misplaced_absent = (refl, refl, refl);
      range_absent = (refl, refl, refl);
      unknown_many = (refl, refl, refl);
      cut_many = (refl, refl, refl);
      many = refl;
      many_before = refl;
      end_not_counted = refl;
      many_misplaced = (refl, refl, refl);
      many_range = (refl, refl, refl);
      many_absent = (refl, refl, refl);
    }
