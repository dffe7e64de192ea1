-- The faults of a basement member, by computation: each number with its offset and the operand that it names, and members that are
-- accepted, with their rows. 02, No. 9: "A missing joint or wall is 6, a place above 1 or a nonzero id for a wall is 5." Assumes nothing.
use mathlib.Core.Path.{◌≡◌, refl}
use mathlib.Core.List.{List, ◌∷◌, ◌++◌}
use Prim.Native.Nat.{ℕ}
use Rattle.quantity.specs.Range.{within, within_signed}
use Rattle.layout.specs.Number.{number, number_after, signed32, bits32}
use Rattle.layout.specs.Forms.{width, form_in_range}
use Rattle.layout.specs.Layouts.{known, known_in, forms_of, forms_in, width_of_all, operands_width}
use Rattle.layout.specs.Operands.{read_operands}
use Rattle.format.specs.Commands.{command_of, in_range, all_in_range, related, first_outside, relation_names, operand_at_fault}
use Rattle.format.specs.Reading.{command_at}
use Rattle.blocks.specs.FileCommands.{file_command_at, width_at, file_operand_at_fault}
use Rattle.context.specs.Context.{next, absent}
use Rattle.rows.specs.Rows.{rows_of, rows_with}
use Rattle.job.specs.Faults.{too_many, seventeenth, misplaced, command_tests, tests_at}
use Rattle.job.specs.Placed.{listed_by, listed, placed, all_rows}
use Rattle.job.specs.Answers.{FaultAnswer, rows_answer, size_of, fault_of}
use Rattle.job.proofs.Refusals.{zeros, settings, joint, wall_base, finish}

-- with a place and an id, every other operand 0: 27 bytes
abbrev basement : ℕ → ℕ → List ℕ
basement place id = 0x0c ∷ place ∷ id ∷ zeros 24

-- MR is 2³¹, its operand 7
abbrev too_strong : ℕ → ℕ → List ℕ
too_strong place id = 0x0c ∷ place ∷ id ∷ zeros 20 ++ 0x80 ∷ zeros 3

abbrev refusal : ℕ → ℕ → ℕ → FaultAnswer
refusal number offset operand = record { number = number; offset = offset; command = 12; operand = operand }

pub record BasementTrial : Type 0 where
  -- 1 and 4 come first
  pub cut_short : fault_of (0x0c ∷ 2 ∷ zeros 24) ≡ refusal 1 0 0
  pub first : fault_of (basement 2 0 ++ finish) ≡ refusal 4 0 0
  -- 5 for a place above 1, whatever the id, though there is no joint and no wall
  pub place_2 : fault_of (settings ++ basement 2 0 ++ finish) ≡ refusal 5 7 0
  pub place_255 : fault_of (settings ++ basement 255 9 ++ finish) ≡ refusal 5 7 0
  -- 5 for a nonzero id of a wall, named as operand 1, also where there is no wall; an operand out of its own range is named before
  pub wall_id : fault_of (settings ++ basement 1 9 ++ finish) ≡ refusal 5 7 1
  pub wall_id_behind_base : fault_of (settings ++ wall_base ++ basement 1 9 ++ finish) ≡ refusal 5 32 1
  pub strength_and_id : fault_of (settings ++ too_strong 1 9 ++ finish) ≡ refusal 5 7 7
  -- 6 for a missing joint, though a wall is there, and for a missing wall, though a joint is there; 5 before 6
  pub no_joint : fault_of (settings ++ wall_base ++ basement 0 0 ++ finish) ≡ refusal 6 32 0
  pub other_joint : fault_of (settings ++ joint ++ basement 0 8 ++ finish) ≡ refusal 6 21 0
  pub no_wall : fault_of (settings ++ joint ++ basement 1 0 ++ finish) ≡ refusal 6 21 0
  pub strength_no_joint : fault_of (settings ++ too_strong 0 9 ++ finish) ≡ refusal 5 7 7
  -- none: two rows each, beside the one of the wall base
  pub under_joint : size_of (settings ++ joint ++ basement 0 9 ++ finish) ≡ rows_answer 2
  pub under_wall : size_of (settings ++ wall_base ++ basement 1 0 ++ finish) ≡ rows_answer 3

pub basement_trial : BasementTrial
unfolding
    fault_of size_of all_rows rows_of rows_with placed listed listed_by tests_at command_tests width_at file_command_at file_operand_at_fault operand_at_fault first_outside relation_names too_many seventeenth misplaced known known_in forms_of forms_in operands_width width_of_all width command_at command_of read_operands
    number number_after in_range all_in_range form_in_range related within within_signed signed32 bits32 next absent
basement_trial =
    record {
      cut_short = refl;
      first = refl;
      place_2 = refl;
      place_255 = refl;
      wall_id = refl;
      wall_id_behind_base = refl;
      strength_and_id = refl;
      no_joint = refl;
      other_joint = refl;
      no_wall = refl;
      strength_no_joint = refl;
      under_joint = refl;
      under_wall = refl;
    }
