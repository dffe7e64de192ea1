-- A job with two walls that is refused at its last storey, by computation: the commands that the walk reaches, and the running values
-- that it carries at each storey, the refused one too. So the law of the latest wall speaks of jobs that are refused. 02, No. 4.
-- Assumes nothing.
use mathlib.Core.Bool.{true, false}
use mathlib.Core.Path.{◌≡◌, refl}
use mathlib.Core.List.{List, [], ◌∷◌, ◌++◌, map}
use Prim.Native.Nat.{ℕ}
use lib.ListN.{take, replicate}
use Rattle.std.specs.Prelude.{Option, Some}
use Rattle.exact.specs.Quotient.{up}
use Rattle.exact.specs.Fraction.{smaller}
use Rattle.coefficient.specs.Coefficient.{coefficient_of, cap_governs}
use Rattle.walls.specs.declared.Wall.{Wall}
use Rattle.walls.specs.Running.{wall_of}
use Rattle.quantity.specs.Range.{within, within_signed}
use Rattle.layout.specs.Number.{number, number_after, signed32, bits32}
use Rattle.layout.specs.Forms.{width, form_in_range}
use Rattle.layout.specs.Layouts.{known, known_in, forms_of, forms_in, width_of_all, operands_width}
use Rattle.layout.specs.Operands.{read_operands}
use Rattle.format.specs.Commands.{command_of, in_range, all_in_range, related}
use Rattle.format.specs.Reading.{command_at}
use Rattle.context.specs.Context.{next, absent}
use Rattle.context.specs.Running.{start_state, next_state}
use Rattle.blocks.specs.FileCommands.{file_command_at, width_at}
use Rattle.job.specs.Faults.{too_many, seventeenth, misplaced, command_tests, tests_at}
use Rattle.job.specs.Placed.{Placed, placed_all, refused, listed_by, listed, placed}
use Rattle.job.specs.Reached.{reached_from, reached}
use Rattle.job.specs.LatestWall.{wall_after}

-- ---- the job

-- a word of four bytes
abbrev small : ℕ → List ℕ
small n = 0x00 ∷ 0x00 ∷ 0x00 ∷ n ∷ []

-- q 350, gj 140, gf 120
abbrev settings : List ℕ
settings = 0x01 ∷ 0x01 ∷ 0x5e ∷ 0x00 ∷ 0x8c ∷ 0x00 ∷ 0x78 ∷ []

-- 4,096 long, 256 thick
abbrev sides : List ℕ
sides = 0x00 ∷ 0x00 ∷ 0x10 ∷ 0x00 ∷ 0x00 ∷ 0x00 ∷ 0x01 ∷ 0x00 ∷ []

-- MR 50, ME 20, VE 90, VR 0: a = 130·50/(100·20) = 3.25, W = 292.5 up
abbrev first : List ℕ
first = 0x06 ∷ sides ++ small 50 ++ small 20 ++ small 90 ++ small 0

-- MR 50, ME 10, VE 90, VR 0: a = 3.5, for 130·50/(100·10) is more; W = 315
abbrev second : List ℕ
second = 0x06 ∷ sides ++ small 50 ++ small 10 ++ small 90 ++ small 0

-- ME 5, VE 70, J and J0, VR 0, MS 0
abbrev storey : ℕ → ℕ → List ℕ
storey inertia base = 0x07 ∷ small 5 ++ small 70 ++ small inertia ++ small base ++ small 0 ++ small 0

-- the joint 9
abbrev joint : List ℕ
joint = 0x02 ∷ 0x09 ∷ replicate 12 0

-- the first wall with two storeys and a joint between, the second with one storey and one at fault: J 3, J0 2
abbrev job : List ℕ
job = settings ++ first ++ storey 1 1 ++ joint ++ storey 1 2 ++ second ++ storey 1 1 ++ storey 3 2

-- the running values after so many of the commands reached
abbrev carried : ℕ → Option Wall
carried n = wall_after (take n (placed_all (reached job)))

pub record TwoWalls : Type 0 where
  pub stopped : placed job ≡ refused 5 146
  pub offsets : map (λ (p : Placed). p.offset) (placed_all (reached job)) ≡ 0 ∷ 7 ∷ 32 ∷ 57 ∷ 71 ∷ 96 ∷ 121 ∷ []
  pub first_storey : carried 2 ≡ Some (record { coefficient = record { num = 6500; den = 2000 }; shear = 293; resistance = 50; governs = false })
  pub behind_a_joint : carried 4 ≡ carried 2
  pub second_wall : carried 6 ≡ Some (record { coefficient = record { num = 350; den = 100 }; shear = 315; resistance = 50; governs = true })
  pub at_fault : carried 7 ≡ carried 6

pub two_walls : TwoWalls
unfolding up smaller coefficient_of cap_governs wall_of within within_signed number number_after signed32 bits32 width form_in_range known known_in forms_of forms_in width_of_all operands_width read_operands command_of in_range all_in_range related command_at next absent start_state next_state too_many seventeenth misplaced tests_at command_tests width_at file_command_at listed_by listed placed reached_from reached
two_walls =
    record {
      stopped = refl;
      offsets = refl;
      first_storey = refl;
      behind_a_joint = refl;
      second_wall = refl;
      at_fault = refl;
    }
