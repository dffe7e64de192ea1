-- The walk in the shape of the code. proofs/ joins it to the placed commands. `room` tells whether rows are to be written.
use Rattle.std.specs.Prelude.{◌≡◌, Bool, true, not, cond, List, [], ◌∷◌, ◌++◌, map, Result, Ok, Err, ℕ, zero, suc, ◌+◌, ◌-◌, ◌*◌, ◌≤◌, ◌<◌, eqb, leb, ltb, ℤ, length}
use Rattle.layout.specs.Layouts.{known, operands_width}
use Rattle.layout.specs.Operands.{byte_at}
use Rattle.format.specs.declared.Command.{Command}
use Rattle.format.specs.Commands.{byte_of}
use Rattle.format.specs.Reading.{command_at}
use Rattle.blocks.specs.Sets.{is_block, count_at, sets_of}
use Rattle.blocks.specs.FileCommands.{file_command_at, commands_from}
use Rattle.context.specs.declared.State.{State}
use Rattle.context.specs.Context.{given}
use Rattle.context.specs.Running.{JointTable, start_state, walled, next_state, next_joints, absent_in, SoundState, SoundJoints}
use Rattle.rows.specs.Rows.{row_count, words}
use Rattle.rows.specs.Writing.{rows_from, stored_all}
use Rattle.job.specs.declared.Counts.{Counts}
use Rattle.job.specs.declared.Place.{Place}
use Rattle.job.specs.declared.Refused.{Refused as RefusedAt}
use Rattle.job.specs.declared.Progress.{Progress}
use Rattle.job.specs.declared.Progress.TheVariants as progress
use Rattle.job.specs.declared.Stretch.{Stretch}
use Rattle.job.specs.declared.Stretch.TheVariants as stretch
use Rattle.job.specs.Counts.{first_counts, counted}
use Rattle.job.specs.Faults.{after_command, too_many, seventeenth, misplaced, out_of_range, count_missing, count_out_of_range, passes_limit, set_out_of_range, first_of, operand_named}
use Rattle.job.specs.Refusals.{number_of, operand_of}
use Rattle.job.specs.Answers.{FaultAnswer, no_fault, fault_with}

-- the tests that need a command's byte alone: by the job's length, the command's offset and byte, what is counted before it, and
-- whether settings are given
abbrev pub early_tests : ℕ → ℕ → ℕ → Counts → Bool → List (Bool × ℕ)
early_tests bytes at byte counts settings_given =
    (not (known byte), 2)
    ∷ (ltb bytes (at + 1 + operands_width byte), 1)
    ∷ (too_many byte counts.commands, 8)
    ∷ (seventeenth byte counts.buildings, 13)
    ∷ (misplaced byte settings_given, 4)
    ∷ []

unfoldable pub early_fault : ℕ → ℕ → ℕ → Counts → Bool → ℕ
early_fault bytes at byte counts settings_given = first_of (early_tests bytes at byte counts settings_given)

-- the two that need the command: by the state and the joints that are given
abbrev pub late_tests : State → JointTable → Command → List (Bool × ℕ)
late_tests t joints c =
    (out_of_range c, 5)
    ∷ (absent_in t joints c, 6)
    ∷ []

unfoldable pub late_fault : State → JointTable → Command → ℕ
late_fault t joints c = first_of (late_tests t joints c)

-- all of them
unfoldable pub command_fault : List ℕ → Place → JointTable → ℕ
command_fault job p joints =
    first_of (early_tests (length job) p.offset (byte_at job p.offset) p.counts (given p.state.settings) ++ late_tests p.state joints (command_at job p.offset))

-- of these, the tests of a 0D: its byte is known, and as it has no operands it is not cut short
unfoldable pub building_fault : Place → ℕ
building_fault p = first_of ((leb 4096 p.counts.commands, 8) ∷ (leb 16 p.counts.buildings, 13) ∷ (not (given p.state.settings), 4) ∷ [])

-- the tests of a block
unfoldable pub block_fault : List ℕ → Place → ℕ
block_fault job p =
    first_of
    ((count_missing job p.offset, 1)
    ∷ (count_out_of_range (count_at job p.offset), 5)
    ∷ (ltb (length job) (p.offset + 2 + 24 * count_at job p.offset), 1)
    ∷ (passes_limit (count_at job p.offset) p.counts.commands, 8)
    ∷ (not (given p.state.settings), 4)
    ∷ (not (walled p.state.wall), 6)
    ∷ (set_out_of_range (sets_of job p.offset), 5)
    ∷ [])

unfoldable pub fault_from : List ℕ → Place → JointTable → ℕ
unfolding command_fault block_fault
fault_from job p joints = cond (is_block (byte_at job p.offset)) (block_fault job p) (command_fault job p joints)

-- how a walk ends: refused, with number, offset and the operand named; finished, with the rows; or paused, its budget spent
pub data WalkAnswer : Type 0 where
  Refused : ℕ → ℕ → ℕ → WalkAnswer
  Finished : ℕ → WalkAnswer
  Paused : Place → WalkAnswer

pub record Final : Type 0 where
  pub answer : WalkAnswer
  pub joints : JointTable
  pub memory : List ℤ

-- the end of a walk of the code, in these terms
abbrev pub refused_there : RefusedAt → WalkAnswer
refused_there r = Refused (number_of r.refusal) r.offset (operand_of r.refusal)

abbrev pub progress_answer : Progress → WalkAnswer
progress_answer (progress.Finished n) = Finished n
progress_answer (progress.Paused p) = Paused p

abbrev pub walk_answer : Result Progress RefusedAt → WalkAnswer
walk_answer (Ok p) = progress_answer p
walk_answer (Err r) = refused_there r

-- ---- the commands that the one at a place gives

abbrev pub commands_here : List ℕ → Place → List (ℕ × Command)
commands_here job p = commands_from p.offset (file_command_at job p.offset)

-- the state and the joints after commands, one after the other
abbrev pub state_through : Bool → State → List (ℕ × Command) → State
state_through room t [] = t
state_through room t ((at, c) ∷ cs) = state_through room (next_state room t c) cs

abbrev pub joints_through : JointTable → List (ℕ × Command) → JointTable
joints_through joints [] = joints
joints_through joints ((at, c) ∷ cs) = joints_through (next_joints joints c) cs

-- how many rows they have, and the rows, each off the state and the joints after it
abbrev pub row_counts : List (ℕ × Command) → ℕ
row_counts [] = 0
row_counts ((at, c) ∷ cs) = row_count c + row_counts cs

unfoldable pub rows_through : Bool → State → JointTable → List (ℕ × Command) → List (List ℤ)
rows_through room t joints [] = []
rows_through room t joints ((at, c) ∷ cs) =
    map (words at (byte_of c)) (rows_from (next_state room t c) (next_joints joints c) c)
    ++ rows_through room (next_state room t c) (next_joints joints c) cs

-- ---- the walk

unfoldable pub rows_here : Bool → List ℕ → Place → JointTable → List (List ℤ)
unfolding rows_through
rows_here room job p joints = rows_through room p.state joints (commands_here job p)

unfoldable pub next_place : Bool → List ℕ → Place → Place
next_place room job p =
    record {
      offset = after_command job p.offset;
      counts = counted p.counts (file_command_at job p.offset);
      rows = p.rows + row_counts (commands_here job p);
      state = state_through room p.state (commands_here job p);
    }

-- the outcome at a place, with what follows handed in
unfoldable pub outcome : List ℕ → Place → JointTable → List ℤ → Final → Final
unfolding fault_from
outcome job p joints memory rest =
    let stop : WalkAnswer → Final = λ a. record { answer = a; joints = joints; memory = memory } in
    let fault = fault_from job p joints in
    cond (leb (length job) p.offset) (stop (Refused 1 p.offset 0))
    (cond (ltb 0 fault) (stop (Refused fault p.offset (operand_named fault (file_command_at job p.offset))))
    (cond (eqb (byte_at job p.offset) 0)
    (cond (ltb (p.offset + 1) (length job)) (stop (Refused 3 (p.offset + 1) 0)) (stop (Finished p.rows)))
    rest))

-- at most so many commands of the file
unfoldable pub walk_from : Bool → ℕ → List ℕ → Place → JointTable → List ℤ → Final
unfolding outcome next_place rows_here
walk_from room zero job p joints memory = record { answer = Paused p; joints = joints; memory = memory }
walk_from room (suc n) job p joints memory =
    outcome job p joints memory
    (walk_from room n job (next_place room job p) (joints_through joints (commands_here job p)) (stored_all memory p.rows (rows_here room job p joints)))

-- the start of a job
unfoldable pub first_place : Place
first_place = record { offset = 0; counts = first_counts; rows = 0; state = start_state }

pub record WalkAsks (job : List ℕ) (p : Place) (table : JointTable) : Type 0 where
  pub state : SoundState p.state
  pub joints : SoundJoints table
  pub offset : p.offset ≤ length job
  pub commands : p.counts.commands ≤ 4096
  pub buildings : p.counts.buildings ≤ 16
  pub rows : p.rows ≤ p.counts.commands + p.counts.commands

-- ---- a stretch of the walk: commands by themselves, up to a block

-- a block is next, and the whole walk, with this budget from its start, is what is left of it
pub record BeforeBlock (room : Bool) (budget : ℕ) (whole : Final) (job : List ℕ) (joints : JointTable) (memory : List ℤ) (p : Place) (left : ℕ) : Type 0 where
  pub same : whole ≡ walk_from room left job p joints memory
  pub block : is_block (byte_at job p.offset) ≡ true
  pub inside : p.offset < length job
  pub some_left : 0 < left
  pub fewer : left ≤ budget
  pub asks : WalkAsks job p joints

-- how it ended: where no block is next, as the whole walk does
abbrev pub StretchedTo : Bool → ℕ → Final → List ℕ → JointTable → List ℤ → Stretch → Type 0
StretchedTo room budget whole job joints memory (stretch.Ended p) = whole ≡ record { answer = progress_answer p; joints = joints; memory = memory }
StretchedTo room budget whole job joints memory (stretch.Block p left) = BeforeBlock room budget whole job joints memory p left

abbrev pub Stretched : Bool → ℕ → Final → List ℕ → JointTable → List ℤ → Result Stretch RefusedAt → Type 0
Stretched room budget whole job joints memory (Ok s) = StretchedTo room budget whole job joints memory s
Stretched room budget whole job joints memory (Err r) = whole ≡ record { answer = refused_there r; joints = joints; memory = memory }

-- ---- the step over a block

-- what the code asks for it
pub record BlockAsks (job : List ℕ) (p : Place) : Type 0 where
  pub block : is_block (byte_at job p.offset) ≡ true
  pub inside : p.offset < length job
  pub state : SoundState p.state
  pub commands : p.counts.commands ≤ 4096
  pub rows : p.rows ≤ p.counts.commands + p.counts.commands

-- how it ended, whatever the joints and the budget are: as a walk from there does, or with the place from which that walk goes on
abbrev pub BlockStepped : Bool → List ℕ → Place → List ℤ → List ℤ → Result Place RefusedAt → Type 0
BlockStepped room job p before after (Err r) =
    (left : ℕ) (joints : JointTable) → 0 < left → WalkAsks job p joints →
    walk_from room left job p joints before ≡ record { answer = refused_there r; joints = joints; memory = after }
BlockStepped room job p before after (Ok q) =
    (left : ℕ) (joints : JointTable) → 0 < left → WalkAsks job p joints →
    (walk_from room left job p joints before ≡ walk_from room (left - 1) job q joints after) × WalkAsks job q joints

-- ---- the step over a 0D

-- the place behind it
abbrev pub behind_building : Place → Place
behind_building p =
    record { offset = p.offset + 1; counts = record { commands = p.counts.commands + 1; buildings = p.counts.buildings + 1 }; rows = p.rows; state = start_state }

-- ---- the answers of a walk over a whole job: one from the start ends within 4,097 commands and never pauses

abbrev pub walked_fault : List ℕ → Result ℕ RefusedAt → FaultAnswer
walked_fault job (Ok n) = no_fault
walked_fault job (Err r) = fault_with r (byte_at job r.offset)
