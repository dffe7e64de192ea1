-- Where the cap governs, over the words that `run` writes. 02, No. 5: "Designers want to know if a larger section would raise the
-- shear or if the cap holds." Where a row tells that it holds, the same member with a greater resistance, in the same job or in any
-- other with the same q, has the same design shear, and its row tells so too.
use Rattle.std.specs.Prelude.{◌≡◌, List, ◌∷◌, ◌++◌, ℕ, ◌*◌, ◌≤◌, ℤ, pos, length, Some}
use Rattle.coefficient.specs.declared.Settings.{Settings}
use Rattle.claims.specs.declared.Row.{Row}
use Rattle.members.specs.declared.Column.{Column}
use Rattle.members.specs.declared.Beam.{Beam}
use Rattle.members.specs.Beam.{sum_plus, sum_minus}
use Rattle.members.specs.Governs.{ColumnNotWeaker, SameSpan}
use Rattle.walls.specs.declared.WallBase.{WallBase}
use Rattle.walls.specs.Governs.{BaseNotWeaker}
use Rattle.format.specs.declared.Command.{Command}
use Rattle.format.specs.declared.Command.TheVariants.{Column as column, Beam as beam, WallBase as wall_base}
use Rattle.job.specs.Placed.{Placed, accepted, placed, all_rows}
use Rattle.capacity.specs.Calls.{rows_after}
use Rattle.capacity.specs.DemandThree.{row_read}

-- words 2 to 7 that `run` writes for this command: some accepted job has the command, where the behaviour factor that holds is q, and
-- the row is read off some slice with room behind the rows of the commands before
pub record RunRow (c : Command) (q : ℕ) (r : Row) : Type 0 where
  pub job : List ℕ
  pub commands : List Placed
  pub is_accepted : placed job ≡ accepted commands
  pub earlier : List Placed
  pub this : Placed
  pub later : List Placed
  pub place : commands ≡ earlier ++ this ∷ later
  pub is_command : this.command ≡ c
  pub settings : Settings
  pub settings_hold : this.context.settings ≡ Some settings
  pub behaviour : settings.behaviour ≡ q
  pub slice : List ℤ
  pub room : 8 * length (all_rows commands) ≤ length slice
  pub row : row_read (rows_after job slice) (length (all_rows earlier)) ≡ r

-- word 2 of a column is its shear, word 6 tells
abbrev pub ColumnsHeld : Type 0
ColumnsHeld =
    (c d : Column) (q : ℕ) (r s : Row) → RunRow (column c) q r → RunRow (column d) q s → ColumnNotWeaker c d → r.word6 ≡ pos 1 →
    (s.word2 ≡ r.word2) × (s.word6 ≡ pos 1)

-- word 2 of a beam is its upper shear, and word 5 tells; word 3 is its lower shear, and word 6 tells
abbrev pub UppersHeld : Type 0
UppersHeld =
    (b d : Beam) (q : ℕ) (r s : Row) → RunRow (beam b) q r → RunRow (beam d) q s → SameSpan b d → sum_plus b ≤ sum_plus d → r.word5 ≡ pos 1 →
    (s.word2 ≡ r.word2) × (s.word5 ≡ pos 1)

abbrev pub LowersHeld : Type 0
LowersHeld =
    (b d : Beam) (q : ℕ) (r s : Row) → RunRow (beam b) q r → RunRow (beam d) q s → SameSpan b d → sum_minus b ≤ sum_minus d → r.word6 ≡ pos 1 →
    (s.word3 ≡ r.word3) × (s.word6 ≡ pos 1)

-- word 2 of a wall base is its shear, word 6 tells
abbrev pub BasesHeld : Type 0
BasesHeld =
    (b d : WallBase) (q : ℕ) (r s : Row) → RunRow (wall_base b) q r → RunRow (wall_base d) q s → BaseNotWeaker b d → r.word6 ≡ pos 1 →
    (s.word2 ≡ r.word2) × (s.word6 ≡ pos 1)
