-- The rows of a command in the shape that the code keeps: off the state and the joints after it; and writing them into a slice of
-- words. proofs/RowsSame.antt ties them to the rows of a command's context.
use Rattle.std.specs.Prelude.{◌≡◌, Bool, true, ◌&&◌, cond, List, [], ◌∷◌, ◌++◌, ℕ, ◌+◌, ◌*◌, eqb, leb, ℤ, length, take, drop, Option}
use Rattle.std.specs.Option.{option_map}
use Rattle.exact.specs.Fraction.{Fraction}
use Rattle.coefficient.specs.declared.Settings.{Settings}
use Rattle.coefficient.specs.Coefficient.{fraction}
use Rattle.claims.specs.declared.Row.{Row}
use Rattle.actions.specs.declared.Sign.TheVariants.{Plus, Minus}
use Rattle.members.specs.Column.{column_row}
use Rattle.members.specs.Beam.{beam_row}
use Rattle.members.specs.Hingeless.{joint_coefficient, hingeless_row}
use Rattle.members.specs.Detail.{detail_row}
use Rattle.basement.specs.Basement.{basement_shear_row, basement_moment_row}
use Rattle.walls.specs.declared.Wall.{Wall}
use Rattle.walls.specs.declared.WallBase.{WallBase}
use Rattle.walls.specs.declared.Storey.{Storey}
use Rattle.walls.specs.Base.{base_row_from}
use Rattle.walls.specs.Storey.{storey_row_from}
use Rattle.footing.specs.Rows.{footing_row}
use Rattle.format.specs.declared.Command.{Command}
use Rattle.format.specs.declared.Command.TheVariants.{Column as column, Beam as beam, Hingeless as hingeless, WallBase as wall_base, Storey as storey, Footing as footing, Detail as detail, Basement as basement}
use Rattle.format.specs.Commands.{in_range}
use Rattle.blocks.specs.Sets.{storeys_in, all_in_range}
use Rattle.context.specs.declared.State.{State}
use Rattle.context.specs.Context.{given, when_given}
use Rattle.context.specs.Running.{JointTable, joint_at, running, SoundState, SoundJoints}
use Rattle.rows.specs.Rows.{words}

-- a wall base's row and a storey's off the running values
abbrev pub running_base_row : Wall → WallBase → Row
running_base_row w b = base_row_from (fraction w.coefficient) w.shear w.governs b

abbrev pub running_storey_row : Wall → Storey → Row
running_storey_row w s = storey_row_from (fraction w.coefficient) w.shear w.resistance s

-- the coefficient of a basement member: of its joint, or the running one of the wall
abbrev pub coefficient_from : State → JointTable → Settings → (id place : ℕ) → Option Fraction
coefficient_from t joints s id place =
    cond (eqb place 0) (option_map (joint_coefficient s) (joint_at joints id)) (option_map (λ w. fraction w.coefficient) (running t.wall))

unfoldable pub rows_from : State → JointTable → Command → List Row
rows_from t joints (column c) = when_given t.settings (λ s. column_row s.behaviour c ∷ [])
rows_from t joints (beam b) = when_given t.settings (λ s. beam_row s.behaviour b ∷ [])
rows_from t joints (hingeless id1 id2 m) =
    when_given t.settings (λ s. when_given (joint_at joints id1) (λ i. when_given (joint_at joints id2) (λ j. hingeless_row s i j m ∷ [])))
rows_from t joints (wall_base b) = when_given (running t.wall) (λ w. running_base_row w b ∷ [])
rows_from t joints (storey s) = when_given (running t.wall) (λ w. running_storey_row w s ∷ [])
rows_from t joints (footing f) =
    when_given t.settings (λ s. when_given t.soil (λ g. footing_row s f g.soil g.sensitive Plus ∷ footing_row s f g.soil g.sensitive Minus ∷ []))
rows_from t joints (detail d) = detail_row d ∷ []
rows_from t joints (basement id m) =
    when_given t.settings (λ s. when_given (coefficient_from t joints s id m.place) (λ a. basement_shear_row a m ∷ basement_moment_row a m ∷ []))
rows_from t joints _ = []

-- what these rows are made of is given: settings, the joints of a member, the running values of the wall, the soil of a footing, the joint
-- or the wall of a basement member
unfoldable pub rows_given : State → JointTable → Command → Bool
rows_given t joints (column c) = given t.settings
rows_given t joints (beam b) = given t.settings
rows_given t joints (hingeless id1 id2 m) = given t.settings && given (joint_at joints id1) && given (joint_at joints id2)
rows_given t joints (wall_base b) = given (running t.wall)
rows_given t joints (storey s) = given (running t.wall)
rows_given t joints (footing f) = given t.settings && given t.soil
rows_given t joints (basement id m) = given t.settings && cond (eqb m.place 0) (given (joint_at joints id)) (given (running t.wall))
rows_given t joints _ = true

-- the rows of a block's sets, the first at an offset, off the running values of the wall: each row has its set's offset and 7
unfoldable pub set_rows : Wall → ℕ → List Storey → List (List ℤ)
set_rows w at [] = []
set_rows w at (s ∷ ss) = words at 7 (running_storey_row w s) ∷ set_rows w (at + 24) ss

-- where the wall has running values
abbrev pub set_rows_running : Option Wall → ℕ → List Storey → List (List ℤ)
set_rows_running wall at ss = when_given wall (λ w. set_rows w at ss)

-- ---- writing rows: row n of a slice of words is written where there is room for it

unfoldable pub stored : List ℤ → ℕ → List ℤ → List ℤ
stored memory n row = cond (leb (8 * n + 8) (length memory)) (take (8 * n) memory ++ row ++ drop (8 * n + 8) memory) memory

-- one row after the other, from row n on
unfoldable pub stored_all : List ℤ → ℕ → List (List ℤ) → List ℤ
unfolding stored
stored_all memory n [] = memory
stored_all memory n (r ∷ rs) = stored_all (stored memory n r) (n + 1) rs

-- the words of rows one after the other
abbrev pub joined : List (List ℤ) → List ℤ
joined [] = []
joined (r ∷ rs) = r ++ joined rs

-- ---- what the code asks for the rows of a command

pub record EmitAsks (t : State) (table : JointTable) (c : Command) : Type 0 where
  pub state : SoundState t
  pub joints : SoundJoints table
  pub ranged : in_range c ≡ true

-- for the rows of a block: each set in range
abbrev pub SetsAsk : List ℕ → Type 0
SetsAsk sets = all_in_range (storeys_in sets) ≡ true
