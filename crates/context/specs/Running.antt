-- The same in the shape that the code keeps: of the latest wall its running values (its coefficient, base shear and MR, worked out
-- once at the base command), and the joints in a table with a place for each of 256 ids. Where no row is to be written (`room` is
-- false) it is only kept that a wall is given, not its values. proofs/Shown.antt ties a state and a table to the context.
use Rattle.std.specs.Prelude.{◌≡◌, Bool, true, false, not, ◌||◌, cond, List, ℕ, ◌≤◌, eqb, leb, get_or, set, replicate, Option, None, Some, IfSome}
use Rattle.coefficient.specs.declared.Settings.{Settings}
use Rattle.members.specs.declared.Joint.{Joint}
use Rattle.members.specs.Hingeless.{JointRange}
use Rattle.walls.specs.declared.Wall.{Wall}
use Rattle.walls.specs.declared.WallBase.{WallBase}
use Rattle.walls.specs.Running.{wall_of, WallRange}
use Rattle.format.specs.declared.Command.{Command}
use Rattle.format.specs.declared.Command.TheVariants.{Settings as settings, Joint as joint, Hingeless as hingeless, WallBase as wall_base, Storey as storey, Soil as soil, Footing as footing, Basement as basement, Building as building}
use Rattle.format.specs.Commands.{in_range}
use Rattle.context.specs.declared.LatestWall.{LatestWall}
use Rattle.context.specs.declared.LatestWall.TheVariants.{Missing, Given, Running}
use Rattle.context.specs.declared.State.{State}
use Rattle.context.specs.Context.{ground_of, missing}

-- room for a row in a slice of so many words
abbrev pub room_for : ℕ → Bool
room_for words = leb 8 words

-- ---- the joints' table

abbrev pub JointTable : Type 0
JointTable = List (Option Joint)

abbrev pub joint_at : JointTable → ℕ → Option Joint
joint_at joints id = get_or joints id None

-- no joint is given
abbrev pub no_joints : JointTable
no_joints = replicate 256 None

unfoldable pub next_joints : JointTable → Command → JointTable
next_joints joints (joint id j) = set joints id (Some j)
next_joints joints building = no_joints
next_joints joints _ = joints

-- ---- the state

-- nothing given yet
unfoldable pub start_state : State
start_state = record { wall = Missing; settings = None; soil = None }

-- whether a wall base is given
abbrev pub walled : LatestWall → Bool
walled Missing = false
walled Given = true
walled (Running w) = true

-- its running values
abbrev pub running : LatestWall → Option Wall
running (Running w) = Some w
running _ = None

-- a wall's coefficient, base shear and MR are worked out at its base command
abbrev pub wall_kept : Option Settings → Bool → WallBase → LatestWall
wall_kept (Some s) true b = Running (wall_of s.behaviour b)
wall_kept (Some s) false b = Given
wall_kept None room b = Given

unfoldable pub next_state : Bool → State → Command → State
next_state room t (settings s) = record t { settings = Some s }
next_state room t (wall_base b) = record t { wall = wall_kept t.settings room b }
next_state room t (soil s) = record t { soil = Some (ground_of s) }
next_state room t building = start_state
next_state room t _ = t

-- refusal 6, off the state and the table
unfoldable pub absent_in : State → JointTable → Command → Bool
absent_in t joints (hingeless id1 id2 m) = missing (joint_at joints id1) || missing (joint_at joints id2)
absent_in t joints (storey s) = not (walled t.wall)
absent_in t joints (footing f) = missing t.soil
absent_in t joints (basement id m) = cond (eqb m.place 0) (missing (joint_at joints id)) (not (walled t.wall))
absent_in t joints _ = false

-- ---- what the code asks: values in the ranges of 01

pub record SettingsRange (s : Settings) : Type 0 where
  pub behaviour : s.behaviour ≤ 400
  pub joints : s.joints ≤ 200
  pub foundations : s.foundations ≤ 200

pub record SoundState (t : State) : Type 0 where
  pub settings : IfSome t.settings SettingsRange
  pub wall : IfSome (running t.wall) WallRange

abbrev pub SoundJoints : JointTable → Type 0
SoundJoints joints = (id : ℕ) → IfSome (joint_at joints id) JointRange

-- for what a command changes
pub record NextAsks (t : State) (c : Command) : Type 0 where
  pub state : SoundState t
  pub ranged : in_range c ≡ true
