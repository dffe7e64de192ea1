-- The commands before a place in a job: the latest of each kind among them, in the building that they end in, and those of the file that
-- end at or before an offset. 02, No. 1: "Let the latest definition hold for every later member, while members already met keep the
-- figures they had"; No. 4: "those that document 01 gives for the latest base command"; No. 10: "joints, soil and wall are forgotten".
use Rattle.std.specs.Prelude.{Bool, false, ◌||◌, cond, List, [], ◌∷◌, ℕ, ◌+◌, eqb, leb, Option, None, Some}
use Rattle.coefficient.specs.declared.Settings.{Settings}
use Rattle.members.specs.declared.Joint.{Joint}
use Rattle.walls.specs.declared.WallBase.{WallBase}
use Rattle.format.specs.declared.Command.{Command}
use Rattle.format.specs.declared.Command.TheVariants.{Settings as settings, Joint as joint, WallBase as wall_base}
use Rattle.format.specs.Commands.{byte_of}
use Rattle.blocks.specs.FileCommands.{width_of}
use Rattle.job.specs.Faults.{is_building}
use Rattle.job.specs.Placed.{Placed, Entry}

-- ---- the latest of a kind

-- whether one of these commands begins another building
abbrev pub another_begun : List Placed → Bool
another_begun [] = false
another_begun (p ∷ ps) = another_begun ps || is_building (byte_of p.command)

-- the first of two that is there
abbrev pub or_else : {A : Type 0} → Option A → Option A → Option A
or_else (Some a) other = Some a
or_else None other = other

-- the latest among these commands, by what each of them gives: that of the later ones, else that of the first; behind another building
-- nothing counts that stands before it
abbrev pub latest : {A : Type 0} → (Command → Option A) → List Placed → Option A
latest gives [] = None
latest gives (p ∷ ps) = cond (another_begun ps) (latest gives ps) (or_else (latest gives ps) (gives p.command))

abbrev pub settings_in : Command → Option Settings
settings_in (settings s) = Some s
settings_in _ = None

-- id and sums of a joint; another command has none
abbrev pub joint_in : Command → Option (ℕ × Joint)
joint_in (joint id j) = Some (id, j)
joint_in _ = None

-- the joint that a command gives under an id
abbrev pub given_under : ℕ → Option (ℕ × Joint) → Option Joint
given_under id None = None
given_under id (Some (i, j)) = cond (eqb id i) (Some j) None

abbrev pub base_in : Command → Option WallBase
base_in (wall_base b) = Some b
base_in _ = None

abbrev pub latest_settings : List Placed → Option Settings
latest_settings ps = latest settings_in ps

abbrev pub latest_joint : ℕ → List Placed → Option Joint
latest_joint id ps = latest (λ c. given_under id (joint_in c)) ps

abbrev pub latest_base : List Placed → Option WallBase
latest_base ps = latest base_in ps

-- ---- the commands of the file already met

-- the bytes of all these commands
abbrev pub widths_of : List Entry → ℕ
widths_of [] = 0
widths_of (e ∷ es) = width_of e.given + widths_of es

-- the offset after one
abbrev pub end_of : Entry → ℕ
end_of e = e.offset + width_of e.given

-- those that end at or before an offset
abbrev pub ending_by : ℕ → List Entry → List Entry
ending_by at [] = []
ending_by at (e ∷ es) = cond (leb (end_of e) at) (e ∷ ending_by at es) (ending_by at es)
