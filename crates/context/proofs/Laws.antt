-- A sound state and a sound table of joints stay sound after a command, and the table keeps its places. Assumes nothing.
use mathlib.Core.Bool.{Bool, true, false}
use mathlib.Core.List.{[], ◌∷◌}
use mathlib.Core.Path.{◌≡◌, refl, ◌∙◌}
use Prim.Native.Nat.{ℕ, zero, suc}
use lib.ListN.{length, set, replicate, length-set, length-replicate}
use Rattle.std.specs.Prelude.{Option, None, Some, IfSome}
use Rattle.coefficient.specs.declared.Settings.{Settings}
use Rattle.members.specs.declared.Joint.{Joint}
use Rattle.members.specs.Hingeless.{JointRange}
use Rattle.walls.specs.declared.WallBase.{WallBase}
use Rattle.walls.specs.Running.{WallRange}
use Rattle.walls.proofs.Running.{wall_of_range}
use Rattle.format.specs.declared.Command.{Command}
use Rattle.format.specs.declared.Command.TheVariants.{Settings as settings, Joint as joint, WallBase as wall_base, Soil as soil, Building as building}
use Rattle.format.specs.Commands.{in_range}
use Rattle.context.specs.declared.State.{State}
use Rattle.context.specs.Running.{JointTable, joint_at, no_joints, next_joints, start_state, running, wall_kept, next_state, SettingsRange, SoundState, SoundJoints}
use Rattle.context.proofs.Ranges.{settings_range, joint_range, wall_base_range}

-- ---- the state

pub start_sound : SoundState start_state
unfolding start_state
start_sound = record { settings = tt; wall = tt }

kept_range : (s : Option Settings) (room : Bool) (b : WallBase) → IfSome s SettingsRange → in_range (wall_base b) ≡ true → IfSome (running (wall_kept s room b)) WallRange
kept_range (Some s) true b r h = wall_of_range s.behaviour b (wall_base_range s.behaviour r.behaviour b h)
kept_range (Some s) false b r h = tt
kept_range None room b r h = tt

pub next_sound : (room : Bool) (t : State) (c : Command) → SoundState t → in_range c ≡ true → SoundState (next_state room t c)
unfolding next_state
next_sound room t (settings x) s h = record { settings = settings_range x h; wall = s.wall }
next_sound room t (wall_base b) s h = record { settings = s.settings; wall = kept_range t.settings room b s.settings h }
next_sound room t (soil x) s h = record { settings = s.settings; wall = s.wall }
next_sound room t building s h = start_sound
next_sound room t _ s h = s

-- ---- the joints' table

none_there : (n id : ℕ) → joint_at (replicate n None) id ≡ None
none_there zero id = refl
none_there (suc n) zero = refl
none_there (suc n) (suc id) = none_there n id

-- at the start of a building there is none, at 256 places
pub no_joint_there : (id : ℕ) → joint_at no_joints id ≡ None
no_joint_there id = none_there 256 id

pub no_joints_length : length no_joints ≡ 256
no_joints_length = length-replicate {A = Option Joint} 256 None

pub no_joints_sound : SoundJoints no_joints
no_joints_sound id = rw (no_joint_there id) tt

pub joints_length : (joints : JointTable) (c : Command) → length joints ≡ 256 → length (next_joints joints c) ≡ 256
unfolding next_joints
joints_length joints (joint id j) e =
    let k : length (set joints id (Some j)) ≡ length joints = simp length-set in
    k ∙ e
joints_length joints building e = no_joints_length
joints_length joints _ e = e

-- a joint that is given is in range
pub joint_given : (joints : JointTable) (id : ℕ) {j : Joint} → SoundJoints joints → joint_at joints id ≡ Some j → JointRange j
joint_given joints id s e = rw e at (s id)

-- a joint in range keeps every entry in range
set_sound : (joints : JointTable) (id : ℕ) (j : Joint) → JointRange j → SoundJoints joints → SoundJoints (set joints id (Some j))
set_sound [] id j r s k = s k
set_sound (x ∷ xs) zero j r s zero = r
set_sound (x ∷ xs) zero j r s (suc k) = s (suc k)
set_sound (x ∷ xs) (suc id) j r s zero = s zero
set_sound (x ∷ xs) (suc id) j r s (suc k) = set_sound xs id j r (λ i. s (suc i)) k

pub joints_sound : (joints : JointTable) (c : Command) → SoundJoints joints → in_range c ≡ true → SoundJoints (next_joints joints c)
unfolding next_joints
joints_sound joints (joint id j) s h = set_sound joints id j (joint_range id j h) s
joints_sound joints building s h = no_joints_sound
joints_sound joints _ s h = s
