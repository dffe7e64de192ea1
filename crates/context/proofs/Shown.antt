-- A state and a table of joints show the context: refusal 6, and what holds after a command, are the same off both.
-- The wall's running values are those of the latest base as it was given. Assumes nothing.
use mathlib.Core.Path.{◌≡◌, refl, sym, ap, ◌∙◌}
use mathlib.Core.Bool.{Bool, true, false, not}
use Prim.Native.Nat.{ℕ, ◌<◌}
use native.Mathlib.Omega.{arith}
use native.Mathlib.Decide.{ℕ_discrete}
use lib.ListN.{length, set}
use lib.Seq.{get_or-set_same, get_or-set_other}
use borrow.Author.Tests.{eq-eqb, ne_eqb}
use Rattle.std.specs.Prelude.{Option, None, Some}
use Rattle.coefficient.specs.declared.Settings.{Settings}
use Rattle.members.specs.declared.Joint.{Joint}
use Rattle.walls.specs.declared.WallBase.{WallBase}
use Rattle.format.specs.declared.Command.{Command}
use Rattle.format.specs.declared.Command.TheVariants.{Finish as finish, Settings as settings, Joint as joint, Hingeless as hingeless, WallBase as wall_base, Storey as storey, Soil as soil, Footing as footing, Basement as basement, Building as building}
use Rattle.context.specs.declared.LatestWall.{LatestWall}
use Rattle.context.specs.declared.LatestWall.TheVariants.{Missing}
use Rattle.context.specs.declared.State.{State}
use Rattle.context.specs.Context.{Context, nothing, next, with_joint, given, missing, absent}
use Rattle.context.specs.Running.{JointTable, joint_at, no_joints, start_state, walled, wall_kept, next_joints, next_state, absent_in}
use Rattle.context.proofs.Laws.{no_joint_there, no_joints_length, joints_length}

-- what is kept of the wall base that holds
abbrev pub latest_wall : Option Settings → Bool → Option WallBase → LatestWall
latest_wall s room None = Missing
latest_wall s room (Some b) = wall_kept s room b

-- the state in which the code keeps what holds
abbrev pub state_of : Bool → Context → State
state_of room h = record { wall = latest_wall h.settings room h.wall; settings = h.settings; soil = h.ground }

pub record Shows (room : Bool) (t : State) (table : JointTable) (h : Context) : Type 0 where
  pub state : t ≡ state_of room h
  pub size : length table ≡ 256
  pub joints : (id : ℕ) → id < 256 → h.joints id ≡ joint_at table id
  -- no wall before the settings
  pub ordered : given h.settings ≡ false → h.wall ≡ None

-- at the start of a building nothing is given
pub start_shows : (room : Bool) → Shows room start_state no_joints nothing
unfolding start_state
start_shows room =
    record { state = refl; size = no_joints_length; joints = λ id h. sym (no_joint_there id); ordered = λ e. refl }

-- the ids of a command are bytes
abbrev pub IdsFit : Command → Type 0
IdsFit (joint id j) = id < 256
IdsFit (hingeless id1 id2 m) = (id1 < 256) × (id2 < 256)
IdsFit (basement id m) = id < 256
IdsFit _ = Unit {0}

pub differ : true ≡ false → ⊥
differ e = let z : ◌≡◌ {A = ℕ} 0 1 = cc in omega arith

-- what is not missing is there
pub present : {A : Type 0} (o : Option A) → missing o ≡ false → (a : A) × (o ≡ Some a)
present None e = absurd (differ e)
present (Some a) e = (a, refl)

kept_walled : (s : Option Settings) (room : Bool) (b : WallBase) → walled (wall_kept s room b) ≡ true
kept_walled (Some s) true b = refl
kept_walled (Some s) false b = refl
kept_walled None room b = refl

latest_walled : (s : Option Settings) (room : Bool) (o : Option WallBase) → walled (latest_wall s room o) ≡ given o
latest_walled s room None = refl
latest_walled s room (Some b) = kept_walled s room b

module _ (room : Bool) (t : State) (table : JointTable) (h : Context) (s : Shows room t table h) where
  pub settings_given_lem : given h.settings ≡ given t.settings
  settings_given_lem = rw s.state

  pub walled_lem : given h.wall ≡ walled t.wall
  walled_lem = rw s.state (sym (latest_walled h.settings room h.wall))

  pub absent_same : (c : Command) → IdsFit c → absent_in t table c ≡ absent h c
  unfolding absent_in absent
  absent_same (hingeless id1 id2 m) i = rw (s.joints id1 i.0, s.joints id2 i.1)
  absent_same (storey x) i = ap not (sym walled_lem)
  absent_same (footing f) i = rw s.state
  absent_same (basement id m) i = rw (s.joints id i, ← walled_lem)
  absent_same _ i = refl

-- ---- after a command

-- a command that is in its place: settings only where none are given, and others only where they are
abbrev pub InPlace : State → Command → Type 0
InPlace t finish = Unit {0}
InPlace t (settings s) = given t.settings ≡ false
InPlace t _ = given t.settings ≡ true

module _ (room : Bool) (t : State) (table : JointTable) (h : Context) (s : Shows room t table h) where
  joints_next : (id : ℕ) (j : Joint) → id < 256 → (k : ℕ) → k < 256 → Dec (k ≡ id) → with_joint id j h.joints k ≡ joint_at (set table id (Some j)) k
  joints_next id j i k l (yes e) = rw (e, eq-eqb id id refl, get_or-set_same table id (Some j) None (omega (arith, s.size)))
  joints_next id j i k l (no n) = rw (ne_eqb k id n, get_or-set_other table id k (Some j) None n) (s.joints k l)

  state_next : (c : Command) → InPlace t c → next_state room t c ≡ state_of room (next h c)
  unfolding next_state next start_state
  state_next (settings x) p =
      rw (s.state, s.ordered (settings_given_lem room t table h s ∙ p))
  state_next (wall_base b) p = rw s.state
  state_next (soil x) p = rw s.state
  state_next building p = refl
  state_next _ p = s.state

  table_next : (c : Command) → IdsFit c → (id : ℕ) → id < 256 → (next h c).joints id ≡ joint_at (next_joints table c) id
  unfolding next_joints next
  table_next (joint id j) i k l = joints_next id j i k l (ℕ_discrete k id)
  table_next building i k l = sym (no_joint_there k)
  table_next _ i k l = s.joints k l

  ordered_next : (c : Command) → InPlace t c → given (next h c).settings ≡ false → (next h c).wall ≡ None
  unfolding next
  ordered_next (settings x) p e = absurd (differ e)
  ordered_next building p e = refl
  ordered_next (wall_base b) p e = absurd (differ (sym p ∙ sym (settings_given_lem room t table h s) ∙ e))
  ordered_next _ p e = s.ordered e

  pub shows_next : (c : Command) → IdsFit c → InPlace t c → Shows room (next_state room t c) (next_joints table c) (next h c)
  shows_next c i p =
      record {
        state = state_next c p;
        size = joints_length table c s.size;
        joints = table_next c i;
        ordered = ordered_next c p;
      }
