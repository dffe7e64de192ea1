-- The context of a command, what holds at it: settings, joints by id, the latest wall base as it was given, the latest soil with its
-- sensitivity; and how a command changes it. 01, "Job commands"; 02, No. 9 and No. 10. What is counted of the file, its commands and
-- buildings, is no part of it (`job`).
use Rattle.std.specs.Prelude.{Bool, false, ◌||◌, cond, List, [], ℕ, eqb, Option, None, Some, is_some, is_none}
use Rattle.std.specs.Float.{binary32}
use Rattle.std.specs.Float.Ieee.{of_bits}
use Rattle.soil.specs.Reading.{soil_holding}
use Rattle.coefficient.specs.declared.Settings.{Settings}
use Rattle.members.specs.declared.Joint.{Joint}
use Rattle.walls.specs.declared.WallBase.{WallBase}
use Rattle.format.specs.declared.Command.{Command}
use Rattle.format.specs.declared.Command.TheVariants.{Settings as settings, Joint as joint, Hingeless as hingeless, WallBase as wall_base, Storey as storey, Soil as soil, Footing as footing, Basement as basement, Building as building}
use Rattle.format.specs.declared.SoilGiven.{SoilGiven}
use Rattle.context.specs.declared.Ground.{Ground}

pub record Context : Type 0 where
  pub settings : Option Settings
  pub joints : ℕ → Option Joint
  pub wall : Option WallBase
  pub ground : Option Ground

-- at the start of a building nothing is given
abbrev pub nothing : Context
nothing = record { settings = None; joints = λ id. None; wall = None; ground = None }

abbrev pub ground_of : SoilGiven → Ground
ground_of s = record { soil = soil_holding s.kind (of_bits binary32 s.value); sensitive = eqb s.sensitive 1 }

-- the joints with one more; one that is given again replaces the earlier one (02, No. 1)
abbrev pub with_joint : ℕ → Joint → (ℕ → Option Joint) → ℕ → Option Joint
with_joint id j joints i = cond (eqb i id) (Some j) (joints i)

-- what holds after a command; one that only writes rows, or ends the job, changes nothing. 02, No. 10: "New command 0D, without
-- operands, begins another building: joints, soil and wall are forgotten and settings must be the next command"
unfoldable pub next : Context → Command → Context
next h (settings s) = record h { settings = Some s }
next h (joint id j) = record h { joints = with_joint id j h.joints }
next h (wall_base b) = record h { wall = Some b }
next h (soil s) = record h { ground = Some (ground_of s) }
next h building = nothing
next h _ = h

abbrev pub given : {A : Type 0} → Option A → Bool
given o = is_some o

abbrev pub missing : {A : Type 0} → Option A → Bool
missing o = is_none o

-- what is made of a thing that holds, and nothing where it does not
abbrev pub when_given {κ} : {A : Type 0} {B : Type κ} → Option A → (A → List B) → List B
when_given None f = []
when_given (Some a) f = f a

-- refusal 6: joint id not yet given, storey without base, footing without soil; a basement member without its joint or wall (02, No. 9),
-- place 0 being a joint and 1 the latest wall
unfoldable pub absent : Context → Command → Bool
absent h (hingeless id1 id2 m) = missing (h.joints id1) || missing (h.joints id2)
absent h (storey s) = missing h.wall
absent h (footing f) = missing h.ground
absent h (basement id m) = cond (eqb m.place 0) (missing (h.joints id)) (missing h.wall)
absent h _ = false
