-- What commands leave is the latest that they give: the settings, the joint of each id, the wall base; so the joint that holds at a
-- command is the latest given before it. 02, No. 1: "Let the latest definition hold for every later member"; No. 4: "the latest base
-- command". Assumes nothing.
use mathlib.Core.Path.{◌≡◌, refl, ap, ◌∙◌}
use mathlib.Core.Bool.{Bool, true, false, ◌||◌, cond}
use mathlib.Core.List.{List, [], ◌∷◌, ◌++◌}
use Rattle.std.specs.Prelude.{Option, None, Some}
use Prim.Native.Nat.{ℕ}
use lib.Dec.{eqb}
use Rattle.format.specs.declared.Command.{Command}
use Rattle.format.specs.Commands.{byte_of}
use Rattle.format.specs.declared.Command.TheVariants.{Joint as joint, Building as building}
use Rattle.context.specs.Context.{Context, nothing, next}
use Rattle.job.specs.Faults.{is_building}
use Rattle.job.specs.Placed.{Placed, context_after, accepted, placed}
use Rattle.job.specs.Earlier.{another_begun, or_else, latest, settings_in, joint_in, given_under, base_in, latest_settings, latest_joint, latest_base}
use Rattle.job.proofs.AcceptedLaws.{accepted_each}

-- ---- one part of what holds, and what a command gives of it

or_none : {A : Type 0} (a : Option A) → or_else a None ≡ a
or_none None = refl
or_none (Some a) = refl

or_assoc : {A : Type 0} (a b c : Option A) → or_else a (or_else b c) ≡ or_else (or_else a b) c
or_assoc None b c = refl
or_assoc (Some a) b c = refl

-- behind later commands with the latest of them: what the first gives, and else what held, which another building forgets
behind : {A : Type 0} (later first : Bool) (l g h : Option A) →
    cond later l (or_else l (or_else g (cond first None h))) ≡ cond (later || first) (cond later l (or_else l g)) (or_else (cond later l (or_else l g)) h)
behind true first l g h = refl
behind false true l g h = ap (or_else l) (or_none g)
behind false false l g h = or_assoc l g h

alone : {A : Type 0} (later : Bool) (l : Option A) → cond later l (or_else l None) ≡ l
alone true l = refl
alone false l = or_none l

-- a command replaces it or leaves it, and another building forgets it
module _ {A : Type 0} (holds : Context → Option A) (gives : Command → Option A) (step : (h : Context) (c : Command) → holds (next h c) ≡ or_else (gives c) (cond (is_building (byte_of c)) None (holds h))) where
  after_commands : (h : Context) (ps : List Placed) → holds (context_after h ps) ≡ cond (another_begun ps) (latest gives ps) (or_else (latest gives ps) (holds h))
  after_commands h [] = refl
  after_commands h (p ∷ ps) =
      after_commands (next h p.command) ps
      ∙ ap (λ (o : Option A). cond (another_begun ps) (latest gives ps) (or_else (latest gives ps) o)) (step h p.command)
      ∙ behind (another_begun ps) (is_building (byte_of p.command)) (latest gives ps) (gives p.command) (holds h)

  from_nothing : (ps : List Placed) → holds nothing ≡ None → holds (context_after nothing ps) ≡ latest gives ps
  from_nothing ps e =
      after_commands nothing ps ∙ ap (λ (o : Option A). cond (another_begun ps) (latest gives ps) (or_else (latest gives ps) o)) e ∙ alone (another_begun ps) (latest gives ps)

-- ---- settings, joints and wall base

-- after a command: what it gives of each, else what held before in the same building
record Given (h : Context) (c : Command) : Type 0 where
  pub settings : (next h c).settings ≡ or_else (settings_in c) (cond (is_building (byte_of c)) None h.settings)
  pub joint : (id : ℕ) → (next h c).joints id ≡ or_else (given_under id (joint_in c)) (cond (is_building (byte_of c)) None (h.joints id))
  pub base : (next h c).wall ≡ or_else (base_in c) (cond (is_building (byte_of c)) None h.wall)

either : {A : Type 0} (b : Bool) (a : A) (o : Option A) → cond b (Some a) o ≡ or_else (cond b (Some a) None) o
either true a o = refl
either false a o = refl

given_by : (h : Context) (c : Command) → Given h c
unfolding next
given_by h (joint i j) = record { settings = refl; joint = λ id. either (eqb id i) j (h.joints id); base = refl }
given_by h building = record { settings = refl; joint = λ id. refl; base = refl }
given_by h _ = record { settings = refl; joint = λ id. refl; base = refl }

-- what these commands leave from the start on
module _ (ps : List Placed) where
  pub settings_left : (context_after nothing ps).settings ≡ latest_settings ps
  settings_left = from_nothing (λ h. h.settings) settings_in (λ h c. (given_by h c).settings) ps refl

  joint_left : (id : ℕ) → (context_after nothing ps).joints id ≡ latest_joint id ps
  joint_left id = from_nothing (λ h. h.joints id) (λ c. given_under id (joint_in c)) (λ h c. (given_by h c).joint id) ps refl

  pub base_left : (context_after nothing ps).wall ≡ latest_base ps
  base_left = from_nothing (λ h. h.wall) base_in (λ h c. (given_by h c).base) ps refl

-- ---- at a command of an accepted job

pub latest_joint_lem : (job : List ℕ) (ps : List Placed) → placed job ≡ accepted ps → (earlier : List Placed) (p : Placed) (later : List Placed) → ps ≡ earlier ++ p ∷ later →
    (id : ℕ) → p.context.joints id ≡ latest_joint id earlier
latest_joint_lem job ps e earlier p later q id = ap (λ (h : Context). h.joints id) (accepted_each job ps e earlier p later q).0 ∙ joint_left earlier id
