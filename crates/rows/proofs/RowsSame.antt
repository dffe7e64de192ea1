-- The rows of a command off the state and the joints after it are those of its context where rows are to be written; where nothing is
-- absent, with room or without, those of its context are as many as are counted. Assumes nothing.
use mathlib.Core.Path.{◌≡◌, refl, sym, ap, ◌∙◌}
use mathlib.Core.Bool.{Bool, true, false, ◌||◌, cond}
use mathlib.Core.List.{List, [], ◌∷◌}
use lib.Dec.{eqb}
use lib.ListN.{length}
use Rattle.std.specs.Prelude.{Option, None, Some}
use Rattle.std.specs.Option.{option_map}
use Rattle.exact.specs.Fraction.{Fraction}
use Rattle.coefficient.specs.Coefficient.{fraction}
use Rattle.members.specs.declared.Joint.{Joint}
use Rattle.members.specs.Hingeless.{joint_coefficient}
use Rattle.basement.specs.declared.Basement.{Basement}
use Rattle.basement.specs.Basement.{basement_shear_row, basement_moment_row}
use Rattle.walls.specs.Running.{wall_of}
use Rattle.coefficient.specs.declared.Settings.{Settings}
use Rattle.claims.specs.declared.Row.{Row}
use Rattle.walls.specs.declared.WallBase.{WallBase}
use Rattle.walls.specs.declared.Storey.{Storey}
use Rattle.walls.specs.Base.{wall_coefficient, base_row}
use Rattle.walls.specs.Storey.{storey_row}
use Rattle.walls.proofs.Running.{base_row_of, storey_row_of}
use Rattle.members.specs.declared.Detail.{Detail}
use Rattle.members.specs.Detail.{detail_row}
use Rattle.format.specs.declared.Command.{Command}
use Rattle.format.specs.declared.Command.TheVariants.{Finish as finish, Settings as settings, Joint as joint, Column as column, Beam as beam, Hingeless as hingeless, WallBase as wall_base, Storey as storey, Soil as soil, Footing as footing, Detail as detail, Basement as basement, Building as building}
use Rattle.context.specs.declared.State.{State}
use Rattle.context.specs.Context.{Context, given, missing, when_given, absent}
use Rattle.context.specs.Running.{JointTable, joint_at, running, wall_kept, next_joints, next_state}
use Rattle.context.proofs.Shown.{Shows, IdsFit, InPlace, latest_wall, settings_given_lem, differ}
use Rattle.rows.specs.Nearest.{nearest_coefficient}
use Rattle.rows.specs.Rows.{row_count, rows_of, rows_with}
use Rattle.rows.proofs.Laws.{as_long}
use Rattle.rows.specs.Writing.{running_base_row, running_storey_row, rows_from}

pub or_first : (a b : Bool) → (a || b) ≡ false → a ≡ false
or_first true b e = e
or_first false b e = refl

pub or_second : (a b : Bool) → (a || b) ≡ false → b ≡ false
or_second true b e = absurd (differ e)
or_second false b e = e

found : {A : Type 0} (o : Option A) → missing o ≡ false → given o ≡ true
found None e = absurd (differ e)
found (Some a) e = refl

-- where the joint or the wall is not missing there is a coefficient
hinge_found : (s : Settings) (under : Bool) (j : Option Joint) (o : Option WallBase) → cond under (missing j) (missing o) ≡ false →
    given (cond under (option_map (joint_coefficient s) j) (option_map (wall_coefficient s.behaviour) o)) ≡ true
hinge_found s true None o e = absurd (differ e)
hinge_found s true (Some j) o e = refl
hinge_found s false j None e = absurd (differ e)
hinge_found s false j (Some b) e = refl

pub no_rows : (o : Option Settings) → when_given {B = Row} o (λ s. []) ≡ []
no_rows None = refl
no_rows (Some s) = refl

-- ---- off the running values of the wall

base_same : (s : Option Settings) (b : WallBase) → when_given (running (wall_kept s true b)) (λ w. running_base_row w b ∷ []) ≡ when_given s (λ t. base_row t.behaviour b ∷ [])
base_same None b = refl
base_same (Some s) b = ap (λ (row : Row). row ∷ []) (base_row_of s.behaviour b)

storey_same : (s : Option Settings) (o : Option WallBase) (x : Storey) →
    when_given (running (latest_wall s true o)) (λ w. running_storey_row w x ∷ []) ≡ when_given s (λ t. when_given o (λ b. storey_row t.behaviour b x ∷ []))
storey_same s None x = sym (no_rows s)
storey_same None (Some b) x = refl
storey_same (Some s) (Some b) x = ap (λ (row : Row). row ∷ []) (storey_row_of s.behaviour b x)

detail_same : (s : Option Settings) → given s ≡ true → (d : Detail) → detail_row d ∷ [] ≡ when_given s (λ t. detail_row d ∷ [])
detail_same None g d = absurd (differ (sym g))
detail_same (Some s) g d = refl

-- a basement member's rows, off the joint or the running coefficient of the wall
abbrev both : Option Fraction → Basement → List Row
both o m = when_given o (λ a. basement_shear_row a m ∷ basement_moment_row a m ∷ [])

wall_same : (s : Settings) (o : Option WallBase) → option_map (λ w. fraction w.coefficient) (running (latest_wall (Some s) true o)) ≡ option_map (wall_coefficient s.behaviour) o
unfolding wall_of
wall_same s None = refl
wall_same s (Some b) = refl

basement_same : (s : Option Settings) (o : Option WallBase) (under : Bool) (m : Basement) (x y : Option Joint) → x ≡ y →
    when_given s (λ t. both (cond under (option_map (joint_coefficient t) y) (option_map (λ w. fraction w.coefficient) (running (latest_wall s true o)))) m)
    ≡ when_given s (λ t. both (cond under (option_map (joint_coefficient t) x) (option_map (wall_coefficient t.behaviour) o)) m)
basement_same None o under m x y e = refl
basement_same (Some s) o true m x y e = rw e refl
basement_same (Some s) o false m x y e = ap (λ (c : Option Fraction). both c m) (wall_same s o)

module _ (room : Bool) (t : State) (table : JointTable) (h : Context) (s : Shows room t table h) where
  pub rows_same : room ≡ true → (c : Command) → IdsFit c → InPlace t c → rows_from (next_state room t c) (next_joints table c) c ≡ rows_of h c
  unfolding next_state next_joints rows_from rows_of rows_with
  rows_same r (column c) i p = rw s.state
  rows_same r (beam b) i p = rw s.state
  rows_same r (hingeless id1 id2 m) i p = rw (s.state, s.joints id1 i.0, s.joints id2 i.1)
  rows_same r (wall_base b) i p = rw (s.state, r) (base_same h.settings b)
  rows_same r (storey x) i p = rw (s.state, r) (storey_same h.settings h.wall x)
  rows_same r (footing f) i p = rw s.state
  rows_same r (detail d) i p = detail_same h.settings (settings_given_lem room t table h s ∙ p) d
  rows_same r (basement id m) i p = rw (s.state, r) (basement_same h.settings h.wall (eqb m.place 0) m (h.joints id) (joint_at table id) (s.joints id i))
  rows_same r _ i p = sym (no_rows h.settings)

  -- as many, with room or without
  pub rows_as_many : (c : Command) → InPlace t c → absent h c ≡ false → length (rows_of h c) ≡ row_count c
  unfolding rows_of rows_with absent row_count
  rows_as_many finish p a = ap length (no_rows h.settings)
  rows_as_many (settings x) p a = ap length (no_rows h.settings)
  rows_as_many (joint id j) p a = ap length (no_rows h.settings)
  rows_as_many (hingeless id1 id2 m) p a =
      as_long h.settings (settings_given_lem room t table h s ∙ p) _ 1
      (λ x. as_long (h.joints id1) (found (h.joints id1) (or_first (missing (h.joints id1)) (missing (h.joints id2)) a)) _ 1
      (λ i. as_long (h.joints id2) (found (h.joints id2) (or_second (missing (h.joints id1)) (missing (h.joints id2)) a)) _ 1 (λ j. refl)))
  rows_as_many (storey x) p a =
      as_long h.settings (settings_given_lem room t table h s ∙ p) _ 1 (λ y. as_long h.wall (found h.wall a) _ 1 (λ b. refl))
  rows_as_many (soil x) p a = ap length (no_rows h.settings)
  rows_as_many building p a = ap length (no_rows h.settings)
  rows_as_many (footing f) p a =
      as_long h.settings (settings_given_lem room t table h s ∙ p) _ 2 (λ y. as_long h.ground (found h.ground a) _ 2 (λ g. refl))
  rows_as_many (basement id m) p a =
      as_long h.settings (settings_given_lem room t table h s ∙ p) _ 2
      (λ y. as_long (nearest_coefficient h y id m.place) (hinge_found y (eqb m.place 0) (h.joints id) h.wall a) _ 2 (λ k. refl))
  rows_as_many _ p a = as_long h.settings (settings_given_lem room t table h s ∙ p) _ 1 (λ y. refl)
