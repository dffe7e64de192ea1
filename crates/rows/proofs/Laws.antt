-- How many rows a command has, and that each has eight words. Assumes nothing.
use mathlib.Core.List.{List, [], ◌∷◌, ◌++◌, map}
use mathlib.Core.Path.{◌≡◌, refl, sym, ◌∙◌}
use mathlib.Core.Bool.{Bool, true, false, ◌&&◌, cond}
use Prim.Native.Nat.{ℕ, ◌≤◌}
use native.Mathlib.Omega.{arith}
use lib.IntN.{ℤ}
use lib.ListN.{length}
use Rattle.std.specs.Prelude.{eqb, Option, None, Some}
use Rattle.std.specs.Option.{option_map}
use Rattle.coefficient.specs.declared.Settings.{Settings}
use Rattle.coefficient.specs.Coefficient.{fraction}
use Rattle.members.specs.Hingeless.{joint_coefficient}
use Rattle.walls.specs.declared.Wall.{Wall}
use Rattle.claims.specs.declared.Row.{Row}
use Rattle.format.specs.declared.Command.{Command}
use Rattle.format.specs.declared.Command.TheVariants.{Finish as finish, Settings as settings, Joint as joint, Column as column, Beam as beam, Hingeless as hingeless, WallBase as wall_base, Storey as storey, Soil as soil, Footing as footing, Basement as basement}
use Rattle.format.proofs.RangeTest.{and_first, and_second}
use Rattle.context.specs.declared.State.{State}
use Rattle.context.specs.Context.{given, when_given}
use Rattle.context.specs.Running.{JointTable, joint_at, running}
use Rattle.context.proofs.Shown.{differ}
use Rattle.rows.specs.Rows.{row_count, words}
use Rattle.rows.specs.Writing.{coefficient_from, rows_from, rows_given}
use Rattle.rows.proofs.Memory.{Eights}

pub count_le : (c : Command) → row_count c ≤ 2
unfolding row_count
count_le finish = omega arith
count_le (settings s) = omega arith
count_le (joint id j) = omega arith
count_le (soil s) = omega arith
count_le (footing f) = omega arith
count_le (basement id m) = omega arith
count_le _ = omega arith

-- what is made of a thing that is given is as long as it is of each
pub as_long : {A : Type 0} (o : Option A) → given o ≡ true → (f : A → List Row) (n : ℕ) → ((a : A) → length (f a) ≡ n) → length (when_given o f) ≡ n
as_long None g f n e = absurd (differ (sym g))
as_long (Some a) g f n e = e a

-- a basement member has a coefficient where its joint or its wall is given
mapped : {A B : Type 0} (f : A → B) (o : Option A) → given (option_map f o) ≡ given o
mapped f None = refl
mapped f (Some a) = refl

hinge_given : (t : State) (table : JointTable) (s : Settings) (id place : ℕ) →
    given (coefficient_from t table s id place) ≡ cond (eqb place 0) (given (joint_at table id)) (given (running t.wall))
hinge_given t table s id place = by (eqb place 0)
  where
    by : (b : Bool) → given (cond b (option_map (joint_coefficient s) (joint_at table id)) (option_map (λ w. fraction w.coefficient) (running t.wall))) ≡ cond b (given (joint_at table id)) (given (running t.wall))
    by true = mapped (joint_coefficient s) (joint_at table id)
    by false = mapped (λ (w : Wall). fraction w.coefficient) (running t.wall)

-- so many rows has a command where what they are made of is given
pub as_many : (t : State) (table : JointTable) (c : Command) → rows_given t table c ≡ true → length (rows_from t table c) ≡ row_count c
unfolding rows_given rows_from row_count
as_many t table (column c) g = as_long t.settings g _ 1 (λ s. refl)
as_many t table (beam b) g = as_long t.settings g _ 1 (λ s. refl)
as_many t table (hingeless id1 id2 m) g =
    let set = given t.settings in
    let first = given (joint_at table id1) in
    let second = given (joint_at table id2) in
    let h = and_first (set && first) second g in
    as_long t.settings (and_first set first h) _ 1
    (λ s. as_long (joint_at table id1) (and_second set first h) _ 1 (λ i. as_long (joint_at table id2) (and_second (set && first) second g) _ 1 (λ j. refl)))
as_many t table (wall_base b) g = as_long (running t.wall) g _ 1 (λ w. refl)
as_many t table (storey s) g = as_long (running t.wall) g _ 1 (λ w. refl)
as_many t table (footing f) g =
    as_long t.settings (and_first (given t.settings) (given t.soil) g) _ 2 (λ s. as_long t.soil (and_second (given t.settings) (given t.soil) g) _ 2 (λ k. refl))
as_many t table (basement id m) g =
    let there = cond (eqb m.place 0) (given (joint_at table id)) (given (running t.wall)) in
    as_long t.settings (and_first (given t.settings) there g) _ 2
    (λ s. as_long (coefficient_from t table s id m.place) (hinge_given t table s id m.place ∙ and_second (given t.settings) there g) _ 2 (λ a. refl))
as_many t table _ g = refl

pub words_eight : (offset byte : ℕ) (rows : List Row) → Eights (map (words offset byte) rows)
words_eight offset byte [] = tt
words_eight offset byte (r ∷ rs) = (refl, words_eight offset byte rs)

pub eights_both : (xs ys : List (List ℤ)) → Eights xs → Eights ys → Eights (xs ++ ys)
eights_both [] ys e f = f
eights_both (x ∷ xs) ys e f = (e.0, eights_both xs ys e.1 f)
