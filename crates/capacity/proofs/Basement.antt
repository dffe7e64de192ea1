-- Every basement member of an accepted job has its two rows in the words that `run` writes, made with the coefficient of the nearest
-- possible hinge; both values of each stray from the exact by under one unit, away from safety never. 02, No. 9. Assumes nothing.
use mathlib.Core.Path.{◌≡◌, refl, sym, ap, ◌∙◌, subst}
use mathlib.Core.Bool.{Bool, true, false, cond}
use mathlib.Core.List.{List, [], ◌∷◌, ◌++◌}
use Prim.Native.Nat.{ℕ, ◌+◌, ◌*◌, ◌≤◌, min}
use lib.Dec.{eqb}
use lib.IntN.{ℤ}
use lib.ListN.{length}
use borrow.Author.Tests.{eqb-true, eqb-false}
use native.Mathlib.Omega.{arith}
use Rattle.std.specs.Prelude.{Some}
use Rattle.exact.specs.Fraction.{Fraction, Proper}
use Rattle.coefficient.specs.declared.Settings.{Settings}
use Rattle.coefficient.proofs.Bounds.{proper}
use Rattle.members.specs.declared.Joint.{Joint}
use Rattle.members.specs.Hingeless.{joint_coefficient}
use Rattle.basement.specs.declared.Basement.{Basement}
use Rattle.basement.specs.Basement.{basement_shear_row, basement_moment_row, Strays}
use Rattle.basement.proofs.BasementHolds.{strays}
use Rattle.walls.specs.declared.WallBase.{WallBase}
use Rattle.walls.specs.Base.{wall_coefficient}
use Rattle.layout.proofs.Numbers.{Bytes}
use Rattle.format.specs.declared.Command.TheVariants.{Basement as basement}
use Rattle.context.specs.Context.{Context, missing, absent}
use Rattle.context.proofs.Shown.{present}
use Rattle.rows.specs.Rows.{rows_of, rows_with, words}
use Rattle.job.specs.Placed.{Placed, placed_all, accepted, placed, rows_at, all_rows}
use Rattle.job.specs.Earlier.{latest_settings, latest_base}
use Rattle.job.proofs.PlacedCases.{listed_of}
use Rattle.job.proofs.Reached.{reached_accepted}
use Rattle.job.proofs.Faultless.{settings_there}
use Rattle.job.proofs.AcceptedLaws.{accepted_each}
use Rattle.job.proofs.Latest.{latest_joint_lem, settings_left, base_left}
use Rattle.job.proofs.LatestWall.{carried}
use Rattle.capacity.specs.Calls.{rows_after}
use Rattle.capacity.specs.DemandThree.{row_read}
use Rattle.capacity.specs.Basement.{OfJoint, OfWall, BasementWritten, BasementsWritten}
use Rattle.capacity.proofs.Ranges.{same_some}
use Rattle.capacity.proofs.RowRead.{row_among, first_row}

module _ (job : List ℕ) (b : Bytes job) (ps : List Placed) (e : placed job ≡ accepted ps) (earlier : List Placed) (p : Placed) (later : List Placed) (q : ps ≡ earlier ++ p ∷ later) (id : ℕ) (m : Basement) (c : p.command ≡ basement id m) (lent : List ℤ) (l : 8 * length (all_rows ps) ≤ length lent) where
  abbrev n : ℕ
  n = length (all_rows earlier)

  abbrev after : List ℤ
  after = rows_after job lent

  -- both rows, from a coefficient
  abbrev both : Fraction → List (List ℤ)
  both a = words p.offset 12 (basement_shear_row a m) ∷ words p.offset 12 (basement_moment_row a m) ∷ []

  first : (a : Fraction) → rows_at p ≡ both a → row_read after n ≡ basement_shear_row a m
  first a r = first_row job ps e earlier p later q lent l 12 (basement_shear_row a m) (words p.offset 12 (basement_moment_row a m) ∷ []) r

  second : (a : Fraction) → rows_at p ≡ both a → row_read after (n + 1) ≡ basement_moment_row a m
  second a r = row_among job ps e earlier p later q lent l 12 (basement_moment_row a m) (words p.offset 12 (basement_shear_row a m) ∷ []) [] (refl, tt) r

  written : (s : Settings) → latest_settings earlier ≡ Some s → (a : Fraction) → Proper a → rows_at p ≡ both a → (m.place ≡ 0 → OfJoint earlier id s a) → (m.place ≡ 1 → OfWall earlier s a) →
      BasementWritten after n earlier id m
  written s g a k r j w =
      record {
        settings = s;
        settings_given = g;
        coefficient = a;
        is_proper = k;
        of_joint = j;
        of_wall = w;
        shear_row = first a r;
        moment_row = second a r;
        shear_strays = subst (Strays a m.nonseismic_shear m.seismic_shear) (sym (first a r)) (strays a k m.nonseismic_shear m.seismic_shear m.shear_strength 1);
        moment_strays = subst (Strays a m.nonseismic_moment m.seismic_moment) (sym (second a r)) (strays a k m.nonseismic_moment m.seismic_moment m.moment_strength 2);
      }

  -- under a joint, and under a wall
  rows_under_joint : (s : Settings) (j : Joint) → p.context.settings ≡ Some s → eqb m.place 0 ≡ true → p.context.joints id ≡ Some j → rows_at p ≡ both (joint_coefficient s j)
  unfolding rows_of rows_with
  rows_under_joint s j h z ej = rw (c, h, z, ej)

  rows_under_wall : (s : Settings) (w : WallBase) → p.context.settings ≡ Some s → eqb m.place 0 ≡ false → p.context.wall ≡ Some w → rows_at p ≡ both (wall_coefficient s.behaviour w)
  unfolding rows_of rows_with
  rows_under_wall s w h z ew = rw (c, h, z, ew)

  -- by the place: the joint or the wall is there
  by_place : (s : Settings) → p.context.settings ≡ Some s → latest_settings earlier ≡ Some s → (t : Bool) → eqb m.place 0 ≡ t → cond t (missing (p.context.joints id)) (missing p.context.wall) ≡ false →
      BasementWritten after n earlier id m
  by_place s h g true z k =
      let (j, ej) = present (p.context.joints id) k in
      written s g (joint_coefficient s j) (proper s.joints (min j.beams j.columns) j.seismic s.behaviour) (rows_under_joint s j h z ej)
      (λ o. record { joint = j; latest = sym (latest_joint_lem job ps e earlier p later q id) ∙ ej; is = refl })
      (λ o. absurd (differ m.place (eqb-true m.place 0 z) o))
    where
      differ : (x : ℕ) → x ≡ 0 → x ≡ 1 → ⊥
      differ x u v = omega arith
  by_place s h g false z k =
      let (base, ew) = present p.context.wall k in
      let latest : latest_base earlier ≡ Some base = sym (base_left earlier) ∙ ap (λ (x : Context). x.wall) (sym (accepted_each job ps e earlier p later q).0) ∙ ew in
      let (es, listing, are) = listed_of job ps e in
      let carries = carried job b earlier (p ∷ later) (ap placed_all (reached_accepted job es listing) ∙ are ∙ q) base latest in
      let same : carries.settings ≡ s = same_some carries.settings s (sym carries.given ∙ g) in
      written s g (wall_coefficient s.behaviour base) (proper 130 base.resistance base.moment s.behaviour) (rows_under_wall s base h z ew)
      (λ o. absurd (eqb-false m.place 0 z o))
      (λ o.
      record {
        base = base;
        latest = latest;
        is = refl;
        wall = carries.wall;
        running_values = carries.running_values;
        running = carries.coefficient ∙ ap (λ (x : Settings). wall_coefficient x.behaviour base) same;
      })

  member_written : BasementWritten after n earlier id m
  unfolding absent
  member_written =
      let (context, standing) = accepted_each job ps e earlier p later q in
      let (s, h) = present p.context.settings (settings_there 12 refl p.context.settings (rw c at standing.settings)) in
      let g : latest_settings earlier ≡ Some s = sym (settings_left earlier) ∙ ap (λ (x : Context). x.settings) (sym context) ∙ h in
      by_place s h g (eqb m.place 0) refl (rw c at standing.present)

pub basements_written : (job : List ℕ) → Bytes job → BasementsWritten job
basements_written job b ps e earlier p later q id m c lent l = member_written job b ps e earlier p later q id m c lent l
