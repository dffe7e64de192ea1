-- The claims of every placed command hold of its rows as the specification has them. Assumes nothing.
use Rattle.actions.specs.declared.Sign.TheVariants.{Plus, Minus}
use mathlib.Core.Path.{◌≡◌, refl}
use mathlib.Core.Bool.{true}
use mathlib.Core.List.{List, [], ◌∷◌}
use Rattle.std.specs.Prelude.{Option, None, Some}
use Rattle.exact.specs.Fraction.{Fraction}
use Rattle.coefficient.specs.declared.Settings.{Settings}
use Rattle.coefficient.specs.Coefficient.{Capped}
use Rattle.claims.specs.declared.Row.{Row}
use Rattle.claims.specs.Claims.{Hold}
use Rattle.members.specs.declared.Joint.{Joint}
use Rattle.members.specs.Hingeless.{JointRange, hingeless_row, hingeless_claims}
use Rattle.members.proofs.ColumnHolds.{column_holds}
use Rattle.members.proofs.BeamHolds.{beam_holds}
use Rattle.members.proofs.HingelessHolds.{hingeless_holds}
use Rattle.members.proofs.DetailHolds.{detail_holds}
use Rattle.basement.specs.Basement.{basement_shear_row, basement_moment_row, basement_shear_claims, basement_moment_claims}
use Rattle.basement.proofs.BasementHolds.{basement_shear_holds, basement_moment_holds}
use Rattle.walls.specs.declared.WallBase.{WallBase}
use Rattle.walls.specs.Storey.{storey_row, storey_claims}
use Rattle.walls.proofs.Rows.{base_holds, storey_holds}
use Rattle.footing.specs.Rows.{footing_row}
use Rattle.footing.proofs.Held.{footing_holds}
use Rattle.format.specs.declared.Command.{Command}
use Rattle.format.specs.declared.Command.TheVariants.{Finish as finish, Settings as settings, Joint as joint, Column as column, Beam as beam, Hingeless as hingeless, WallBase as wall_base, Storey as storey, Soil as soil, Footing as footing, Detail as detail, Basement as basement, Building as building}
use Rattle.format.specs.Commands.{in_range}
use Rattle.context.specs.Running.{SettingsRange}
use Rattle.context.proofs.Ranges.{column_range, beam_range, hingeless_range, storey_range, footing_range, detail_range}
use Rattle.context.specs.declared.Ground.{Ground}
use Rattle.context.specs.Context.{Context, when_given}
use Rattle.rows.specs.Nearest.{nearest_coefficient}
use Rattle.rows.specs.Rows.{rows_of, rows_with}
use Rattle.job.specs.Placed.{Placed}
use Rattle.capacity.specs.DemandThree.{Claim, footing_claim, claims_of, claims_with}
use Rattle.format.specs.Types.{OfTypes}
use Rattle.capacity.proofs.Ranges.{ContextRange, Good}
use Rattle.capacity.proofs.Nearest.{quotient, nearest_capped}

-- as many rows as claims, and each claim holds of its row
abbrev pub Pairwise : List Claim → List Row → Type 0
Pairwise [] [] = Unit {0}
Pairwise [] (r ∷ rs) = ⊥
Pairwise (c ∷ cs) [] = ⊥
Pairwise (c ∷ cs) (r ∷ rs) = c r × Pairwise cs rs

module _ (h : Context) (s : Settings) (range : ContextRange h) (r : SettingsRange s) where
  with_settings_lem : (c : Command) → in_range c ≡ true → OfTypes c → Pairwise (claims_with h s c) (rows_with h s c)
  unfolding claims_with rows_with
  with_settings_lem finish i f = tt
  with_settings_lem (settings x) i f = tt
  with_settings_lem (joint id j) i f = tt
  with_settings_lem (column c) i f = (column_holds s.behaviour c (column_range s r c i), tt)
  with_settings_lem (beam b) i f = (beam_holds s.behaviour b (beam_range s r b f i), tt)
  with_settings_lem (hingeless id1 id2 m) i f = two_joints (h.joints id1) (h.joints id2) (range.joints id1) (range.joints id2)
    where
      two_joints : (o1 o2 : Option Joint) → ((j : Joint) → o1 ≡ Some j → JointRange j) → ((j : Joint) → o2 ≡ Some j → JointRange j) →
          Pairwise (when_given o1 (λ i. when_given o2 (λ j. (λ r. Hold (hingeless_claims s i j m r)) ∷ []))) (when_given o1 (λ i. when_given o2 (λ j. hingeless_row s i j m ∷ [])))
      two_joints None o2 r1 r2 = tt
      two_joints (Some j1) None r1 r2 = tt
      two_joints (Some j1) (Some j2) r1 r2 = (hingeless_holds s j1 j2 m (hingeless_range s r j1 j2 (r1 j1 refl) (r2 j2 refl) id1 id2 m f.2 i), tt)
  with_settings_lem (wall_base b) i f = (base_holds s.behaviour b, tt)
  with_settings_lem (storey x) i f = of_wall h.wall
    where
      of_wall : (o : Option WallBase) → Pairwise (when_given o (λ b. (λ r. Hold (storey_claims s.behaviour b x r)) ∷ [])) (when_given o (λ b. storey_row s.behaviour b x ∷ []))
      of_wall None = tt
      of_wall (Some b) = (storey_holds s.behaviour b x (storey_range x i), tt)
  with_settings_lem (soil x) i f = tt
  with_settings_lem building i f = tt
  with_settings_lem (footing x) i f = on_ground h.ground
    where
      on_ground : (o : Option Ground) →
          Pairwise (when_given o (λ g. footing_claim s x g Plus ∷ footing_claim s x g Minus ∷ [])) (when_given o (λ g. footing_row s x g.soil g.sensitive Plus ∷ footing_row s x g.soil g.sensitive Minus ∷ []))
      on_ground None = tt
      on_ground (Some g) =
          let ranged = footing_range s r x f i in
          (footing_holds s x g.soil g.sensitive Plus ranged, (footing_holds s x g.soil g.sensitive Minus ranged, tt))
  with_settings_lem (detail d) i f = (detail_holds d (detail_range d i), tt)
  with_settings_lem (basement id m) i f = at_hinge (nearest_coefficient h s id m.place) (nearest_capped h s range r id m.place)
    where
      at_hinge : (o : Option Fraction) → ((a : Fraction) → o ≡ Some a → Capped (quotient a)) →
          Pairwise (when_given o (λ a. (λ r. Hold (basement_shear_claims a m r)) ∷ (λ r. Hold (basement_moment_claims a m r)) ∷ [])) (when_given o (λ a. basement_shear_row a m ∷ basement_moment_row a m ∷ []))
      at_hinge None k = tt
      at_hinge (Some a) k = (basement_shear_holds a (k a refl).positive m, (basement_moment_holds a (k a refl).positive m, tt))

pub rows_true : (p : Placed) → Good p → Pairwise (claims_of p) (rows_of p.context p.command)
unfolding claims_of rows_of
rows_true p g = given_settings p.context.settings g.context.settings
  where
    given_settings : (o : Option Settings) → ((s : Settings) → o ≡ Some s → SettingsRange s) →
        Pairwise (when_given o (λ s. claims_with p.context s p.command)) (when_given o (λ s. rows_with p.context s p.command))
    given_settings None r = tt
    given_settings (Some s) r = with_settings_lem p.context s g.context (r s refl) p.command g.range g.types
