-- How large the words of the rows of every placed command are. Assumes nothing.
use Rattle.actions.specs.declared.Sign.TheVariants.{Plus, Minus}
use mathlib.Core.Path.{◌≡◌, refl}
use mathlib.Core.Bool.{true}
use mathlib.Core.List.{[], ◌∷◌}
use native.Mathlib.Omega.{arith}
use Rattle.std.specs.Prelude.{Option, None, Some}
use Rattle.exact.specs.Fraction.{Fraction}
use Rattle.coefficient.specs.declared.Settings.{Settings}
use Rattle.coefficient.specs.Coefficient.{Capped}
use Rattle.claims.specs.Sizes.{AllSized}
use Rattle.members.specs.declared.Joint.{Joint}
use Rattle.members.specs.Hingeless.{JointRange, hingeless_row}
use Rattle.members.proofs.Sizes.{column_sized, beam_sized, hingeless_sized, detail_sized}
use Rattle.basement.specs.Basement.{basement_shear_row, basement_moment_row}
use Rattle.basement.proofs.Sizes.{basement_sized}
use Rattle.walls.specs.declared.WallBase.{WallBase}
use Rattle.walls.specs.Base.{WallBaseRange}
use Rattle.walls.specs.Storey.{storey_row}
use Rattle.walls.proofs.Sizes.{base_sized, storey_sized}
use Rattle.footing.specs.Rows.{footing_row}
use Rattle.footing.proofs.Sizes.{footing_sized}
use Rattle.format.specs.declared.Command.{Command}
use Rattle.format.specs.declared.Command.TheVariants.{Finish as finish, Settings as settings, Joint as joint, Column as column, Beam as beam, Hingeless as hingeless, WallBase as wall_base, Storey as storey, Soil as soil, Footing as footing, Detail as detail, Basement as basement, Building as building}
use Rattle.format.specs.Commands.{in_range}
use Rattle.format.specs.Types.{OfTypes}
use Rattle.format.proofs.CommandRanges.{basement_in_range}
use Rattle.context.specs.Running.{SettingsRange}
use Rattle.context.specs.declared.Ground.{Ground}
use Rattle.context.specs.Context.{Context, when_given}
use Rattle.context.proofs.Ranges.{column_range, beam_range, hingeless_range, wall_base_range, storey_range, footing_range, detail_range, basement_shear_range, basement_moment_range}
use Rattle.rows.specs.Nearest.{nearest_coefficient}
use Rattle.rows.specs.Rows.{rows_of, rows_with}
use Rattle.job.specs.Placed.{Placed}
use Rattle.capacity.proofs.Ranges.{ContextRange, Good}
use Rattle.capacity.proofs.Nearest.{quotient, nearest_capped}

module _ (h : Context) (s : Settings) (range : ContextRange h) (r : SettingsRange s) where
  with_settings_lem : (c : Command) → in_range c ≡ true → OfTypes c → AllSized (rows_with h s c)
  unfolding rows_with
  with_settings_lem finish i f = tt
  with_settings_lem (settings x) i f = tt
  with_settings_lem (joint id j) i f = tt
  with_settings_lem (column c) i f = (column_sized s.behaviour c (column_range s r c i), tt)
  with_settings_lem (beam b) i f = (beam_sized s.behaviour b (beam_range s r b f i), tt)
  with_settings_lem (hingeless id1 id2 m) i f = two_joints (h.joints id1) (h.joints id2) (range.joints id1) (range.joints id2)
    where
      two_joints : (o1 o2 : Option Joint) → ((j : Joint) → o1 ≡ Some j → JointRange j) → ((j : Joint) → o2 ≡ Some j → JointRange j) →
          AllSized (when_given o1 (λ i. when_given o2 (λ j. hingeless_row s i j m ∷ [])))
      two_joints None o2 r1 r2 = tt
      two_joints (Some j1) None r1 r2 = tt
      two_joints (Some j1) (Some j2) r1 r2 = (hingeless_sized s j1 j2 m (hingeless_range s r j1 j2 (r1 j1 refl) (r2 j2 refl) id1 id2 m f.2 i), tt)
  with_settings_lem (wall_base b) i f = (base_sized s.behaviour b (wall_base_range s.behaviour r.behaviour b i), tt)
  with_settings_lem (storey x) i f = of_wall h.wall (λ b e. wall_base_range s.behaviour r.behaviour b (range.wall b e))
    where
      of_wall : (o : Option WallBase) → ((b : WallBase) → o ≡ Some b → WallBaseRange s.behaviour b) → AllSized (when_given o (λ b. storey_row s.behaviour b x ∷ []))
      of_wall None w = tt
      of_wall (Some b) w = (storey_sized s.behaviour b x (w b refl) (storey_range x i), tt)
  with_settings_lem (soil x) i f = tt
  with_settings_lem building i f = tt
  with_settings_lem (footing x) i f = on_ground h.ground
    where
      on_ground : (o : Option Ground) → AllSized (when_given o (λ g. footing_row s x g.soil g.sensitive Plus ∷ footing_row s x g.soil g.sensitive Minus ∷ []))
      on_ground None = tt
      on_ground (Some g) =
          let ranged = footing_range s r x f i in
          (footing_sized s x Plus ranged g.soil g.sensitive, (footing_sized s x Minus ranged g.soil g.sensitive, tt))
  with_settings_lem (detail d) i f = (detail_sized d (detail_range d i), tt)
  with_settings_lem (basement id m) i f = at_hinge (nearest_coefficient h s id m.place) (nearest_capped h s range r id m.place)
    where
      at_hinge : (o : Option Fraction) → ((a : Fraction) → o ≡ Some a → Capped (quotient a)) → AllSized (when_given o (λ a. basement_shear_row a m ∷ basement_moment_row a m ∷ []))
      at_hinge None k = tt
      at_hinge (Some a) k =
          let o = basement_in_range id m f.1 f.2 i in
          let q = quotient a in (
            basement_sized 1 q m.nonseismic_shear m.seismic_shear m.shear_strength (omega arith) (basement_shear_range q (k a refl) id m f.1 f.2 i) o.shear_strength,
            (
              basement_sized 2 q m.nonseismic_moment m.seismic_moment m.moment_strength (omega arith) (basement_moment_range q (k a refl) id m f.1 f.2 i) o.moment_strength,
              tt,
            ),
          )

pub rows_sized : (p : Placed) → Good p → AllSized (rows_of p.context p.command)
unfolding rows_of
rows_sized p g = given_settings p.context.settings g.context.settings
  where
    given_settings : (o : Option Settings) → ((s : Settings) → o ≡ Some s → SettingsRange s) → AllSized (when_given o (λ s. rows_with p.context s p.command))
    given_settings None r = tt
    given_settings (Some s) r = with_settings_lem p.context s g.context (r s refl) p.command g.range g.types
