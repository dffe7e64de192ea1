-- What the rules ask of operands and of what holds, from a command whose values are in range. Assumes nothing.
use mathlib.Core.Bool.{true}
use mathlib.Core.Path.{◌≡◌}
use Prim.Native.Nat.{ℕ, ◌≤◌, min}
use native.Mathlib.Nat.{min-le_left, le_trans}
use lib.IntN.{pos}
use mir.Syntax.{w32}
use mir.Val.{SFits}
use Rattle.coefficient.specs.declared.Settings.{Settings}
use Rattle.coefficient.specs.declared.Quotient.{Quotient}
use Rattle.coefficient.specs.Coefficient.{CoefficientRange, Capped}
use Rattle.actions.specs.Ranges.{ActionRange}
use Rattle.basement.specs.declared.Basement.{Basement}
use Rattle.members.specs.declared.Beam.{Beam}
use Rattle.members.specs.declared.Column.{Column}
use Rattle.members.specs.declared.Detail.{Detail}
use Rattle.members.specs.declared.Hingeless.{Hingeless}
use Rattle.members.specs.declared.Joint.{Joint}
use Rattle.members.specs.Column.{ColumnRange}
use Rattle.members.specs.Beam.{BeamRange}
use Rattle.members.specs.Hingeless.{JointRange, HingelessRange}
use Rattle.members.specs.Detail.{DetailRange}
use Rattle.walls.specs.declared.Storey.{Storey}
use Rattle.walls.specs.declared.WallBase.{WallBase}
use Rattle.walls.specs.Base.{WallBaseRange}
use Rattle.walls.specs.Storey.{StoreyRange}
use Rattle.footing.specs.declared.Footing.{Footing}
use Rattle.footing.specs.Rows.{FootingRange}
use Rattle.format.specs.declared.Command.TheVariants.{Settings as settings, Joint as joint, WallBase as wall_base, Beam as beam, Footing as footing, Column as column, Hingeless as hingeless, Storey as storey, Detail as detail, Basement as basement}
use Rattle.format.specs.Commands.{in_range}
use Rattle.format.specs.Types.{FootingFits}
use Rattle.format.proofs.CommandRanges.{settings_in_range, joint_in_range, column_in_range, hingeless_in_range, storey_in_range, detail_in_range, wall_base_in_range, beam_in_range, footing_in_range, BasementOperands, basement_in_range}
use Rattle.context.specs.Running.{SettingsRange}

pub settings_range : (s : Settings) → in_range (settings s) ≡ true → SettingsRange s
settings_range s h =
    let o = settings_in_range s h in
    record { behaviour = o.behaviour_greatest; joints = o.joints_greatest; foundations = o.foundations_greatest }

pub joint_range : (id : ℕ) (j : Joint) → in_range (joint id j) ≡ true → JointRange j
joint_range id j h = let o = joint_in_range id j h in record { beams = o.beams; columns = o.columns; seismic = o.seismic }

pub wall_base_range : (behaviour : ℕ) → behaviour ≤ 400 → (b : WallBase) → in_range (wall_base b) ≡ true → WallBaseRange behaviour b
wall_base_range behaviour r b h =
    let o = wall_base_in_range b h in
    record {
      behaviour = r;
      length_least = o.length_least;
      length_greatest = o.length_greatest;
      thickness_least = o.thickness_least;
      thickness_greatest = o.thickness_greatest;
      resistance = o.resistance;
      moment = o.moment;
      shear = o.shear;
      strength = o.strength;
    }

pub beam_range : (s : Settings) → SettingsRange s → (b : Beam) → SFits w32 b.nonseismic → in_range (beam b) ≡ true → BeamRange s.behaviour b
beam_range s r b f h =
    let o = beam_in_range b f h in
    record {
      behaviour = r.behaviour;
      length_least = o.length_least;
      length_greatest = o.length_greatest;
      plus1 = o.plus1;
      plus2 = o.plus2;
      minus1 = o.minus1;
      minus2 = o.minus2;
      nonseismic = o.nonseismic;
      shear = o.shear;
      strength = o.strength;
    }

pub footing_range : (s : Settings) → SettingsRange s → (f : Footing) → FootingFits f → in_range (footing f) ≡ true → FootingRange s f
footing_range s r f p h =
    let o = footing_in_range f p h in
    record {
      behaviour = r.behaviour;
      foundations = r.foundations;
      breadth_least = o.breadth_least;
      breadth_greatest = o.breadth_greatest;
      length_least = o.length_least;
      length_greatest = o.length_greatest;
      resistance = o.resistance;
      moment = o.moment;
      nv = o.nv;
      ne = o.ne;
      xv = o.xv;
      xe = o.xe;
      yv = o.yv;
      ye = o.ye;
      hv = o.hv;
      he = o.he;
      uplift = o.uplift;
      passive = o.passive;
      flags = o.flags;
    }

pub column_range : (s : Settings) → SettingsRange s → (c : Column) → in_range (column c) ≡ true → ColumnRange s.behaviour c
column_range s r c h =
    let o = column_in_range c h in
    record {
      behaviour = r.behaviour;
      length_least = o.length_least;
      length_greatest = o.length_greatest;
      plus1 = o.plus1;
      plus2 = o.plus2;
      minus1 = o.minus1;
      minus2 = o.minus2;
      shear = o.shear;
      strength = o.strength;
    }

pub hingeless_range : (s : Settings) → SettingsRange s → (j1 j2 : Joint) → JointRange j1 → JointRange j2 → (id1 id2 : ℕ) (m : Hingeless) → SFits w32 m.nonseismic → in_range (hingeless id1 id2 m) ≡ true → HingelessRange s j1 j2 m
hingeless_range s r j1 j2 r1 r2 id1 id2 m f h =
    let o = hingeless_in_range id1 id2 m f h in
    record {
      behaviour = r.behaviour;
      joints = r.joints;
      joint1 = r1;
      joint2 = r2;
      length_least = o.length_least;
      length_greatest = o.length_greatest;
      moment1 = o.moment1;
      moment2 = o.moment2;
      nonseismic = o.nonseismic;
      strength = o.strength;
    }

pub storey_range : (s : Storey) → in_range (storey s) ≡ true → StoreyRange s
storey_range s h =
    let o = storey_in_range s h in
    record {
      moment = o.moment;
      shear = o.shear;
      inertia_least = o.inertia_least;
      inertia_greatest = o.inertia_greatest;
      strength = o.strength;
      resistance = o.resistance;
    }

pub detail_range : (d : Detail) → in_range (detail d) ≡ true → DetailRange d
detail_range d h =
    let o = detail_in_range d h in
    record {
      place = o.place;
      ultimate = o.ultimate;
      yielded = o.yielded;
      ductility = o.ductility_greatest;
      lap = o.lap;
    }

-- the coefficient of a joint; V and E of a basement member, by a coefficient within its bounds
pub joint_coefficient_range : (s : Settings) → SettingsRange s → (j : Joint) → JointRange j → CoefficientRange s.joints (min j.beams j.columns) j.seismic s.behaviour
joint_coefficient_range s r j k =
    record { overstrength = r.joints; resistance = le_trans (min-le_left j.beams j.columns) k.beams; seismic = k.seismic; behaviour = r.behaviour }

module _ (a : Quotient) (c : Capped a) (id : ℕ) (m : Basement) (f : SFits w32 m.nonseismic_shear) (g : SFits w32 m.nonseismic_moment) (h : in_range (basement id m) ≡ true) where
  operands : BasementOperands m
  operands = basement_in_range id m f g h

  pub basement_shear_range : ActionRange a m.nonseismic_shear (pos m.seismic_shear)
  basement_shear_range = record { coefficient = c; steady = operands.nonseismic_shear; seismic = operands.seismic_shear }

  pub basement_moment_range : ActionRange a m.nonseismic_moment (pos m.seismic_moment)
  basement_moment_range = record { coefficient = c; steady = operands.nonseismic_moment; seismic = operands.seismic_moment }
