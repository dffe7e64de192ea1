-- What the range test says of the values of each command, as plain inequalities: from the test of each operand, and from the test
-- of a command's values. Assumes nothing.
use mathlib.Core.Bool.{true}
use mathlib.Core.Path.{◌≡◌}
use Prim.Native.Nat.{ℕ, ◌≤◌}
use lib.Dec.{leb, lit<}
use lib.IntN.{ℤ, nat_abs}
use mir.Syntax.{w32}
use mir.Val.{SFits}
use borrow.Author.Tests.{leb-true}
use Rattle.quantity.specs.Range.{Range, within, within_signed}
use Rattle.coefficient.specs.declared.Settings.{Settings}
use Rattle.members.specs.declared.Column.{Column}
use Rattle.members.specs.declared.Beam.{Beam}
use Rattle.members.specs.declared.Joint.{Joint}
use Rattle.members.specs.declared.Hingeless.{Hingeless}
use Rattle.members.specs.declared.Detail.{Detail}
use Rattle.walls.specs.declared.WallBase.{WallBase}
use Rattle.walls.specs.declared.Storey.{Storey}
use Rattle.footing.specs.declared.Footing.{Footing}
use Rattle.basement.specs.declared.Basement.{Basement}
use Rattle.soil.specs.Reading.{soil_allowed}
use Rattle.layout.specs.Number.{signed32}
use Rattle.layout.specs.Forms.{form_in_range}
use Rattle.layout.specs.Layouts.{forms_of, forms_in}
use Rattle.format.specs.Commands.{SoilGiven, settings, joint, column, beam, hingeless, wall_base, storey, soil, footing, detail, basement, operands_of, command_of, related, in_range, settings_of, joint_of, column_of, beam_of, hingeless_of, wall_base_of, storey_of, soil_given_of, footing_of, detail_of, basement_of}
use Rattle.format.specs.Types.{FootingFits}
use Rattle.layout.proofs.Numbers.{signed_of_bits}
use Rattle.layout.proofs.OperandsRead.{at}
use Rattle.format.proofs.RangeTest.{and_first, and_second, EachIn, values_each, values_related}

-- ---- the ends of a range

least : (range : Range) (x : ℕ) → within range x ≡ true → range.least ≤ x
unfolding within
least range x h = leb-true range.least x (and_first (leb range.least x) (leb x range.greatest) h)

pub most : (range : Range) (x : ℕ) → within range x ≡ true → x ≤ range.greatest
unfolding within
most range x h = leb-true x range.greatest (and_second (leb range.least x) (leb x range.greatest) h)

size : (limit : ℕ) (z : ℤ) → within_signed limit z ≡ true → nat_abs z ≤ limit
unfolding within_signed
size limit z h = leb-true (nat_abs z) limit h

-- ---- the values of each command

pub record SettingsOperands (s : Settings) : Type 0 where
  pub behaviour_least : 100 ≤ s.behaviour
  pub behaviour_greatest : s.behaviour ≤ 400
  pub joints_least : 100 ≤ s.joints
  pub joints_greatest : s.joints ≤ 200
  pub foundations_least : 100 ≤ s.foundations
  pub foundations_greatest : s.foundations ≤ 200

pub record JointOperands (j : Joint) : Type 0 where
  pub beams : j.beams ≤ 100000000
  pub columns : j.columns ≤ 100000000
  pub seismic : j.seismic ≤ 100000000

pub record ColumnOperands (c : Column) : Type 0 where
  pub length_least : 500 ≤ c.length
  pub length_greatest : c.length ≤ 100000
  pub plus1 : c.plus1 ≤ 100000000
  pub plus2 : c.plus2 ≤ 100000000
  pub minus1 : c.minus1 ≤ 100000000
  pub minus2 : c.minus2 ≤ 100000000
  pub shear : c.shear ≤ 100000000
  pub strength : c.strength ≤ 100000000

pub record BeamOperands (b : Beam) : Type 0 where
  pub length_least : 500 ≤ b.length
  pub length_greatest : b.length ≤ 100000
  pub plus1 : b.plus1 ≤ 100000000
  pub plus2 : b.plus2 ≤ 100000000
  pub minus1 : b.minus1 ≤ 100000000
  pub minus2 : b.minus2 ≤ 100000000
  pub nonseismic : nat_abs b.nonseismic ≤ 100000000
  pub shear : b.shear ≤ 100000000
  pub strength : b.strength ≤ 100000000

pub record HingelessOperands (m : Hingeless) : Type 0 where
  pub length_least : 500 ≤ m.length
  pub length_greatest : m.length ≤ 100000
  pub moment1 : m.moment1 ≤ 100000000
  pub moment2 : m.moment2 ≤ 100000000
  pub nonseismic : nat_abs m.nonseismic ≤ 100000000
  pub strength : m.strength ≤ 100000000

pub record WallBaseOperands (b : WallBase) : Type 0 where
  pub length_least : 100 ≤ b.length
  pub length_greatest : b.length ≤ 10000
  pub thickness_least : 100 ≤ b.thickness
  pub thickness_greatest : b.thickness ≤ 10000
  pub resistance : b.resistance ≤ 100000000
  pub moment : b.moment ≤ 100000000
  pub shear : b.shear ≤ 100000000
  pub strength : b.strength ≤ 100000000

pub record StoreyOperands (s : Storey) : Type 0 where
  pub moment : s.moment ≤ 100000000
  pub shear : s.shear ≤ 100000000
  pub inertia_least : 1 ≤ s.inertia
  pub inertia_greatest : s.inertia ≤ s.base_inertia
  pub base_inertia : s.base_inertia ≤ 4294967295
  pub strength : s.strength ≤ 100000000
  pub resistance : s.resistance ≤ 100000000

pub record SoilGivenOperands (s : SoilGiven) : Type 0 where
  pub kind : s.kind ≤ 1
  pub sensitive : s.sensitive ≤ 1
  pub allowed : soil_allowed s.kind s.value ≡ true

pub record FootingOperands (f : Footing) : Type 0 where
  pub breadth_least : 500 ≤ f.breadth
  pub breadth_greatest : f.breadth ≤ 20000
  pub length_least : 500 ≤ f.length
  pub length_greatest : f.length ≤ 20000
  pub resistance : f.resistance ≤ 100000000
  pub moment : f.moment ≤ 100000000
  pub nv : nat_abs f.nv ≤ 100000000
  pub ne : nat_abs f.ne ≤ 100000000
  pub xv : nat_abs f.xv ≤ 100000000
  pub xe : nat_abs f.xe ≤ 100000000
  pub yv : nat_abs f.yv ≤ 100000000
  pub ye : nat_abs f.ye ≤ 100000000
  pub hv : nat_abs f.hv ≤ 100000000
  pub he : nat_abs f.he ≤ 100000000
  pub uplift : f.uplift ≤ 100000000
  pub passive : f.passive ≤ 100000000
  pub flags : f.flags ≤ 7

pub record DetailOperands (d : Detail) : Type 0 where
  pub place : d.place ≤ 2
  pub ultimate : d.ultimate ≤ 1000
  pub yielded : d.yielded ≤ 1000
  pub ductility_least : 1000 ≤ d.ductility
  pub ductility_greatest : d.ductility ≤ 2000
  pub lap : d.lap ≤ 1

pub record BasementOperands (m : Basement) : Type 0 where
  pub place : m.place ≤ 1
  pub nonseismic_shear : nat_abs m.nonseismic_shear ≤ 100000000
  pub seismic_shear : m.seismic_shear ≤ 100000000
  pub nonseismic_moment : nat_abs m.nonseismic_moment ≤ 100000000
  pub seismic_moment : m.seismic_moment ≤ 100000000
  pub shear_strength : m.shear_strength ≤ 100000000
  pub moment_strength : m.moment_strength ≤ 100000000

-- ---- from the test of each operand, and the relation

pub settings_operands : (v : ℕ → ℕ) → EachIn 1 v → SettingsOperands (settings_of v)
unfolding forms_of forms_in form_in_range
settings_operands v h =
    record {
      behaviour_least = least _ (v 0) (h 0 (lit< tt));
      behaviour_greatest = most _ (v 0) (h 0 (lit< tt));
      joints_least = least _ (v 1) (h 1 (lit< tt));
      joints_greatest = most _ (v 1) (h 1 (lit< tt));
      foundations_least = least _ (v 2) (h 2 (lit< tt));
      foundations_greatest = most _ (v 2) (h 2 (lit< tt));
    }

pub joint_operands : (v : ℕ → ℕ) → EachIn 2 v → JointOperands (joint_of v)
unfolding forms_of forms_in form_in_range
joint_operands v h =
    record {
      beams = most _ (v 1) (h 1 (lit< tt));
      columns = most _ (v 2) (h 2 (lit< tt));
      seismic = most _ (v 3) (h 3 (lit< tt));
    }

pub column_operands : (v : ℕ → ℕ) → EachIn 3 v → ColumnOperands (column_of v)
unfolding forms_of forms_in form_in_range
column_operands v h =
    record {
      length_least = least _ (v 0) (h 0 (lit< tt));
      length_greatest = most _ (v 0) (h 0 (lit< tt));
      plus1 = most _ (v 1) (h 1 (lit< tt));
      plus2 = most _ (v 2) (h 2 (lit< tt));
      minus1 = most _ (v 3) (h 3 (lit< tt));
      minus2 = most _ (v 4) (h 4 (lit< tt));
      shear = most _ (v 5) (h 5 (lit< tt));
      strength = most _ (v 6) (h 6 (lit< tt));
    }

pub beam_operands : (v : ℕ → ℕ) → EachIn 4 v → BeamOperands (beam_of v)
unfolding forms_of forms_in form_in_range
beam_operands v h =
    record {
      length_least = least _ (v 0) (h 0 (lit< tt));
      length_greatest = most _ (v 0) (h 0 (lit< tt));
      plus1 = most _ (v 1) (h 1 (lit< tt));
      plus2 = most _ (v 2) (h 2 (lit< tt));
      minus1 = most _ (v 3) (h 3 (lit< tt));
      minus2 = most _ (v 4) (h 4 (lit< tt));
      nonseismic = size _ (signed32 (v 5)) (h 5 (lit< tt));
      shear = most _ (v 6) (h 6 (lit< tt));
      strength = most _ (v 7) (h 7 (lit< tt));
    }

pub hingeless_operands : (v : ℕ → ℕ) → EachIn 5 v → HingelessOperands (hingeless_of v)
unfolding forms_of forms_in form_in_range
hingeless_operands v h =
    record {
      length_least = least _ (v 0) (h 0 (lit< tt));
      length_greatest = most _ (v 0) (h 0 (lit< tt));
      moment1 = most _ (v 3) (h 3 (lit< tt));
      moment2 = most _ (v 4) (h 4 (lit< tt));
      nonseismic = size _ (signed32 (v 5)) (h 5 (lit< tt));
      strength = most _ (v 6) (h 6 (lit< tt));
    }

pub wall_base_operands : (v : ℕ → ℕ) → EachIn 6 v → WallBaseOperands (wall_base_of v)
unfolding forms_of forms_in form_in_range
wall_base_operands v h =
    record {
      length_least = least _ (v 0) (h 0 (lit< tt));
      length_greatest = most _ (v 0) (h 0 (lit< tt));
      thickness_least = least _ (v 1) (h 1 (lit< tt));
      thickness_greatest = most _ (v 1) (h 1 (lit< tt));
      resistance = most _ (v 2) (h 2 (lit< tt));
      moment = most _ (v 3) (h 3 (lit< tt));
      shear = most _ (v 4) (h 4 (lit< tt));
      strength = most _ (v 5) (h 5 (lit< tt));
    }

pub storey_operands : (v : ℕ → ℕ) → EachIn 7 v → related (command_of 7 v) ≡ true → StoreyOperands (storey_of v)
unfolding forms_of forms_in form_in_range related command_of
storey_operands v h r =
    record {
      moment = most _ (v 0) (h 0 (lit< tt));
      shear = most _ (v 1) (h 1 (lit< tt));
      inertia_least = least _ (v 2) (h 2 (lit< tt));
      inertia_greatest = leb-true (v 2) (v 3) r;
      base_inertia = most _ (v 3) (h 3 (lit< tt));
      strength = most _ (v 4) (h 4 (lit< tt));
      resistance = most _ (v 5) (h 5 (lit< tt));
    }

pub soil_operands : (v : ℕ → ℕ) → EachIn 8 v → related (command_of 8 v) ≡ true → SoilGivenOperands (soil_given_of v)
unfolding forms_of forms_in form_in_range related command_of
soil_operands v h r =
    record {
      kind = most _ (v 0) (h 0 (lit< tt));
      sensitive = most _ (v 2) (h 2 (lit< tt));
      allowed = r;
    }

pub footing_operands : (v : ℕ → ℕ) → EachIn 9 v → FootingOperands (footing_of v)
unfolding forms_of forms_in form_in_range
footing_operands v h =
    record {
      breadth_least = least _ (v 0) (h 0 (lit< tt));
      breadth_greatest = most _ (v 0) (h 0 (lit< tt));
      length_least = least _ (v 1) (h 1 (lit< tt));
      length_greatest = most _ (v 1) (h 1 (lit< tt));
      resistance = most _ (v 2) (h 2 (lit< tt));
      moment = most _ (v 3) (h 3 (lit< tt));
      nv = size _ (signed32 (v 4)) (h 4 (lit< tt));
      ne = size _ (signed32 (v 5)) (h 5 (lit< tt));
      xv = size _ (signed32 (v 6)) (h 6 (lit< tt));
      xe = size _ (signed32 (v 7)) (h 7 (lit< tt));
      yv = size _ (signed32 (v 8)) (h 8 (lit< tt));
      ye = size _ (signed32 (v 9)) (h 9 (lit< tt));
      hv = size _ (signed32 (v 10)) (h 10 (lit< tt));
      he = size _ (signed32 (v 11)) (h 11 (lit< tt));
      uplift = most _ (v 12) (h 12 (lit< tt));
      passive = most _ (v 13) (h 13 (lit< tt));
      flags = most _ (v 14) (h 14 (lit< tt));
    }

pub detail_operands : (v : ℕ → ℕ) → EachIn 10 v → DetailOperands (detail_of v)
unfolding forms_of forms_in form_in_range
detail_operands v h =
    record {
      place = most _ (v 0) (h 0 (lit< tt));
      ultimate = most _ (v 1) (h 1 (lit< tt));
      yielded = most _ (v 2) (h 2 (lit< tt));
      ductility_least = least _ (v 3) (h 3 (lit< tt));
      ductility_greatest = most _ (v 3) (h 3 (lit< tt));
      lap = most _ (v 4) (h 4 (lit< tt));
    }

pub basement_operands : (v : ℕ → ℕ) → EachIn 12 v → BasementOperands (basement_of v)
unfolding forms_of forms_in form_in_range
basement_operands v h =
    record {
      place = most _ (v 0) (h 0 (lit< tt));
      nonseismic_shear = size _ (signed32 (v 2)) (h 2 (lit< tt));
      seismic_shear = most _ (v 3) (h 3 (lit< tt));
      nonseismic_moment = size _ (signed32 (v 4)) (h 4 (lit< tt));
      seismic_moment = most _ (v 5) (h 5 (lit< tt));
      shear_strength = most _ (v 6) (h 6 (lit< tt));
      moment_strength = most _ (v 7) (h 7 (lit< tt));
    }

-- ---- from the test of a command's values; a signed value is one of 32 bits

pub settings_in_range : (s : Settings) → in_range (settings s) ≡ true → SettingsOperands s
settings_in_range s h = settings_operands (at (operands_of (settings s))) (values_each (settings s) h)

pub joint_in_range : (id : ℕ) (j : Joint) → in_range (joint id j) ≡ true → JointOperands j
joint_in_range id j h = joint_operands (at (operands_of (joint id j))) (values_each (joint id j) h)

pub column_in_range : (c : Column) → in_range (column c) ≡ true → ColumnOperands c
column_in_range c h = column_operands (at (operands_of (column c))) (values_each (column c) h)

pub beam_in_range : (b : Beam) → SFits w32 b.nonseismic → in_range (beam b) ≡ true → BeamOperands b
beam_in_range b f h =
    rw (signed_of_bits f) at
    (beam_operands (at (operands_of (beam b))) (values_each (beam b) h))

pub hingeless_in_range : (id1 id2 : ℕ) (m : Hingeless) → SFits w32 m.nonseismic → in_range (hingeless id1 id2 m) ≡ true → HingelessOperands m
hingeless_in_range id1 id2 m f h =
    rw (signed_of_bits f) at
    (hingeless_operands (at (operands_of (hingeless id1 id2 m))) (values_each (hingeless id1 id2 m) h))

pub wall_base_in_range : (b : WallBase) → in_range (wall_base b) ≡ true → WallBaseOperands b
wall_base_in_range b h = wall_base_operands (at (operands_of (wall_base b))) (values_each (wall_base b) h)

pub storey_in_range : (s : Storey) → in_range (storey s) ≡ true → StoreyOperands s
unfolding command_of
storey_in_range s h = storey_operands (at (operands_of (storey s))) (values_each (storey s) h) (values_related (storey s) h)

pub soil_in_range : (s : SoilGiven) → in_range (soil s) ≡ true → SoilGivenOperands s
unfolding command_of
soil_in_range s h = soil_operands (at (operands_of (soil s))) (values_each (soil s) h) (values_related (soil s) h)

pub footing_in_range : (f : Footing) → FootingFits f → in_range (footing f) ≡ true → FootingOperands f
footing_in_range f p h =
    rw (signed_of_bits p.nv, signed_of_bits p.ne, signed_of_bits p.xv, signed_of_bits p.xe, signed_of_bits p.yv, signed_of_bits p.ye, signed_of_bits p.hv, signed_of_bits p.he) at
    (footing_operands (at (operands_of (footing f))) (values_each (footing f) h))

pub detail_in_range : (d : Detail) → in_range (detail d) ≡ true → DetailOperands d
detail_in_range d h = detail_operands (at (operands_of (detail d))) (values_each (detail d) h)

pub basement_in_range : (id : ℕ) (m : Basement) → SFits w32 m.nonseismic_shear → SFits w32 m.nonseismic_moment → in_range (basement id m) ≡ true → BasementOperands m
basement_in_range id m f g h =
    rw (signed_of_bits f, signed_of_bits g) at
    (basement_operands (at (operands_of (basement id m))) (values_each (basement id m) h))
