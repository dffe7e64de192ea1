-- The commands of a job, with named operands; their order in the file; the range test, which is a test of a command's values; and
-- the operand at fault. 01, "Job commands"; 02, No. 9 and No. 10. The type itself is the code's (src/lib.rt).
use Rattle.std.specs.Prelude.{Bool, true, false, ◌&&◌, ◌||◌, cond, List, [], ◌∷◌, ℕ, suc, eqb, leb, ltb, length, Option, Some, None}
use Rattle.soil.specs.Reading.{soil_allowed}
use Rattle.coefficient.specs.declared.Settings.{Settings}
use Rattle.members.specs.declared.Column.{Column}
use Rattle.members.specs.declared.Beam.{Beam}
use Rattle.members.specs.declared.Joint.{Joint}
use Rattle.members.specs.declared.Hingeless.{Hingeless}
use Rattle.members.specs.declared.Detail.{Detail}
use Rattle.walls.specs.declared.WallBase.{WallBase}
use Rattle.walls.specs.declared.Storey.{Storey}
use Rattle.footing.specs.declared.Footing.{Footing}
use Rattle.basement.specs.declared.Basement.{Basement}
use Rattle.layout.specs.declared.Form.{Form}
pub use Rattle.format.specs.declared.SoilGiven.{SoilGiven}
pub use Rattle.format.specs.declared.Command.{Command}
pub use Rattle.format.specs.declared.Command.TheVariants.{Finish as finish, Settings as settings, Joint as joint, Column as column, Beam as beam, Hingeless as hingeless, WallBase as wall_base, Storey as storey, Soil as soil, Footing as footing, Detail as detail, Basement as basement, Building as building}
use Rattle.layout.specs.Number.{signed32, bits32}
use Rattle.layout.specs.Forms.{form_in_range}
use Rattle.layout.specs.Layouts.{forms_of}

abbrev pub byte_of : Command → ℕ
byte_of finish = 0
byte_of (settings s) = 1
byte_of (joint id j) = 2
byte_of (column c) = 3
byte_of (beam b) = 4
byte_of (hingeless id1 id2 m) = 5
byte_of (wall_base b) = 6
byte_of (storey s) = 7
byte_of (soil s) = 8
byte_of (footing f) = 9
byte_of (detail d) = 10
byte_of (basement id m) = 12
byte_of building = 13

-- the operands in the file's order, as they stand in it
abbrev pub operands_of : Command → List ℕ
operands_of finish = []
operands_of (settings s) = s.behaviour ∷ s.joints ∷ s.foundations ∷ []
operands_of (joint id j) = id ∷ j.beams ∷ j.columns ∷ j.seismic ∷ []
operands_of (column c) = c.length ∷ c.plus1 ∷ c.plus2 ∷ c.minus1 ∷ c.minus2 ∷ c.shear ∷ c.strength ∷ []
operands_of (beam b) = b.length ∷ b.plus1 ∷ b.plus2 ∷ b.minus1 ∷ b.minus2 ∷ bits32 b.nonseismic ∷ b.shear ∷ b.strength ∷ []
operands_of (hingeless id1 id2 m) = m.length ∷ id1 ∷ id2 ∷ m.moment1 ∷ m.moment2 ∷ bits32 m.nonseismic ∷ m.strength ∷ []
operands_of (wall_base b) = b.length ∷ b.thickness ∷ b.resistance ∷ b.moment ∷ b.shear ∷ b.strength ∷ []
operands_of (storey s) = s.moment ∷ s.shear ∷ s.inertia ∷ s.base_inertia ∷ s.strength ∷ s.resistance ∷ []
operands_of (soil s) = s.kind ∷ s.value ∷ s.sensitive ∷ []
operands_of (footing f) =
    f.breadth ∷ f.length ∷ f.resistance ∷ f.moment ∷ bits32 f.nv ∷ bits32 f.ne ∷ bits32 f.xv ∷ bits32 f.xe ∷ bits32 f.yv ∷ bits32 f.ye ∷ bits32 f.hv ∷ bits32 f.he ∷ f.uplift ∷ f.passive ∷ f.flags ∷ []
operands_of (detail d) = d.place ∷ d.ultimate ∷ d.yielded ∷ d.ductility ∷ d.lap ∷ []
operands_of (basement id m) =
    m.place ∷ id ∷ bits32 m.nonseismic_shear ∷ m.seismic_shear ∷ bits32 m.nonseismic_moment ∷ m.seismic_moment ∷ m.shear_strength ∷ m.moment_strength ∷ []
operands_of building = []

-- ---- the commands from their operands: v i is operand i, counted from 0

abbrev pub settings_of : (ℕ → ℕ) → Settings
settings_of v = record { behaviour = v 0; joints = v 1; foundations = v 2 }

abbrev pub joint_of : (ℕ → ℕ) → Joint
joint_of v = record { beams = v 1; columns = v 2; seismic = v 3 }

abbrev pub column_of : (ℕ → ℕ) → Column
column_of v = record { length = v 0; plus1 = v 1; plus2 = v 2; minus1 = v 3; minus2 = v 4; shear = v 5; strength = v 6 }

abbrev pub beam_of : (ℕ → ℕ) → Beam
beam_of v = record { length = v 0; plus1 = v 1; plus2 = v 2; minus1 = v 3; minus2 = v 4; nonseismic = signed32 (v 5); shear = v 6; strength = v 7 }

abbrev pub hingeless_of : (ℕ → ℕ) → Hingeless
hingeless_of v = record { length = v 0; moment1 = v 3; moment2 = v 4; nonseismic = signed32 (v 5); strength = v 6 }

abbrev pub wall_base_of : (ℕ → ℕ) → WallBase
wall_base_of v = record { length = v 0; thickness = v 1; resistance = v 2; moment = v 3; shear = v 4; strength = v 5 }

abbrev pub storey_of : (ℕ → ℕ) → Storey
storey_of v = record { moment = v 0; shear = v 1; inertia = v 2; base_inertia = v 3; strength = v 4; resistance = v 5 }

abbrev pub soil_given_of : (ℕ → ℕ) → SoilGiven
soil_given_of v = record { kind = v 0; value = v 1; sensitive = v 2 }

abbrev pub footing_of : (ℕ → ℕ) → Footing
footing_of v =
    record {
      breadth = v 0;
      length = v 1;
      resistance = v 2;
      moment = v 3;
      nv = signed32 (v 4);
      ne = signed32 (v 5);
      xv = signed32 (v 6);
      xe = signed32 (v 7);
      yv = signed32 (v 8);
      ye = signed32 (v 9);
      hv = signed32 (v 10);
      he = signed32 (v 11);
      uplift = v 12;
      passive = v 13;
      flags = v 14;
    }

abbrev pub detail_of : (ℕ → ℕ) → Detail
detail_of v = record { place = v 0; ultimate = v 1; yielded = v 2; ductility = v 3; lap = v 4 }

abbrev pub basement_of : (ℕ → ℕ) → Basement
basement_of v =
    record {
      place = v 0;
      nonseismic_shear = signed32 (v 2);
      seismic_shear = v 3;
      nonseismic_moment = signed32 (v 4);
      seismic_moment = v 5;
      shear_strength = v 6;
      moment_strength = v 7;
    }

unfoldable pub command_of : ℕ → (ℕ → ℕ) → Command
command_of byte v =
    cond (eqb byte 1) (settings (settings_of v))
    (cond (eqb byte 2) (joint (v 0) (joint_of v))
    (cond (eqb byte 3) (column (column_of v))
    (cond (eqb byte 4) (beam (beam_of v))
    (cond (eqb byte 5) (hingeless (v 1) (v 2) (hingeless_of v))
    (cond (eqb byte 6) (wall_base (wall_base_of v))
    (cond (eqb byte 7) (storey (storey_of v))
    (cond (eqb byte 8) (soil (soil_given_of v))
    (cond (eqb byte 9) (footing (footing_of v))
    (cond (eqb byte 10) (detail (detail_of v))
    (cond (eqb byte 12) (basement (v 1) (basement_of v))
    (cond (eqb byte 13) building
    finish)))))))))))

-- ---- the range test

-- the relation between operands where there is one: J ≤ J0; the soil value by its kind; the id of a basement member, 0 for a wall
unfoldable pub related : Command → Bool
related finish = true
related (settings s) = true
related (joint id j) = true
related (column c) = true
related (beam b) = true
related (hingeless id1 id2 m) = true
related (wall_base b) = true
related (storey s) = leb s.inertia s.base_inertia
related (soil s) = soil_allowed s.kind s.value
related (footing f) = true
related (detail d) = true
related (basement id m) = eqb m.place 0 || eqb id 0
related building = true

unfoldable pub all_in_range : List Form → List ℕ → Bool
unfolding form_in_range
all_in_range [] vs = true
all_in_range (f ∷ fs) [] = false
all_in_range (f ∷ fs) (v ∷ vs) = form_in_range f v && all_in_range fs vs

-- each operand in the range of its form, and the relation
unfoldable pub in_range : Command → Bool
unfolding all_in_range forms_of related
in_range c = all_in_range (forms_of (byte_of c)) (operands_of c) && related c

-- ---- the operand at fault of a command that is out of range

-- the first operand out of the range of its form, counted from 0; how many there are where none is
unfoldable pub first_outside : List Form → List ℕ → ℕ
unfolding form_in_range
first_outside [] vs = 0
first_outside (f ∷ fs) [] = 0
first_outside (f ∷ fs) (v ∷ vs) = cond (form_in_range f v) (suc (first_outside fs vs)) 0

-- the operand that the relation names where there is one, by the command's byte: J of a storey, the value of a soil, the id of a basement
-- member
unfoldable pub relation_operand : ℕ → Option ℕ
relation_operand byte = cond (eqb byte 7) (Some 2) (cond (eqb byte 8) (Some 1) (cond (eqb byte 12) (Some 1) None))

unfoldable pub relation_names : ℕ → ℕ
relation_names byte = cond (eqb byte 7) 2 (cond (eqb byte 8) 1 (cond (eqb byte 12) 1 0))

-- first the operands by their own ranges, in order; then, where all are in range, the relation
unfoldable pub operand_at_fault : Command → ℕ
unfolding forms_of first_outside
operand_at_fault c =
    let first = first_outside (forms_of (byte_of c)) (operands_of c) in
    cond (ltb first (length (forms_of (byte_of c)))) first (relation_names (byte_of c))
