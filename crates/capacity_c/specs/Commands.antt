-- The commands of the values that a program in another language gives, and what it gets back: an id above 255, which no command can
-- hold, makes none. 02, No. 2 and No. 9. Assumes nothing.
use Rattle.std.specs.Prelude.{cond, ◌&&◌, leb}
use Rattle.std.proofs.Math.Option.{Option, none, some}
use Rattle.std.specs.Float.{binary32}
use Rattle.std.specs.Float.Ieee.{to_bits}
use Rattle.members.specs.declared.Joint.{Joint}
use Rattle.members.specs.declared.Hingeless.{Hingeless}
use Rattle.basement.specs.declared.Basement.{Basement}
use Rattle.format.specs.declared.Command.{Command}
use Rattle.format.specs.declared.Command.TheVariants.{Settings as settings, Joint as joint, Column as column, Beam as beam, Hingeless as hingeless, WallBase as wall_base, Storey as storey, Soil as soil, Footing as footing, Detail as detail, Basement as basement}
use Rattle.blocks.specs.FileCommands.{FileCommand, one}
use Rattle.writing.specs.Answers as writing
use Rattle.capacity_c.specs.declared.writes.WriteAnswer.{WriteAnswer}
use Rattle.capacity_c.specs.declared.writes.SettingsOperands.{SettingsOperands}
use Rattle.capacity_c.specs.declared.writes.JointOperands.{JointOperands}
use Rattle.capacity_c.specs.declared.writes.ColumnOperands.{ColumnOperands}
use Rattle.capacity_c.specs.declared.writes.BeamOperands.{BeamOperands}
use Rattle.capacity_c.specs.declared.writes.HingelessOperands.{HingelessOperands}
use Rattle.capacity_c.specs.declared.writes.WallBaseOperands.{WallBaseOperands}
use Rattle.capacity_c.specs.declared.writes.StoreyOperands.{StoreyOperands}
use Rattle.capacity_c.specs.declared.writes.SoilOperands.{SoilOperands}
use Rattle.capacity_c.specs.declared.writes.FootingOperands.{FootingOperands}
use Rattle.capacity_c.specs.declared.writes.DetailOperands.{DetailOperands}
use Rattle.capacity_c.specs.declared.writes.BasementOperands.{BasementOperands}

-- ---- the answer as a struct

abbrev pub write_answer : writing.WriteAnswer → WriteAnswer
write_answer a = record { number = a.number; offset = a.offset; bytes = a.bytes }

-- ---- the command of each struct of values, where there is one

abbrev pub settings_command : SettingsOperands → Command
settings_command v = settings (record { behaviour = v.q; joints = v.gj; foundations = v.gf })

abbrev pub joint_of : JointOperands → Joint
joint_of v = record { beams = v.rb; columns = v.rc; seismic = v.eb }

abbrev pub joint_command : JointOperands → Option FileCommand
joint_command v = cond (leb v.id 255) (some (one (joint v.id (joint_of v)))) none

abbrev pub column_command : ColumnOperands → Command
column_command v =
    column (record {
      length = v.length;
      plus1 = v.r1plus;
      plus2 = v.r2plus;
      minus1 = v.r1minus;
      minus2 = v.r2minus;
      shear = v.ve;
      strength = v.vr;
    })

abbrev pub beam_command : BeamOperands → Command
beam_command v =
    beam (record {
      length = v.length;
      plus1 = v.r1plus;
      plus2 = v.r2plus;
      minus1 = v.r1minus;
      minus2 = v.r2minus;
      nonseismic = v.v0;
      shear = v.ve;
      strength = v.vr;
    })

abbrev pub hingeless_of : HingelessOperands → Hingeless
hingeless_of v = record { length = v.length; moment1 = v.me1; moment2 = v.me2; nonseismic = v.v0; strength = v.vr }

abbrev pub hingeless_command : HingelessOperands → Option FileCommand
hingeless_command v = cond (leb v.id1 255 && leb v.id2 255) (some (one (hingeless v.id1 v.id2 (hingeless_of v)))) none

abbrev pub wall_base_command : WallBaseOperands → Command
wall_base_command v =
    wall_base (record {
      length = v.length;
      thickness = v.thickness;
      resistance = v.mr;
      moment = v.me;
      shear = v.ve;
      strength = v.vr;
    })

abbrev pub storey_command : StoreyOperands → Command
storey_command v =
    storey (record {
      moment = v.me;
      shear = v.ve;
      inertia = v.j;
      base_inertia = v.j0;
      strength = v.vr;
      resistance = v.ms;
    })

-- the 32 bits of the float; `to_bits` has one pattern for every NaN, which is out of range (proofs/NanRefused.antt)
abbrev pub soil_command : SoilOperands → Command
soil_command v = soil (record { kind = v.kind; value = to_bits binary32 v.value; sensitive = v.sensitive })

abbrev pub footing_command : FootingOperands → Command
footing_command v =
    footing (record {
      breadth = v.b;
      length = v.l;
      resistance = v.mr;
      moment = v.me;
      nv = v.nv;
      ne = v.ne;
      xv = v.xv;
      xe = v.xe;
      yv = v.yv;
      ye = v.ye;
      hv = v.hv;
      he = v.he;
      uplift = v.u;
      passive = v.p;
      flags = v.flags;
    })

abbrev pub detail_command : DetailOperands → Command
detail_command v = detail (record { place = v.place; ultimate = v.xu; yielded = v.xy; ductility = v.mu; lap = v.lap })

abbrev pub basement_of : BasementOperands → Basement
basement_of v =
    record {
      place = v.place;
      nonseismic_shear = v.vv;
      seismic_shear = v.ve;
      nonseismic_moment = v.mv;
      seismic_moment = v.me;
      shear_strength = v.vr;
      moment_strength = v.mr;
    }

abbrev pub basement_command : BasementOperands → Option FileCommand
basement_command v = cond (leb v.id 255) (some (one (basement v.id (basement_of v)))) none
