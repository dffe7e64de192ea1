-- The operands of the figures. 01, "Figures to hold to". An operand that the paper leaves open is an argument here.
use Rattle.std.specs.Prelude.{ℕ, ℤ, pos, neg_ℤ}
use Rattle.coefficient.specs.declared.Settings.{Settings}
use Rattle.members.specs.declared.Column.{Column}
use Rattle.members.specs.declared.Beam.{Beam}
use Rattle.members.specs.declared.Joint.{Joint}
use Rattle.members.specs.declared.Hingeless.{Hingeless}
use Rattle.members.specs.declared.Detail.{Detail}
use Rattle.walls.specs.declared.WallBase.{WallBase}
use Rattle.walls.specs.declared.Storey.{Storey}
use Rattle.footing.specs.declared.Footing.{Footing}

-- q 350, gj 140, gf 120
abbrev pub settings : Settings
settings = record { behaviour = 350; joints = 140; foundations = 120 }

abbrev pub q : ℕ
q = settings.behaviour

-- V0 of the beam and of the member without hinges: −5,000
abbrev pub nonseismic : ℤ
nonseismic = neg_ℤ (pos 5000)

-- VR is open
abbrev pub column : ℕ → Column
column VR = record { length = 3000; plus1 = 200000; plus2 = 200000; minus1 = 180000; minus2 = 210000; shear = 80000; strength = VR }

-- the four R, whose sums are given, and VR
abbrev pub beam : (r1 r2 r3 r4 VR : ℕ) → Beam
beam r1 r2 r3 r4 VR =
    record { length = 7000; plus1 = r1; plus2 = r2; minus1 = r3; minus2 = r4; nonseismic = nonseismic; shear = 1; strength = VR }

abbrev pub first_joint : Joint
first_joint = record { beams = 300000; columns = 250000; seismic = 200000 }

-- RB and RC are open
abbrev pub other_joint : (RB RC : ℕ) → Joint
other_joint RB RC = record { beams = RB; columns = RC; seismic = 0 }

-- VR is open
abbrev pub hingeless : ℕ → Hingeless
hingeless VR = record { length = 3000; moment1 = 100000; moment2 = 10000; nonseismic = nonseismic; strength = VR }

-- the wall with this ME; length, thickness and VR are open
abbrev pub wall : (ME length thickness VR : ℕ) → WallBase
wall ME length thickness VR =
    record { length = length; thickness = thickness; resistance = 5000000; moment = ME; shear = 900000; strength = VR }

-- ME, VR and MS are open
abbrev pub storey : (J J0 ME VR MS : ℕ) → Storey
storey J J0 ME VR MS = record { moment = ME; shear = 100000; inertia = J; base_inertia = J0; strength = VR; resistance = MS }

-- with these flags
abbrev pub footing : ℕ → Footing
footing flags =
    record {
      breadth = 2000;
      length = 3000;
      resistance = 400000;
      moment = 200000;
      nv = pos 1000000;
      ne = pos 100000;
      xv = pos 50000;
      xe = pos 20000;
      yv = pos 0;
      ye = pos 0;
      hv = pos 20000;
      he = pos 60000;
      uplift = 0;
      passive = 100000;
      flags = flags;
    }

-- place and lap are open
abbrev pub detail : (xu place lap : ℕ) → Detail
detail xu place lap = record { place = place; ultimate = xu; yielded = 250; ductility = 1000; lap = lap }
