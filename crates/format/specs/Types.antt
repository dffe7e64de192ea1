-- The values that a command's types hold in the code: an id is a u8, a soil value 32 bits, a signed operand an i32. The range test
-- keeps every other operand within its width. Assumes nothing.
use Rattle.std.specs.Prelude.{◌<◌}
use Rattle.std.specs.Int.{w32}
use Rattle.std.proofs.Common.{SFits}
use Rattle.footing.specs.declared.Footing.{Footing}
use Rattle.format.specs.Commands.{Command, finish, settings, joint, column, beam, hingeless, wall_base, storey, soil, footing, detail, basement, building}

-- each signed value of a footing is one of 32 bits
pub record FootingFits (f : Footing) : Type 0 where
  pub nv : SFits w32 f.nv
  pub ne : SFits w32 f.ne
  pub xv : SFits w32 f.xv
  pub xe : SFits w32 f.xe
  pub yv : SFits w32 f.yv
  pub ye : SFits w32 f.ye
  pub hv : SFits w32 f.hv
  pub he : SFits w32 f.he

abbrev pub OfTypes : Command → Type 0
OfTypes finish = Unit {0}
OfTypes (settings s) = Unit {0}
OfTypes (joint id j) = id < 256
OfTypes (column c) = Unit {0}
OfTypes (beam b) = SFits w32 b.nonseismic
OfTypes (hingeless id1 id2 m) = (id1 < 256) × (id2 < 256) × SFits w32 m.nonseismic
OfTypes (wall_base b) = Unit {0}
OfTypes (storey s) = Unit {0}
OfTypes (soil s) = s.value < 4294967296
OfTypes (footing f) = FootingFits f
OfTypes (detail d) = Unit {0}
OfTypes (basement id m) = (id < 256) × SFits w32 m.nonseismic_shear × SFits w32 m.nonseismic_moment
OfTypes building = Unit {0}
