-- The running values of the latest wall, kept from its base command on: a, W and MR of 01, "Members", wall base and storey; 02,
-- No. 4. With them stands whether q governs a, which the base's own row tells and no storey asks; 02, No. 5.
use Rattle.std.specs.Prelude.{◌≡◌, ℕ, ◌≤◌}
use Rattle.exact.specs.Fraction.{◌≈F◌}
use Rattle.coefficient.specs.Coefficient.{fraction, Capped}
use Rattle.walls.specs.declared.Wall.{Wall}
use Rattle.walls.specs.declared.WallBase.{WallBase}
use Rattle.walls.specs.Base.{wall_coefficient, wall_governed, base_shear}

-- those of the wall with this base
unfoldable pub wall_of : ℕ → WallBase → Wall
wall_of q b =
    record {
      coefficient = record { num = (wall_coefficient q b).num; den = (wall_coefficient q b).den };
      shear = base_shear q b;
      resistance = b.resistance;
      governs = wall_governed q b;
    }

-- what the rows ask of them, those of a basement member too; met by those of every base in range
pub record WallRange (w : Wall) : Type 0 where
  pub coefficient : Capped w.coefficient
  pub shear : w.shear ≤ 400000000
  pub resistance : w.resistance ≤ 100000000

-- ---- the same running values

-- a as a number, whatever the terms of its fraction, W and MR
pub record SameValues (w v : Wall) : Type 0 where
  pub coefficient : fraction w.coefficient ≈F fraction v.coefficient
  pub shear : w.shear ≡ v.shear
  pub resistance : w.resistance ≡ v.resistance
