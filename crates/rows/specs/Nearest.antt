-- The coefficient of the nearest possible hinge, which a basement member takes. 02, No. 9: "place u8 (0 joint, 1 latest wall)"; "A joint
-- uses a of the members without hinges, a wall that of its base." Rows and demand 3 are both made with it.
use Rattle.std.specs.Prelude.{cond, ℕ, eqb, Option}
use Rattle.std.specs.Option.{option_map}
use Rattle.exact.specs.Fraction.{Fraction}
use Rattle.coefficient.specs.declared.Settings.{Settings}
use Rattle.members.specs.Hingeless.{joint_coefficient}
use Rattle.walls.specs.Base.{wall_coefficient}
use Rattle.context.specs.Context.{Context}

-- that of the joint with this id, or of the latest wall, as they hold at the command; none where it is not given
abbrev pub nearest_coefficient : Context → Settings → (id place : ℕ) → Option Fraction
nearest_coefficient h s id place =
    cond (eqb place 0) (option_map (joint_coefficient s) (h.joints id)) (option_map (wall_coefficient s.behaviour) h.wall)
