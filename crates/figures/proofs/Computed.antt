-- The figures of 01 hold: each follows by computing the rules at its operands. Assumes nothing.
use mathlib.Core.Path.{◌≡◌, refl}
use mathlib.Core.Bool.{Bool, true, false, ◌&&◌}
use Prim.Native.Nat.{◌+◌}
use native.Mathlib.Omega.{arith}
use lib.Dec.{eqb}
use lib.IntN.{pos}
use lib.Ieee.{binary32, of_bits}
use Rattle.exact.specs.Quotient.{up, down, up_ℤ, down_ℤ}
use Rattle.exact.specs.Fraction.{smaller}
use Rattle.soil.specs.Taken.{take_down}
use Rattle.soil.specs.Answers.{accepted, refused}
use Rattle.soil.proofs.Figures.{tangent_0_7, tangent_2, tangent_above_2, tangent_minus_0}
use Rattle.cubes.proofs.Figures.{same, half, eighth}
use Rattle.coefficient.specs.Coefficient.{coefficient_of, cap_governs}
use Rattle.claims.specs.Verdict.{flag}
use Rattle.claims.specs.Claims.{BitClear}
use Rattle.members.specs.Column.{column_row}
use Rattle.members.specs.Beam.{beam_row}
use Rattle.members.specs.Hingeless.{hingeless_row}
use Rattle.members.specs.Detail.{detail_row}
use Rattle.walls.specs.Base.{base_row}
use Rattle.walls.specs.Storey.{storey_row}
use Rattle.footing.specs.Rows.{footing_row, base_resistance}
use Rattle.figures.specs.Figures.{Figures}

-- bit 32 beside bit 64, which a lap sets
bit_32_clear : (lap : Bool) → BitClear 32 (pos (0 + flag 64 lap))
bit_32_clear true = refl
bit_32_clear false = refl

bit_32_set : (lap : Bool) → BitClear 32 (pos (32 + flag 64 lap)) → ⊥
bit_32_set true h = omega (arith, h)
bit_32_set false h = omega (arith, h)

tangent_0_5 : take_down 0 (of_bits binary32 0x3F00_0000) ≡ record { number = 0; offset = 0; value = 5000 }
unfolding take_down of_bits
tangent_0_5 = refl

pub figures : Figures
unfolding column_row beam_row hingeless_row detail_row base_row storey_row footing_row base_resistance coefficient_of cap_governs smaller up down up_ℤ down_ℤ accepted refused
figures =
    record {
      column_shear = λ VR. refl;
      beam_shears = λ r1 r2 r3 r4 VR plus minus. (rw plus, rw minus);
      hingeless_shears = λ RB RC VR. (refl, refl);
      wall_shear = λ length thickness VR. refl;
      cap_governs = λ length thickness VR. (refl, omega arith);
      cap_not = λ length thickness VR. (refl, omega arith);
      cap_governs_word = λ length thickness VR. refl;
      cap_not_word = λ length thickness VR. refl;
      storey_same = λ length thickness VRbase J ME VR MS h. (rw (same J h), rw (same J h));
      storey_eighth = λ length thickness VRbase J ME VR MS h. (rw (eighth J h), rw (eighth J h));
      storey_half = λ length thickness VRbase J ME VR MS h. (rw (half J h), rw (half J h));
      tangent = tangent_0_7;
      tangent_top = tangent_2;
      tangent_above = tangent_above_2;
      tangent_negative = tangent_minus_0;
      tangent_half = tangent_0_5;
      footing_plus = λ x sensitive t. ((refl, refl), (refl, rw t));
      footing_minus = λ x sensitive t. ((refl, refl), (refl, rw t));
      no_contact_plus = λ x sensitive t. ((refl, refl), (refl, rw t));
      no_contact_minus = λ x sensitive t. ((refl, refl), (refl, rw t));
      detail_passes = λ place lap. bit_32_clear (eqb place 2 && eqb lap 1);
      detail_fails = λ place lap h. bit_32_set (eqb place 2 && eqb lap 1) h;
    }
