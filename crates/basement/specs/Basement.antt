-- Basement member (B.2 [4]). 02, No. 9: it is sized "by the coefficient of the nearest possible hinge"; "It writes a shear row and then a
-- moment row, word 1 being 0C: VV + a·VE up, VV − a·VE down, VR, and the same for the moments." "Bit 1 in the shear row and bit 2 in the
-- moment row tell that upper or minus lower exceeds the strength." Here a is given, and not which hinge it is of.
use Rattle.std.specs.Prelude.{◌||◌, [], ◌∷◌, ℕ, ℤ, pos, neg_ℤ}
use Rattle.std.specs.Int.Signed.{lt_z}
use Rattle.exact.specs.Fraction.{Fraction, whole}
use Rattle.exact.specs.SignedFraction.{SignedFraction, whole_s, signed, neg_s, ◌≤S◌, ◌<S◌, ◌+S◌, up_s, down_s}
use Rattle.claims.specs.declared.Row.{Row}
use Rattle.claims.specs.Verdict.{flag}
use Rattle.claims.specs.Exact.{value}
use Rattle.claims.specs.Claims.{Claims, plain, operand, check}
use Rattle.actions.specs.declared.Sign.TheVariants.{Plus, Minus}
use Rattle.actions.specs.Action.{action}
use Rattle.basement.specs.declared.Basement.{Basement}

-- the exact upper and lower value, V + a·E and V − a·E
abbrev pub upper_value : Fraction → ℤ → ℕ → SignedFraction
upper_value a v e = action Plus a v (pos e)

abbrev pub lower_value : Fraction → ℤ → ℕ → SignedFraction
lower_value a v e = action Minus a v (pos e)

-- words: upper, lower, the strength; the bit where upper or minus lower exceeds it
unfoldable pub basement_row : (bit : ℕ) → Fraction → (v : ℤ) (e strength : ℕ) → Row
basement_row bit a v e strength =
    let upper = up_s (upper_value a v e) in
    let lower = down_s (lower_value a v e) in
    record {
      word2 = upper;
      word3 = lower;
      word4 = pos strength;
      word5 = pos 0;
      word6 = pos 0;
      verdict = pos (flag bit (lt_z (pos strength) upper || lt_z (pos strength) (neg_ℤ lower)));
    }

-- VV, VE, VR with bit 1, and MV, ME, MR with bit 2
abbrev pub basement_shear_row : Fraction → Basement → Row
basement_shear_row a m = basement_row 1 a m.nonseismic_shear m.seismic_shear m.shear_strength

abbrev pub basement_moment_row : Fraction → Basement → Row
basement_moment_row a m = basement_row 2 a m.nonseismic_moment m.seismic_moment m.moment_strength

-- two checks a row: upper against the strength, and minus lower against it, each within one unit
unfoldable pub basement_claims : (bit : ℕ) → Fraction → (v : ℤ) (e strength : ℕ) → Row → Claims
basement_claims bit a v e strength r =
    record {
      demands = [];
      checks =
          check bit (plain r.word2 (value (upper_value a v e)) (whole 1)) (operand r.word4 strength)
          ∷ check bit (plain (neg_ℤ r.word3) (value (neg_s (lower_value a v e))) (whole 1)) (operand r.word4 strength)
          ∷ [];
      verdict = r.verdict;
    }

abbrev pub basement_shear_claims : Fraction → Basement → Row → Claims
basement_shear_claims a m r = basement_claims 1 a m.nonseismic_shear m.seismic_shear m.shear_strength r

abbrev pub basement_moment_claims : Fraction → Basement → Row → Claims
basement_moment_claims a m r = basement_claims 2 a m.nonseismic_moment m.seismic_moment m.moment_strength r

-- "Both reported values stray from the exact by under one unit, away from safety never": upper is at least the exact one and less than
-- one above it, lower is at most the exact one and less than one below it
pub record Strays (a : Fraction) (v : ℤ) (e : ℕ) (r : Row) : Type 0 where
  pub upper_safe : upper_value a v e ≤S whole_s r.word2
  pub upper_under_one : whole_s r.word2 <S (upper_value a v e +S signed (whole 1))
  pub lower_safe : whole_s r.word3 ≤S lower_value a v e
  pub lower_under_one : lower_value a v e <S (whole_s r.word3 +S signed (whole 1))
