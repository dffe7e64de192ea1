-- Beam (B.2). 01, "Members": D = smaller of 1200·S/length and q·VE/120. Upper V0 + D(plus) up, lower V0 − D(minus) down.
-- Words 5 and 6: 02, No. 5.
use Rattle.std.specs.Prelude.{Bool, ◌||◌, [], ◌∷◌, ℕ, ◌+◌, ◌*◌, ◌≤◌, pos, neg_ℤ, nat_abs}
use Rattle.std.specs.Int.Signed.{lt_z}
use Rattle.exact.specs.Fraction.{Fraction, whole, ratio, lt_f, smaller}
use Rattle.exact.specs.SignedFraction.{SignedFraction, whole_s, signed, neg_s, ◌+S◌, ◌-S◌, up_s, down_s}
use Rattle.claims.specs.declared.Row.{Row}
use Rattle.claims.specs.Verdict.{flag}
use Rattle.claims.specs.Exact.{value}
use Rattle.claims.specs.Claims.{Claims, plain, operand, check}
use Rattle.members.specs.declared.Beam.{Beam}

-- S, the sum R1 + R2 of a direction
abbrev pub sum_plus : Beam → ℕ
sum_plus b = b.plus1 + b.plus2

abbrev pub sum_minus : Beam → ℕ
sum_minus b = b.minus1 + b.minus2

-- the term of the resistances of a direction, by its S, and the cap, which both directions have
abbrev pub beam_term : ℕ → Beam → Fraction
beam_term sum b = ratio (1200 * sum) b.length

abbrev pub beam_cap : ℕ → Beam → Fraction
beam_cap q b = ratio (q * b.shear) 120

-- D of a direction
abbrev pub beam_shear : ℕ → ℕ → Beam → Fraction
beam_shear q sum b = smaller (beam_term sum b) (beam_cap q b)

-- whether the cap was strictly the smaller in a direction
abbrev pub beam_governed : ℕ → ℕ → Beam → Bool
beam_governed q sum b = lt_f (beam_cap q b) (beam_term sum b)

-- the exact upper and lower shears; `nonseismic` is V0, the shear of the non-seismic loads
abbrev pub upper_shear : ℕ → Beam → SignedFraction
upper_shear q b = whole_s b.nonseismic +S signed (beam_shear q (sum_plus b) b)

abbrev pub lower_shear : ℕ → Beam → SignedFraction
lower_shear q b = whole_s b.nonseismic -S signed (beam_shear q (sum_minus b) b)

-- words: upper, lower, VR, then 1 where the cap governs, in word 5 for plus and in word 6 for minus; bit 1 where upper or minus
-- lower exceeds VR
unfoldable pub beam_row : ℕ → Beam → Row
beam_row q b =
    let upper = up_s (upper_shear q b) in
    let lower = down_s (lower_shear q b) in
    record {
      word2 = upper;
      word3 = lower;
      word4 = pos b.strength;
      word5 = pos (flag 1 (beam_governed q (sum_plus b) b));
      word6 = pos (flag 1 (beam_governed q (sum_minus b) b));
      verdict = pos (flag 1 (lt_z (pos b.strength) upper || lt_z (pos b.strength) (neg_ℤ lower)));
    }

-- two checks: upper against VR, and minus lower against VR, each within 1
unfoldable pub beam_claims : ℕ → Beam → Row → Claims
beam_claims q b r =
    record {
      demands = [];
      checks =
          check 1 (plain r.word2 (value (upper_shear q b)) (whole 1)) (operand r.word4 b.strength)
          ∷ check 1 (plain (neg_ℤ r.word3) (value (neg_s (lower_shear q b))) (whole 1)) (operand r.word4 b.strength)
          ∷ [];
      verdict = r.verdict;
    }

pub record BeamRange (q : ℕ) (b : Beam) : Type 0 where
  pub behaviour : q ≤ 400
  pub length_least : 500 ≤ b.length
  pub length_greatest : b.length ≤ 100000
  pub plus1 : b.plus1 ≤ 100000000
  pub plus2 : b.plus2 ≤ 100000000
  pub minus1 : b.minus1 ≤ 100000000
  pub minus2 : b.minus2 ≤ 100000000
  pub nonseismic : nat_abs b.nonseismic ≤ 100000000
  pub shear : b.shear ≤ 100000000
  pub strength : b.strength ≤ 100000000
