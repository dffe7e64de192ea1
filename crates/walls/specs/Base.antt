-- Wall base (B.4). 01, "Members": g = 130, R = MR, E = ME. W = a·VE up; moment as for a storey with J = J0.
-- Word 6: 02, No. 5.
use Rattle.std.specs.Prelude.{Bool, [], ◌∷◌, ℕ, ◌+◌, ◌*◌, ◌≤◌, min, max, leb, ltb, pos}
use Rattle.exact.specs.Quotient.{up}
use Rattle.exact.specs.Fraction.{Fraction, whole, ratio, up_f, ◌*F◌}
use Rattle.exact.specs.SignedFraction.{signed, whole_s}
use Rattle.coefficient.specs.Coefficient.{coefficient_of, cap_governs}
use Rattle.claims.specs.declared.Row.{Row}
use Rattle.claims.specs.Verdict.{flag}
use Rattle.claims.specs.Exact.{Exact, value, larger_of, smaller_of}
use Rattle.claims.specs.Claims.{Claims, plain, operand, check}
use Rattle.walls.specs.declared.WallBase.{WallBase}

-- a of a wall: `resistance` is MR, `moment` ME
abbrev pub wall_coefficient : ℕ → WallBase → Fraction
wall_coefficient q b = coefficient_of 130 b.resistance b.moment q

-- whether the cap q/100 was strictly the smaller, or ME is 0
abbrev pub wall_governed : ℕ → WallBase → Bool
wall_governed q b = cap_governs 130 b.resistance b.moment q

-- w, the unrounded base shear: `shear` is VE; W is w up
abbrev pub exact_base_shear : ℕ → WallBase → Fraction
exact_base_shear q b = wall_coefficient q b *F whole b.shear

abbrev pub base_shear : ℕ → WallBase → ℕ
base_shear q b = up_f (exact_base_shear q b)

-- the moment of a storey from a, k, its ME and the MR of its base: larger of a·ME up and k·MR/3000 up, at most MR
abbrev pub design_moment : Fraction → ℕ → ℕ → ℕ → ℕ
design_moment a k moment resistance = min (max (up_f (a *F whole moment)) (up (k * resistance) 3000)) resistance

-- J = J0 gives k = 1000
abbrev pub base_moment : ℕ → WallBase → ℕ
base_moment q b = design_moment (wall_coefficient q b) 1000 b.moment b.resistance

-- the exact moment: larger of a·ME and MR/3 (J = J0 gives c = 1), at most MR
abbrev pub exact_base_moment : ℕ → WallBase → Exact
exact_base_moment q b =
    smaller_of (larger_of (value (signed (wall_coefficient q b *F whole b.moment))) (value (signed (ratio b.resistance 3)))) (value (whole_s (pos b.resistance)))

-- The row from a, W and whether the cap governs a. Words: V, VR, moment, MR, and 1 where the cap governs; bit 1 where V exceeds VR,
-- bit 128 where the length is not above 4 times the thickness.
unfoldable pub base_row_from : Fraction → ℕ → Bool → WallBase → Row
base_row_from a base governs b =
    record {
      word2 = pos base;
      word3 = pos b.strength;
      word4 = pos (design_moment a 1000 b.moment b.resistance);
      word5 = pos b.resistance;
      word6 = pos (flag 1 governs);
      verdict = pos (flag 1 (ltb b.strength base) + flag 128 (leb b.length (4 * b.thickness)));
    }

unfoldable pub base_row : ℕ → WallBase → Row
unfolding base_row_from
base_row q b = base_row_from (wall_coefficient q b) (base_shear q b) (wall_governed q b) b

-- one check, V against VR, within 1; the moment is in no check
unfoldable pub base_claims : ℕ → WallBase → Row → Claims
base_claims q b r =
    record {
      demands = plain r.word4 (exact_base_moment q b) (whole 1) ∷ [];
      checks = check 1 (plain r.word2 (value (signed (exact_base_shear q b))) (whole 1)) (operand r.word3 b.strength) ∷ [];
      verdict = r.verdict;
    }

pub record WallBaseRange (q : ℕ) (b : WallBase) : Type 0 where
  pub behaviour : q ≤ 400
  pub length_least : 100 ≤ b.length
  pub length_greatest : b.length ≤ 10000
  pub thickness_least : 100 ≤ b.thickness
  pub thickness_greatest : b.thickness ≤ 10000
  pub resistance : b.resistance ≤ 100000000
  pub moment : b.moment ≤ 100000000
  pub shear : b.shear ≤ 100000000
  pub strength : b.strength ≤ 100000000
