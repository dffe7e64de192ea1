-- Column (B.1). 01, "Members": smaller of 1400·S/length and q·VE/100, with the larger of the two S; up. Word 6: 02, No. 5.
use Rattle.std.specs.Prelude.{Bool, [], ◌∷◌, ℕ, ◌+◌, ◌*◌, ◌≤◌, max, ltb, pos}
use Rattle.exact.specs.Fraction.{Fraction, whole, ratio, lt_f, smaller, up_f}
use Rattle.exact.specs.SignedFraction.{signed}
use Rattle.claims.specs.declared.Row.{Row}
use Rattle.claims.specs.Verdict.{flag}
use Rattle.claims.specs.Exact.{value}
use Rattle.claims.specs.Claims.{Claims, plain, operand, check}
use Rattle.members.specs.declared.Column.{Column}

-- S, the sum R1 + R2 of a direction
abbrev pub sum_plus : Column → ℕ
sum_plus c = c.plus1 + c.plus2

abbrev pub sum_minus : Column → ℕ
sum_minus c = c.minus1 + c.minus2

abbrev pub larger_sum : Column → ℕ
larger_sum c = max (sum_plus c) (sum_minus c)

-- the term of the resistances, and the cap
abbrev pub column_term : Column → Fraction
column_term c = ratio (1400 * larger_sum c) c.length

abbrev pub column_cap : ℕ → Column → Fraction
column_cap q c = ratio (q * c.shear) 100

-- the exact design shear
abbrev pub column_shear : ℕ → Column → Fraction
column_shear q c = smaller (column_term c) (column_cap q c)

-- whether the cap was strictly the smaller
abbrev pub column_governed : ℕ → Column → Bool
column_governed q c = lt_f (column_cap q c) (column_term c)

-- words: V, VR, and in word 6 1 where the cap governs; bit 1 where V exceeds VR
unfoldable pub column_row : ℕ → Column → Row
column_row q c =
    let v = up_f (column_shear q c) in
    record {
      word2 = pos v;
      word3 = pos c.strength;
      word4 = pos 0;
      word5 = pos 0;
      word6 = pos (flag 1 (column_governed q c));
      verdict = pos (flag 1 (ltb c.strength v));
    }

-- one check: V against VR, within 1
unfoldable pub column_claims : ℕ → Column → Row → Claims
column_claims q c r =
    record {
      demands = [];
      checks = check 1 (plain r.word2 (value (signed (column_shear q c))) (whole 1)) (operand r.word3 c.strength) ∷ [];
      verdict = r.verdict;
    }

pub record ColumnRange (q : ℕ) (c : Column) : Type 0 where
  pub behaviour : q ≤ 400
  pub length_least : 500 ≤ c.length
  pub length_greatest : c.length ≤ 100000
  pub plus1 : c.plus1 ≤ 100000000
  pub plus2 : c.plus2 ≤ 100000000
  pub minus1 : c.minus1 ≤ 100000000
  pub minus2 : c.minus2 ≤ 100000000
  pub shear : c.shear ≤ 100000000
  pub strength : c.strength ≤ 100000000
