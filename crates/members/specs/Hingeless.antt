-- Member without hinges (B.3). 01, "Members": for each joint g = gj, R = smaller of RB and RC, E = EB. m = a·ME up at each
-- end; D = 1000·(m1 + m2)/length up; upper V0 + D, lower V0 − D. The exact value rounds nowhere.
use Rattle.std.specs.Prelude.{◌||◌, [], ◌∷◌, ℕ, ◌+◌, ◌*◌, ◌≤◌, min, pos, neg_ℤ, nat_abs, ◌+ℤ◌, ◌-ℤ◌}
use Rattle.std.specs.Int.Signed.{lt_z}
use Rattle.exact.specs.Quotient.{up}
use Rattle.exact.specs.Fraction.{Fraction, whole, ratio, times, up_f, ◌+F◌, ◌*F◌, ◌/F◌}
use Rattle.exact.specs.SignedFraction.{SignedFraction, whole_s, signed, neg_s, ◌+S◌, ◌-S◌}
use Rattle.coefficient.specs.declared.Settings.{Settings}
use Rattle.coefficient.specs.Coefficient.{coefficient_of}
use Rattle.claims.specs.declared.Row.{Row}
use Rattle.claims.specs.Verdict.{flag}
use Rattle.claims.specs.Exact.{value}
use Rattle.claims.specs.Claims.{Claims, plain, operand, check}
use Rattle.members.specs.declared.Joint.{Joint}
use Rattle.members.specs.declared.Hingeless.{Hingeless}

-- a of a joint: `beams` is RB, `columns` RC, `seismic` EB
abbrev pub joint_coefficient : Settings → Joint → Fraction
joint_coefficient s j = coefficient_of s.joints (min j.beams j.columns) j.seismic s.behaviour

-- m at an end, up
abbrev pub end_moment : Settings → Joint → ℕ → ℕ
end_moment s j moment = up_f (joint_coefficient s j *F whole moment)

-- D, up
abbrev pub rounded_shear : Settings → Joint → Joint → Hingeless → ℕ
rounded_shear s j1 j2 m = up (1000 * (end_moment s j1 m.moment1 + end_moment s j2 m.moment2)) m.length

-- the exact D = 1000·(a·ME1 + a·ME2)/length, each a that of its own joint
abbrev pub exact_shear : Settings → Joint → Joint → Hingeless → Fraction
exact_shear s j1 j2 m = times 1000 (joint_coefficient s j1 *F whole m.moment1 +F joint_coefficient s j2 *F whole m.moment2) /F m.length

abbrev pub exact_upper : Settings → Joint → Joint → Hingeless → SignedFraction
exact_upper s j1 j2 m = whole_s m.nonseismic +S signed (exact_shear s j1 j2 m)

abbrev pub exact_lower : Settings → Joint → Joint → Hingeless → SignedFraction
exact_lower s j1 j2 m = whole_s m.nonseismic -S signed (exact_shear s j1 j2 m)

-- words: upper, lower, VR; bit 1 where upper or minus lower exceeds VR
unfoldable pub hingeless_row : Settings → Joint → Joint → Hingeless → Row
hingeless_row s j1 j2 m =
    let upper = m.nonseismic +ℤ pos (rounded_shear s j1 j2 m) in
    let lower = m.nonseismic -ℤ pos (rounded_shear s j1 j2 m) in
    record {
      word2 = upper;
      word3 = lower;
      word4 = pos m.strength;
      word5 = pos 0;
      word6 = pos 0;
      verdict = pos (flag 1 (lt_z (pos m.strength) upper || lt_z (pos m.strength) (neg_ℤ lower)));
    }

-- the amount: 1 + 2000/length
abbrev pub hingeless_amount : Hingeless → Fraction
hingeless_amount m = whole 1 +F ratio 2000 m.length

-- two checks: upper against VR, and minus lower against VR
unfoldable pub hingeless_claims : Settings → Joint → Joint → Hingeless → Row → Claims
hingeless_claims s j1 j2 m r =
    record {
      demands = [];
      checks =
          check 1 (plain r.word2 (value (exact_upper s j1 j2 m)) (hingeless_amount m)) (operand r.word4 m.strength)
          ∷ check 1 (plain (neg_ℤ r.word3) (value (neg_s (exact_lower s j1 j2 m))) (hingeless_amount m)) (operand r.word4 m.strength)
          ∷ [];
      verdict = r.verdict;
    }

pub record JointRange (j : Joint) : Type 0 where
  pub beams : j.beams ≤ 100000000
  pub columns : j.columns ≤ 100000000
  pub seismic : j.seismic ≤ 100000000

pub record HingelessRange (s : Settings) (j1 j2 : Joint) (m : Hingeless) : Type 0 where
  pub behaviour : s.behaviour ≤ 400
  pub joints : s.joints ≤ 200
  pub joint1 : JointRange j1
  pub joint2 : JointRange j2
  pub length_least : 500 ≤ m.length
  pub length_greatest : m.length ≤ 100000
  pub moment1 : m.moment1 ≤ 100000000
  pub moment2 : m.moment2 ≤ 100000000
  pub nonseismic : nat_abs m.nonseismic ≤ 100000000
  pub strength : m.strength ≤ 100000000
