-- The claims of the row of a member without hinges hold for all operands in range: the rounded D is not below the exact one and
-- exceeds it by under 1 + 2000/length. Assumes nothing.
use mathlib.Core.Path.{◌≡◌, ap}
use Prim.Native.Nat.{ℕ, ◌+◌, ◌*◌, ◌≤◌, ◌<◌, min}
use native.Mathlib.Omega.{arith}
use lib.IntN.{ℤ, pos, neg_ℤ, ◌+ℤ◌, ◌-ℤ◌}
use Rattle.exact.specs.Quotient.{up}
use Rattle.exact.specs.Fraction.{Fraction, Proper, whole, ratio, times, up_f, ◌≤F◌, ◌<F◌, ◌+F◌, ◌*F◌, ◌/F◌}
use Rattle.exact.specs.SignedFraction.{above, below, whole_s, signed, ◌≤S◌, ◌+S◌, ◌-S◌}
use Rattle.exact.proofs.Integers.{+ℤ_law, -ℤ_law, above_neg, below_neg}
use Rattle.exact.proofs.Multiply.{◌·◌}
use Rattle.exact.proofs.Rounding.{up_le, up_lt}
use Rattle.coefficient.specs.declared.Settings.{Settings}
use Rattle.coefficient.proofs.Bounds.{proper}
use Rattle.claims.specs.Claims.{CheckHolds, Hold}
use Rattle.claims.proofs.Orders.{pos_mul}
use Rattle.claims.proofs.Checks.{check_holds}
use Rattle.claims.proofs.Rounded.{operand_strength}
use Rattle.members.specs.declared.Joint.{Joint}
use Rattle.members.specs.declared.Hingeless.{Hingeless}
use Rattle.members.specs.Hingeless.{joint_coefficient, rounded_shear, exact_shear, exact_upper, exact_lower, hingeless_amount, hingeless_row, hingeless_claims, HingelessRange}
use Rattle.claims.proofs.UpperLower.{upper_check, lower_check, shears_hold}

-- ---- D rounded: p/d is a·ME of an end, m that rounded up

module _ (p1 d1 m1 p2 d2 m2 l D : ℕ) where
  above_exact : p1 ≤ m1 * d1 → p2 ≤ m2 * d2 → 1000 * (m1 + m2) ≤ D * l → 1000 * (p1 * d2 + p2 * d1) ≤ D * (d1 * d2 * l)
  above_exact h1 h2 h = omega (arith, h1 · d2, h2 · d1, h · (d1 * d2))

  under_amount : 0 < d1 → 0 < d2 → m1 * d1 < p1 + d1 → m2 * d2 < p2 + d2 → D * l < 1000 * (m1 + m2) + l →
      D * (d1 * d2 * l) < 1000 * (p1 * d2 + p2 * d1) + (l + 2000) * (d1 * d2)
  under_amount g1 g2 h1 h2 h = omega (arith, h1 · d2, h2 · d1, h · (d1 * d2), pos_mul g1 g2)

-- ---- V0 plus a shear, by the parts of V0: P − M is p − m + n

module _ (p m P M n : ℕ) (x : Fraction) (e : P + m ≡ M + (p + n)) where
  parts_not_below : x ≤F whole n → (record { plus = p; minus = m; den = 1 } +S signed x) ≤S record { plus = P; minus = M; den = 1 }
  parts_not_below h = omega (arith, h, ap (λ (k : ℕ). k * x.den) e)

  parts_excess : (a : Fraction) → whole n <F (x +F a) → ¬ ((record { plus = p; minus = m; den = 1 } +S signed x) ≤S (record { plus = P; minus = M; den = 1 } -S signed a))
  parts_excess a h k = omega (arith, h, k, ap (λ (k : ℕ). k * (x.den * a.den)) e)

-- ---- the exact D of two ends a·x and b·y, and D rounded

exact_of : (a b : Fraction) (x y l : ℕ) → Fraction
exact_of a b x y l = times 1000 (a *F whole x +F b *F whole y) /F l

rounded_of : (a b : Fraction) (x y l : ℕ) → ℕ
rounded_of a b x y l = up (1000 * (up_f (a *F whole x) + up_f (b *F whole y))) l

module _ (a b : Fraction) (x y l : ℕ) (pa : Proper a) (pb : Proper b) (pl : 0 < l) where
  da : 0 < a.den * 1
  da = omega arith

  db : 0 < b.den * 1
  db = omega arith

  shear_not_below : exact_of a b x y l ≤F whole (rounded_of a b x y l)
  unfolding exact_of rounded_of
  shear_not_below =
      let m1 = up_f (a *F whole x) in
      let m2 = up_f (b *F whole y) in
      let h = above_exact (a.num * x) (a.den * 1) m1 (b.num * y) (b.den * 1) m2 l (rounded_of a b x y l)
      (up_le (a.num * x) (a.den * 1) da) (up_le (b.num * y) (b.den * 1) db) (up_le (1000 * (m1 + m2)) l pl) in
      omega (arith, h)

  shear_excess : whole (rounded_of a b x y l) <F (exact_of a b x y l +F (whole 1 +F ratio 2000 l))
  unfolding exact_of rounded_of
  shear_excess =
      let m1 = up_f (a *F whole x) in
      let m2 = up_f (b *F whole y) in
      let h = under_amount (a.num * x) (a.den * 1) m1 (b.num * y) (b.den * 1) m2 l (rounded_of a b x y l) da db
      (up_lt (a.num * x) (a.den * 1) da) (up_lt (b.num * y) (b.den * 1) db) (up_lt (1000 * (m1 + m2)) l pl) in
      omega (arith, h · l)

  shear_proper : Proper (exact_of a b x y l)
  unfolding exact_of
  shear_proper = pos_mul (pos_mul da db) pl

-- ---- the checks: V0 plus x, and minus V0 plus x, where x is D and n is D rounded

module _ (z : ℤ) (x a : Fraction) (n s : ℕ) (p : Proper x) (pa : Proper a) (below-n : x ≤F whole n) (under-n : whole n <F (x +F a)) where
  upper_check_lem : CheckHolds (upper_check 1 (z +ℤ pos n) (whole_s z +S signed x) a s)
  upper_check_lem =
      check_holds (upper_check 1 (z +ℤ pos n) (whole_s z +S signed x) a s) (omega arith) pa
      (parts_not_below (above z) (below z) (above (z +ℤ pos n)) (below (z +ℤ pos n)) n x parts below-n)
      (λ g. parts_excess (above z) (below z) (above (z +ℤ pos n)) (below (z +ℤ pos n)) n x parts a under-n)
      (operand_strength (pos s)) (λ k. tt)
    where
      parts : above (z +ℤ pos n) + below z ≡ below (z +ℤ pos n) + (above z + n)
      parts = omega (arith, +ℤ_law z (pos n))

  lower_check_lem : CheckHolds (lower_check 1 (z -ℤ pos n) (whole_s z -S signed x) a s)
  lower_check_lem =
      let w = neg_ℤ (z -ℤ pos n) in
      check_holds (lower_check 1 (z -ℤ pos n) (whole_s z -S signed x) a s) (omega arith) pa
      (parts_not_below (below z) (above z) (above w) (below w) n x parts below-n)
      (λ g. parts_excess (below z) (above z) (above w) (below w) n x parts a under-n)
      (operand_strength (pos s)) (λ k. tt)
    where
      parts : above (neg_ℤ (z -ℤ pos n)) + above z ≡ below (neg_ℤ (z -ℤ pos n)) + (below z + n)
      parts = omega (arith, -ℤ_law z (pos n), above_neg (z -ℤ pos n), below_neg (z -ℤ pos n))

pub hingeless_holds : (s : Settings) (j1 j2 : Joint) (m : Hingeless) → HingelessRange s j1 j2 m → Hold (hingeless_claims s j1 j2 m (hingeless_row s j1 j2 m))
unfolding hingeless_claims hingeless_row exact_of rounded_of
hingeless_holds s j1 j2 m r =
    let z = m.nonseismic in
    let x = exact_shear s j1 j2 m in
    let n = rounded_shear s j1 j2 m in
    let a = hingeless_amount m in
    let v = m.strength in
    let l : 0 < m.length = omega (arith, r.length_least) in
    let p1 = proper s.joints (min j1.beams j1.columns) j1.seismic s.behaviour in
    let p2 = proper s.joints (min j2.beams j2.columns) j2.seismic s.behaviour in
    let p = shear_proper (joint_coefficient s j1) (joint_coefficient s j2) m.moment1 m.moment2 m.length p1 p2 l in
    let pa : Proper a = omega arith in
    let h = shear_not_below (joint_coefficient s j1) (joint_coefficient s j2) m.moment1 m.moment2 m.length p1 p2 l in
    let g = shear_excess (joint_coefficient s j1) (joint_coefficient s j2) m.moment1 m.moment2 m.length p1 p2 l in
    shears_hold (z +ℤ pos n) (z -ℤ pos n) (exact_upper s j1 j2 m) (exact_lower s j1 j2 m) a v (upper_check_lem z x a n v p pa h g) (lower_check_lem z x a n v p pa h g)
