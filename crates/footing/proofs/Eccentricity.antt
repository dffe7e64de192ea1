-- An eccentricity: E = 1000·X/N up, with X the size x up and N the force n down, against the exact 1000·x/n. It is never below
-- it, and where the exact one is at most half a side it exceeds it by under 2. Assumes nothing.
use Prim.Native.Nat.{ℕ, suc, ◌+◌, ◌*◌, ◌≤◌, ◌<◌}
use native.Mathlib.Omega.{arith}
use native.Mathlib.Nat.{lt_of_mul-lt-mul_right}
use Rattle.exact.specs.Quotient.{up}
use Rattle.exact.specs.Fraction.{Fraction, Proper, whole, ratio, times, up_f, ◌≤F◌, ◌<F◌, ◌+F◌, ◌÷F◌}
use Rattle.exact.proofs.Multiply.{◌·◌}
use Rattle.exact.proofs.Rounding.{up_le, up_lt}
use Rattle.footing.proofs.Directions.{Force}

-- x over its denominator xd, n over nd
record Rounded (x xd n nd X N E : ℕ) : Type 0 where
  pub xd_positive : 0 < xd
  pub nd_positive : 0 < nd
  pub least : 20000 ≤ N
  pub low_n : N * nd ≤ n
  pub high_n : n < N * nd + nd
  pub low_x : x ≤ X * xd
  pub high_x : X * xd < x + xd
  pub low_e : 1000 * X ≤ E * N
  pub high_e : E * N < 1000 * X + N

-- 1000·x·nd/(xd·n) ≤ E
not_below : (x xd n nd X N E : ℕ) → Rounded x xd n nd X N E → 1000 * x * nd ≤ E * (xd * n)
not_below x xd n nd X N E r = by (r.low_n · (E * xd)) (r.low_x · (1000 * nd)) (r.low_e · (xd * nd))
  where
    by : N * nd * (E * xd) ≤ n * (E * xd) → x * (1000 * nd) ≤ X * xd * (1000 * nd) → 1000 * X * (xd * nd) ≤ E * N * (xd * nd) → 1000 * x * nd ≤ E * (xd * n)
    by h k l = omega arith

-- at most half of a side of up to 20,000
small : (x xd n nd X N E : ℕ) → Rounded x xd n nd X N E → 1000 * x * nd * 2 ≤ 20000 * (xd * n) → E < 10002
small x xd n nd X N E r g =
    lt_of_mul-lt-mul_right (N * xd * nd)
    (by (r.high_n · xd) (r.high_x · nd) (r.high_e · (xd * nd)) (r.least · (xd * nd)) (r.xd_positive · nd) r.nd_positive g)
  where
    by : suc n * xd ≤ (N * nd + nd) * xd → suc (X * xd) * nd ≤ (x + xd) * nd → suc (E * N) * (xd * nd) ≤ (1000 * X + N) * (xd * nd) → 20000 * (xd * nd) ≤ N * (xd * nd) →
        1 * nd ≤ xd * nd → 0 < nd → 1000 * x * nd * 2 ≤ 20000 * (xd * n) → E * (N * xd * nd) < 10002 * (N * xd * nd)
    by hn hx he hl hp hq hg = omega arith

-- E < 1000·x·nd/(xd·n) + 2
under : (x xd n nd X N E : ℕ) → Rounded x xd n nd X N E → 1000 * x * nd * 2 ≤ 20000 * (xd * n) → E * (xd * n) < 1000 * x * nd + 2 * (xd * n)
under x xd n nd X N E r g =
    by (r.high_n · (E * xd)) (r.low_n · xd) (r.high_x · nd) (r.high_e · (xd * nd)) (r.least · (xd * nd)) (small x xd n nd X N E r g · (xd * nd))
    (r.xd_positive · nd) r.nd_positive
  where
    by : suc n * (E * xd) ≤ (N * nd + nd) * (E * xd) → N * nd * xd ≤ n * xd → suc (X * xd) * nd ≤ (x + xd) * nd → suc (E * N) * (xd * nd) ≤ (1000 * X + N) * (xd * nd) →
        20000 * (xd * nd) ≤ N * (xd * nd) → suc E * (xd * nd) ≤ 10002 * (xd * nd) → 1 * nd ≤ xd * nd → 0 < nd → E * (xd * n) < 1000 * x * nd + 2 * (xd * n)
    by hn ln hx he hl hs hp hq = omega arith

-- ---- the same of fractions

-- the reported eccentricity e against the exact one, u
pub record Reported (e : ℕ) (u : Fraction) : Type 0 where
  pub proper : Proper u
  pub low : u ≤F whole e
  pub high : (side : ℕ) → side ≤ 20000 → u ≤F ratio side 2 → whole e <F (u +F whole 2)

-- x is a moment's size, n the force
pub eccentricities : (x n : Fraction) (N : ℕ) → Proper x → Force N n → Reported (up (1000 * up_f x) N) (times 1000 x ÷F n)
eccentricities x n N p f =
    record {
      proper = let k : 0 < n.num = omega (arith, f.low, f.least · n.den, f.proper) in omega (arith, p · n.num);
      low = omega (arith, not_below x.num x.den n.num n.den (up_f x) N (up (1000 * up_f x) N) r);
      high = exceeds;
    }
  where
    r : Rounded x.num x.den n.num n.den (up_f x) N (up (1000 * up_f x) N)
    r =
        record {
          xd_positive = p;
          nd_positive = f.proper;
          least = f.least;
          low_n = f.low;
          high_n = f.high;
          low_x = up_le x.num x.den p;
          high_x = up_lt x.num x.den p;
          low_e = up_le (1000 * up_f x) N (omega (arith, f.least));
          high_e = up_lt (1000 * up_f x) N (omega (arith, f.least));
        }

    exceeds : (side : ℕ) → side ≤ 20000 → (times 1000 x ÷F n) ≤F ratio side 2 → whole (up (1000 * up_f x) N) <F (times 1000 x ÷F n +F whole 2)
    exceeds side s g =
        let d = x.den * n.num in
        let h : 1000 * x.num * n.den * 2 ≤ 20000 * d = omega (arith, s · d, g) in
        omega (arith, under x.num x.den n.num n.den (up_f x) N (up (1000 * up_f x) N) r h)
