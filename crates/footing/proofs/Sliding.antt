-- The sliding resistance against the exact one: never above it, and short of it by under 4 on granular soil, by under
-- 4·(B + L)·s/10⁶ + 3 on cohesive. Also the bound that keeps it in 64 bits. Assumes nothing.
use mathlib.Core.Path.{◌≡◌}
use mathlib.Core.Logic.{◌⊎◌, inl, inr}
use Prim.Native.Nat.{ℕ, ◌+◌, ◌-◌, ◌*◌, ◌/◌, ◌≤◌, ◌<◌, min}
use native.Mathlib.Omega.{arith}
use native.Mathlib.Nat.{mul-le-mul, lt_of_mul-lt-mul_right, min-eq_left, min-eq_right, min-le_left, min-le_right}
use lib.IntN.{pos}
use Rattle.exact.specs.Quotient.{down}
use Rattle.exact.specs.Fraction.{Fraction, Proper, whole, ratio, times, smaller, ◌≤F◌, ◌<F◌, ◌+F◌, ◌∸F◌, ◌*F◌}
use Rattle.exact.specs.SignedFraction.{whole_s, signed}
use Rattle.exact.proofs.Multiply.{◌·◌}
use Rattle.exact.proofs.Rounding.{down_le, down_lt}
use Rattle.soil.specs.declared.Soil.{Soil}
use Rattle.soil.specs.declared.Soil.TheVariants.{Granular, Cohesive}
use Rattle.soil.specs.Taken.{tangent_of, cohesion_of}
use Rattle.soil.proofs.Laws.{tangent_le}
use Rattle.claims.specs.Claims.{StrengthHolds}
use Rattle.claims.proofs.Orders.{≤_or, pos_mul}
use Rattle.coefficient.proofs.Bounds.{smaller_either, smaller_≤_first, smaller_≤_second}
use Rattle.footing.specs.declared.Footing.{Footing}
use Rattle.footing.specs.Flags.{counted_thrust}
use Rattle.footing.specs.Rows.{base_resistance, effective_area, sliding_resistance}
use Rattle.footing.proofs.Flags.{thrust_le}
use Rattle.footing.proofs.Directions.{Force}
use Rattle.footing.proofs.Eccentricity.{Reported}

-- ---- the bounds of the area, of the base resistance and of R

-- both factors at most 20,000
pub area_le : (b l : ℕ) → b ≤ 20000 → l ≤ 20000 → b * l ≤ 400000000
area_le b l h k = omega (arith, mul-le-mul h k)

-- a force and a tangent
pub granular_le : (n t : ℕ) → n ≤ 500000000 → t ≤ 20000 → n * t / 10000 ≤ 1000000000
granular_le n t h k = omega (arith, mul-le-mul h k)

pub base_le : (soil : Soil) (area n uplift : ℕ) → n ≤ 500000000 → base_resistance soil area n uplift ≤ 1000000000
unfolding base_resistance
base_le (Granular x) area n uplift h =
    let k : n - uplift ≤ 500000000 = omega arith in
    omega (arith, down_le ((n - uplift) * tangent_of x) 10000, mul-le-mul k (tangent_le x))
base_le (Cohesive x) area n uplift h =
    omega (arith, min-le_right (down (area * cohesion_of x) 1000000) (down (2 * n) 5), down_le (2 * n) 5)

pub resistance_le : (f : Footing) (soil : Soil) (ex ey n : ℕ) → n ≤ 500000000 → f.passive ≤ 100000000 → sliding_resistance f soil ex ey n ≤ 1200000000
resistance_le f soil ex ey n h p =
    omega (arith, base_le soil (effective_area f ex ey) n f.uplift h, down_le (2 * counted_thrust f) 5, thrust_le f, p)

-- ---- a side less twice the eccentricity, and the effective area

-- the exact eccentricity is u/v, the reported one e
side_low : (side e u v : ℕ) → u ≤ e * v → (side - 2 * e) * v ≤ side * v - 2 * u
side_low side e u v h = by (≤_or (2 * e) side)
  where
    more : (k : ℕ) → side ≡ k + 2 * e → k * v ≤ side * v - 2 * u
    more k s = rw s (omega (arith, h))

    by : (2 * e ≤ side) ⊎ (side < 2 * e) → (side - 2 * e) * v ≤ side * v - 2 * u
    by (inl l) = more (side - 2 * e) (omega arith)
    by (inr l) = let z : side - 2 * e ≡ 0 = omega arith in rw z (omega arith)

side_high : (side e u v : ℕ) → (u * 2 ≤ side * v → e * v < u + 2 * v) → side * v - 2 * u ≤ (side - 2 * e + 4) * v
side_high side e u v h = by (≤_or (u * 2) (side * v))
  where
    most : (k : ℕ) → side ≤ k + 2 * e → e * v < u + 2 * v → side * v - 2 * u ≤ (k + 4) * v
    most k s l = omega (arith, s · v)

    by : (u * 2 ≤ side * v) ⊎ (side * v < u * 2) → side * v - 2 * u ≤ (side - 2 * e + 4) * v
    by (inl l) = most (side - 2 * e) (omega arith) (h l)
    by (inr l) = omega arith

-- x/v and y/w are the exact sides, a and b the reported ones
area_low : (a b x v y w : ℕ) → a * v ≤ x → b * w ≤ y → a * b * (v * w) ≤ x * y
area_low a b x v y w h k = omega (arith, mul-le-mul h k)

area_high : (a b x v y w B L : ℕ) → a ≤ B → x ≤ (a + 4) * v → y ≤ (b + 4) * w → y ≤ L * w → x * y ≤ (a * b + 4 * (B + L)) * (v * w)
area_high a b x v y w B L s h k l = by (h · y) (k · (a * v)) (l · (4 * v)) (s · (4 * (v * w)))
  where
    by : x * y ≤ (a + 4) * v * y → y * (a * v) ≤ (b + 4) * w * (a * v) → y * (4 * v) ≤ L * w * (4 * v) → a * (4 * (v * w)) ≤ B * (4 * (v * w)) →
        x * y ≤ (a * b + 4 * (B + L)) * (v * w)
    by p q r t = omega arith

-- u and w are the exact eccentricities, ex and ey the reported ones
pub record Area (A g : ℕ) (area : Fraction) : Type 0 where
  pub proper : Proper area
  pub low : whole A ≤F area
  pub high : area ≤F whole (A + g)

pub areas : (B L ex ey : ℕ) (u w : Fraction) → B ≤ 20000 → L ≤ 20000 → Reported ex u → Reported ey w →
    Area ((B - 2 * ex) * (L - 2 * ey)) (4 * (B + L)) ((whole B ∸F times 2 u) *F (whole L ∸F times 2 w))
areas B L ex ey u w hb hl p q =
    let a = B - 2 * ex in
    let b = L - 2 * ey in
    let x = B * u.den - 2 * u.num * 1 in
    let y = L * w.den - 2 * w.num * 1 in
    let ax : a * u.den ≤ x = omega (arith, side_low B ex u.num u.den (omega (arith, p.low))) in
    let by : b * w.den ≤ y = omega (arith, side_low L ey w.num w.den (omega (arith, q.low))) in
    let xa : x ≤ (a + 4) * u.den = omega (arith, side_high B ex u.num u.den (λ g. omega (arith, p.high B hb (omega (arith, g))))) in
    let yb : y ≤ (b + 4) * w.den = omega (arith, side_high L ey w.num w.den (λ g. omega (arith, q.high L hl (omega (arith, g))))) in
    let le : a ≤ B = omega arith in
    let yl : y ≤ L * w.den = omega arith in
    record {
      proper = omega (arith, pos_mul p.proper q.proper);
      low = omega (arith, area_low a b x u.den y w.den ax by);
      high = omega (arith, area_high a b x u.den y w.den B L le xa yb yl);
    }

-- ---- the base resistance b against the exact one: low, and short by under the amount less 1

pub record Base (b : ℕ) (exact amount : Fraction) : Type 0 where
  pub proper : Proper exact
  pub low : whole b ≤F exact
  pub high : (exact +F whole 1) <F (whole b +F amount)

pub granular : (N U t : ℕ) (n : Fraction) → t ≤ 20000 → Force N n → Base (down ((N - U) * t) 10000) ((n ∸F whole U) *F ratio t 10000) (whole 4)
granular N U t n ht f =
    let d = n.den in
    let b = down ((N - U) * t) 10000 in
    let low : (N - U) * d ≤ n.num * 1 - U * d = less (≤_or U N) in
    let high : n.num * 1 - U * d ≤ (N - U) * d + d = more (≤_or U N) in
    record {
      proper = omega (arith, f.proper);
      low = omega (arith, down_le ((N - U) * t) 10000 · d, low · t);
      high = omega (arith, down_lt ((N - U) * t) 10000 (omega arith) · d, high · t, ht · d, f.proper);
    }
  where
    at : (k : ℕ) → N ≡ k + U → (k * n.den ≤ n.num * 1 - U * n.den) × (n.num * 1 - U * n.den ≤ k * n.den + n.den)
    at k e =
        let l = rw e at f.low in
        let h = rw e at f.high in
        (omega arith, omega arith)

    less : (U ≤ N) ⊎ (N < U) → (N - U) * n.den ≤ n.num * 1 - U * n.den
    less (inl l) = (at (N - U) (omega arith)).0
    less (inr l) = let z : N - U ≡ 0 = omega arith in rw z (omega arith)

    more : (U ≤ N) ⊎ (N < U) → n.num * 1 - U * n.den ≤ (N - U) * n.den + n.den
    more (inl l) = (at (N - U) (omega arith)).1
    more (inr l) = omega (arith, l · n.den, f.high)

-- A is the reported area, within g of the exact one
pub cohesive : (N A s g : ℕ) (n area : Fraction) → Force N n → Area A g area →
    Base (min (down (A * s) 1000000) (down (2 * N) 5)) (smaller (area *F ratio s 1000000) (n *F ratio 2 5)) (ratio (g * s) 1000000 +F whole 3)
cohesive N A s g n area f h =
    record {
      proper = smaller_either x y Proper (omega (arith, h.proper)) (omega (arith, f.proper));
      low = smaller_either x y (λ z. whole (min b c) ≤F z) low_x low_y;
      high = by (≤_or b c);
    }
  where
    b : ℕ
    b = down (A * s) 1000000

    c : ℕ
    c = down (2 * N) 5

    x : Fraction
    x = area *F ratio s 1000000

    y : Fraction
    y = n *F ratio 2 5

    amount : Fraction
    amount = ratio (g * s) 1000000 +F whole 3

    low_x : whole (min b c) ≤F x
    low_x = omega (arith, min-le_left b c · area.den, down_le (A * s) 1000000 · area.den, h.low · s)

    low_y : whole (min b c) ≤F y
    low_y = omega (arith, min-le_right b c · n.den, down_le (2 * N) 5 · n.den, f.low)

    high_x : (x +F whole 1) <F (whole b +F amount)
    high_x = omega (arith, down_lt (A * s) 1000000 (omega arith) · area.den, h.high · s, h.proper)

    high_y : (y +F whole 1) <F (whole c +F amount)
    high_y = omega (arith, down_lt (2 * N) 5 (omega arith) · n.den, f.high, f.proper)

    -- what is at most a fraction that is short by under the amount is so too
    under : (z w : Fraction) (k : ℕ) → z ≤F w → Proper z → (w +F whole 1) <F (whole k +F amount) → (z +F whole 1) <F (whole k +F amount)
    under z w k l p m = lt_of_mul-lt-mul_right w.den (omega (arith, l · amount.den, m · z.den, p))

    by : (b ≤ c) ⊎ (c < b) → (smaller x y +F whole 1) <F (whole (min b c) +F amount)
    by (inl l) =
        rw (min-eq_left l)
        (under (smaller x y) x b (smaller_≤_first x y) (smaller_either x y Proper (omega (arith, h.proper)) (omega (arith, f.proper))) high_x)
    by (inr l) =
        let m : c ≤ b = omega arith in
        rw (min-eq_right m)
        (under (smaller x y) y c (smaller_≤_second x y) (smaller_either x y Proper (omega (arith, h.proper)) (omega (arith, f.proper))) high_y)

-- a larger amount
pub enough : (b : ℕ) (exact x y : Fraction) → Proper x → Proper y → x ≤F y → Base b exact x → Base b exact y
enough b exact x y px py l h =
    record {
      proper = h.proper;
      low = h.low;
      high = lt_of_mul-lt-mul_right x.den (omega (arith, h.high · y.den, l · exact.den, py));
    }

-- ---- with two fifths of the passive thrust

pub sliding : (b P : ℕ) (base amount : Fraction) → Proper amount → Base b base amount →
    StrengthHolds (record { reported = whole_s (pos (b + down (2 * P) 5)); exact = signed (base +F ratio (2 * P) 5); amount = amount })
sliding b P base amount pa h =
    let l = down_le (2 * P) 5 in
    let u = down_lt (2 * P) 5 (omega arith) in
    record {
      proper = omega (arith, h.proper);
      proper_reported = omega arith;
      proper_amount = pa;
      not_above = omega (arith, h.low, l · base.den);
      short = inr (omega (arith, h.high, u · (base.den * amount.den), pos_mul h.proper pa));
    }
