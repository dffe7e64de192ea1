-- Orders of signed fractions with positive denominators: transitive, decided, kept by sums, differences and cubes; and what is
-- at least an exact demand stays so when it grows. Assumes nothing.
use mathlib.Core.Logic.{◌⊎◌, inl, inr}
use mathlib.Core.Path.{◌≡◌}
use Prim.Native.Nat.{ℕ, ◌+◌, ◌-◌, ◌*◌, ◌≤◌, ◌<◌}
use native.Mathlib.Omega.{arith}
use native.Mathlib.Nat.{mul-le-mul, mul-le-mul_right, le_of_mul-le-mul_right}
use native.Mathlib.Decide.{dec_le}
use Rattle.exact.specs.Fraction.{times, cube}
use Rattle.exact.specs.SignedFraction.{SignedFraction, ProperS, signed, ◌≤S◌, ◌<S◌, times_s, cube_s}
use Rattle.exact.proofs.Multiply.{◌·◌}
use Rattle.claims.specs.Exact.{Exact, value, root_third, larger_of, smaller_of, at_least}

-- x ≤ y ≤ z
pub ≤S_trans : (x y z : SignedFraction) → ProperS y → x ≤S y → y ≤S z → x ≤S z
≤S_trans x y z p h k =
    le_of_mul-le-mul_right {k = y.den} (omega (arith, h · z.den, k · x.den)) p

-- x ≤ y or y < x
pub ≤_or : (a b : ℕ) → (a ≤ b) ⊎ (b < a)
≤_or a b = decided (dec_le a b)
  where
    decided : Dec (a ≤ b) → (a ≤ b) ⊎ (b < a)
    decided (yes h) = inl h
    decided (no h) = inr (omega arith)

pub ≤S_or : (x y : SignedFraction) → (x ≤S y) ⊎ (y <S x)
≤S_or x y = ≤_or (x.plus * y.den + y.minus * x.den) (y.plus * x.den + x.minus * y.den)

pub pos_mul : {a b : ℕ} → 0 < a → 0 < b → 0 < a * b
pos_mul {a} {b} h k = omega (arith, mul-le-mul_right b h)

pub pos_cube : {a : ℕ} → 0 < a → 0 < a * a * a
pos_cube h = pos_mul (pos_mul h h) h

-- ---- cubes keep the order

apart : (a b : ℕ) → ((x : ℕ) × (a ≡ b + x)) ⊎ ((x : ℕ) × (b ≡ a + x))
apart a b = by (≤_or b a)
  where
    by : (b ≤ a) ⊎ (a < b) → ((x : ℕ) × (a ≡ b + x)) ⊎ ((x : ℕ) × (b ≡ a + x))
    by (inl h) = inl (a - b, omega arith)
    by (inr h) = inr (b - a, omega arith)

pub cubed : {x y : ℕ} → x ≤ y → x * x * x ≤ y * y * y
cubed h = mul-le-mul (mul-le-mul h h) h

-- (a − b)³ ≤ (c − d)³ where a − b ≤ c − d
cubes : (a b c d : ℕ) → a + d ≤ c + b →
    (a * a * a + 3 * (a * b * b)) + (3 * (c * c * d) + d * d * d) ≤ (c * c * c + 3 * (c * d * d)) + (3 * (a * a * b) + b * b * b)
cubes a b c d h = by (apart a b) (apart c d)
  where
    by : ((x : ℕ) × (a ≡ b + x)) ⊎ ((x : ℕ) × (b ≡ a + x)) → ((y : ℕ) × (c ≡ d + y)) ⊎ ((y : ℕ) × (d ≡ c + y)) →
        (a * a * a + 3 * (a * b * b)) + (3 * (c * c * d) + d * d * d) ≤ (c * c * c + 3 * (c * d * d)) + (3 * (a * a * b) + b * b * b)
    by (inl (x, e)) (inl (y, g)) = let k : x ≤ y = omega arith in rw (e, g) (omega (arith, cubed k))
    by (inl (x, e)) (inr (y, g)) =
        let k : x ≤ 0 = omega arith in
        let l : y ≤ 0 = omega arith in
        rw (e, g) (omega (arith, cubed k, cubed l))
    by (inr (x, e)) (inl (y, g)) = rw (e, g) (omega arith)
    by (inr (x, e)) (inr (y, g)) = let k : y ≤ x = omega arith in rw (e, g) (omega (arith, cubed k))

-- the cube of a product, and a product with a square
spread : (p m e : ℕ) → (p * p * p + 3 * (p * m * m)) * (e * e * e) ≡ p * e * (p * e) * (p * e) + 3 * (p * e * (m * e) * (m * e))
spread p m e = omega arith

spread' : (p m e : ℕ) → (3 * (p * p * m) + m * m * m) * (e * e * e) ≡ 3 * (p * e * (p * e) * (m * e)) + m * e * (m * e) * (m * e)
spread' p m e = omega arith

pub cube_s_mono : (x y : SignedFraction) → x ≤S y → cube_s x ≤S cube_s y
cube_s_mono x y h =
    rw (spread x.plus x.minus y.den, spread' y.plus y.minus x.den, spread y.plus y.minus x.den, spread' x.plus x.minus y.den)
    (cubes (x.plus * y.den) (x.minus * y.den) (y.plus * x.den) (y.minus * x.den) h)

pub times_s_mono : (n : ℕ) (x y : SignedFraction) → x ≤S y → times_s n x ≤S times_s n y
times_s_mono n x y h = omega (arith, h · n)

-- ---- what is at least an exact demand stays so when it grows

pub at_least_mono : (e : Exact) (x y : SignedFraction) → ProperS x → x ≤S y → at_least e x → at_least e y
at_least_mono (value v) x y p h k = ≤S_trans v x y p k h
at_least_mono (root_third j j0 w) x y p h k =
    ≤S_trans (signed (times j (cube w))) (times_s (27 * j0) (cube_s x)) (times_s (27 * j0) (cube_s y)) (pos_cube p) k
    (times_s_mono (27 * j0) (cube_s x) (cube_s y) (cube_s_mono x y h))
at_least_mono (larger_of d e) x y p h k = (at_least_mono d x y p h k.0, at_least_mono e x y p h k.1)
at_least_mono (smaller_of d e) x y p h (inl k) = inl (at_least_mono d x y p h k)
at_least_mono (smaller_of d e) x y p h (inr k) = inr (at_least_mono e x y p h k)
