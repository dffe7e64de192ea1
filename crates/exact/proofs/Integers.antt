-- The integers read by naturals: z is `above z` less `below z`, with one law for each operation, each order and each range,
-- so that `omega` proves facts of ℤ: `omega (ints, +ℤ_law x y)`. Assumes nothing.
use mathlib.Core.Path.{◌≡◌, refl, ap, ◌∙◌, subst}
use mathlib.Core.Bool.{Bool, true, false, not, cond}
use Prim.Native.Nat.{ℕ, zero, suc, ◌+◌, ◌-◌, ◌*◌, ◌^◌, ◌≤◌, ◌<◌}
use native.Mathlib.Omega.{arith}
use lib.Dec.{T, ltb, ltb→lt, nltb→le, leb→le, le→leb, lt→ltb}
use lib.IntN.{ℤ, pos, negsuc, neg_ℤ, sub_ℕ, ◌+ℤ◌, ◌-ℤ◌, ◌*ℤ◌, nat_abs}
use lib.Signed.{mag, le_z, lt_z, ◌≤ℤ◌, ◌<ℤ◌}
use mir.Syntax.{w32, w64}
use mir.Val.{SFits, to_z, of_z}
use mir.Facts.{to_z-of_z}
use Rattle.exact.specs.SignedFraction.{above, below}

-- ---- the operations

by_test : (c : Bool) (x y : ℤ) (P : ℤ → Type 0) → (T c → P x) → (T (not c) → P y) → P (cond c x y)
by_test true x y P f g = f tt
by_test false x y P f g = g tt

pub sub_ℕ_law : (a b : ℕ) → above (sub_ℕ a b) + b ≡ below (sub_ℕ a b) + a
sub_ℕ_law a b =
    by_test (ltb a b) (negsuc (b - suc a)) (pos (a - b)) (λ z. above z + b ≡ below z + a) (λ t. less a b (ltb→lt a b t))
    (λ t. more a b (nltb→le a b t))
  where
    less : (a b : ℕ) → a < b → 0 + b ≡ suc (b - suc a) + a
    less a b h = omega arith

    more : (a b : ℕ) → b ≤ a → (a - b) + b ≡ 0 + a
    more a b h = omega arith

pub +ℤ_law : (x y : ℤ) → above (x +ℤ y) + (below x + below y) ≡ below (x +ℤ y) + (above x + above y)
+ℤ_law (pos a) (pos b) = omega arith
+ℤ_law (pos a) (negsuc b) = omega (arith, sub_ℕ_law a (suc b))
+ℤ_law (negsuc a) (pos b) = omega (arith, sub_ℕ_law b (suc a))
+ℤ_law (negsuc a) (negsuc b) = omega arith

pub above_neg : (x : ℤ) → above (neg_ℤ x) ≡ below x
above_neg (pos zero) = refl
above_neg (pos (suc n)) = refl
above_neg (negsuc n) = refl

pub below_neg : (x : ℤ) → below (neg_ℤ x) ≡ above x
below_neg (pos zero) = refl
below_neg (pos (suc n)) = refl
below_neg (negsuc n) = refl

pub -ℤ_law : (x y : ℤ) → above (x -ℤ y) + (below x + above y) ≡ below (x -ℤ y) + (above x + below y)
-ℤ_law x y = omega (arith, +ℤ_law x (neg_ℤ y), above_neg y, below_neg y)

pub *ℤ_law : (x y : ℤ) → above (x *ℤ y) + (above x * below y + below x * above y) ≡ below (x *ℤ y) + (above x * above y + below x * below y)
*ℤ_law (pos a) (pos b) = omega arith
*ℤ_law (pos a) (negsuc b) = omega (arith, above_neg (pos (a * suc b)), below_neg (pos (a * suc b)))
*ℤ_law (negsuc a) (pos b) = omega (arith, above_neg (pos (suc a * b)), below_neg (pos (suc a * b)))
*ℤ_law (negsuc a) (negsuc b) = omega arith

pub nat_abs_law : (x : ℤ) → nat_abs x ≡ above x + below x
nat_abs_law (pos a) = omega arith
nat_abs_law (negsuc a) = omega arith

pub nat_abs_neg : (x : ℤ) → nat_abs (neg_ℤ x) ≡ nat_abs x
nat_abs_neg (pos zero) = refl
nat_abs_neg (pos (suc n)) = refl
nat_abs_neg (negsuc n) = refl

-- the size of a difference
pub size_of_difference : (a b : ℕ) → nat_abs (sub_ℕ a b) ≡ (a - b) + (b - a)
size_of_difference a b = by (sub_ℕ a b) (sub_ℕ_law a b)
  where
    by : (z : ℤ) → above z + b ≡ below z + a → nat_abs z ≡ (a - b) + (b - a)
    by (pos n) e = omega arith
    by (negsuc n) e = omega arith

pub nat_abs_sub_ℕ : (a b : ℕ) → nat_abs (sub_ℕ a b) ≤ a + b
nat_abs_sub_ℕ a b = omega (arith, size_of_difference a b)

pub nat_abs_+ℤ : (x y : ℤ) → nat_abs (x +ℤ y) ≤ nat_abs x + nat_abs y
nat_abs_+ℤ (pos a) (pos b) = omega arith
nat_abs_+ℤ (pos a) (negsuc b) = nat_abs_sub_ℕ a (suc b)
nat_abs_+ℤ (negsuc a) (pos b) = omega (arith, nat_abs_sub_ℕ b (suc a))
nat_abs_+ℤ (negsuc a) (negsuc b) = omega arith

pub nat_abs_*ℤ : (x y : ℤ) → nat_abs (x *ℤ y) ≡ nat_abs x * nat_abs y
nat_abs_*ℤ (pos a) (pos b) = refl
nat_abs_*ℤ (pos a) (negsuc b) = nat_abs_neg (pos (a * suc b))
nat_abs_*ℤ (negsuc a) (pos b) = nat_abs_neg (pos (suc a * b))
nat_abs_*ℤ (negsuc a) (negsuc b) = refl

-- ---- the orders and equality, from ℤ to ℕ and back

pub ≤ℤ_out : {x y : ℤ} → x ≤ℤ y → above x + below y ≤ above y + below x
≤ℤ_out {x} {y} h = out x y h.le
  where
    out : (x y : ℤ) → T (le_z x y) → above x + below y ≤ above y + below x
    out (pos a) (pos b) t = omega (arith, leb→le a b t)
    out (pos a) (negsuc b) t = absurd t
    out (negsuc a) (pos b) t = omega arith
    out (negsuc a) (negsuc b) t = omega (arith, leb→le b a t)

pub <ℤ_out : {x y : ℤ} → x <ℤ y → above x + below y < above y + below x
<ℤ_out {x} {y} h = out x y h.lt
  where
    out : (x y : ℤ) → T (lt_z x y) → above x + below y < above y + below x
    out (pos a) (pos b) t = omega (arith, ltb→lt a b t)
    out (pos a) (negsuc b) t = absurd t
    out (negsuc a) (pos b) t = omega arith
    out (negsuc a) (negsuc b) t = omega (arith, ltb→lt b a t)

pub ≤ℤ_in : (x y : ℤ) → above x + below y ≤ above y + below x → x ≤ℤ y
≤ℤ_in x y h = record { le = in' x y h }
  where
    none : (a b : ℕ) → a + suc b ≤ 0 + 0 → ⊥
    none a b h = omega arith

    in' : (x y : ℤ) → above x + below y ≤ above y + below x → T (le_z x y)
    in' (pos a) (pos b) h = le→leb a b (omega arith)
    in' (pos a) (negsuc b) h = absurd (none a b h)
    in' (negsuc a) (pos b) h = tt
    in' (negsuc a) (negsuc b) h = le→leb b a (omega arith)

pub <ℤ_in : (x y : ℤ) → above x + below y < above y + below x → x <ℤ y
<ℤ_in x y h = record { lt = in' x y h }
  where
    none : (a b : ℕ) → a + suc b < 0 + 0 → ⊥
    none a b h = omega arith

    in' : (x y : ℤ) → above x + below y < above y + below x → T (lt_z x y)
    in' (pos a) (pos b) h = lt→ltb a b (omega arith)
    in' (pos a) (negsuc b) h = absurd (none a b h)
    in' (negsuc a) (pos b) h = tt
    in' (negsuc a) (negsuc b) h = lt→ltb b a (omega arith)

pub ≡_in : (x y : ℤ) → above x + below y ≡ above y + below x → x ≡ y
≡_in (pos a) (pos b) h = ap pos (omega arith)
≡_in (pos a) (negsuc b) h = absurd (none a b h)
  where
    none : (a b : ℕ) → a + suc b ≡ 0 + 0 → ⊥
    none a b h = omega arith
≡_in (negsuc a) (pos b) h = absurd (none a b h)
  where
    none : (a b : ℕ) → 0 + 0 ≡ b + suc a → ⊥
    none a b h = omega arith
≡_in (negsuc a) (negsuc b) h = ap negsuc (omega arith)

-- 0 − z
pub negated : (z : ℤ) → pos 0 -ℤ z ≡ neg_ℤ z
negated z = ≡_in (pos 0 -ℤ z) (neg_ℤ z) (omega (arith, -ℤ_law (pos 0) z, above_neg z, below_neg z))

pub ≡_out : {x y : ℤ} → x ≡ y → above x + below y ≡ above y + below x
≡_out {x} {y} h = subst (λ (z : ℤ). above x + below z ≡ above z + below x) h (omega arith)

-- ---- the range of an i64

pub fits_above : {x : ℤ} → SFits w64 x → above x < 2 ^ 63
fits_above {x = pos n} f = f.sfits
fits_above {x = negsuc n} f = omega arith

pub fits_below : {x : ℤ} → SFits w64 x → below x ≤ 2 ^ 63
fits_below {x = pos n} f = omega arith
fits_below {x = negsuc n} f = f.sfits

pub fits_in : (x : ℤ) → above x < 2 ^ 63 → below x ≤ 2 ^ 63 → SFits w64 x
fits_in (pos n) h k = record { sfits = h }
fits_in (negsuc n) h k = record { sfits = k }

-- a size below 2⁶³ fits
pub fits_size : (x : ℤ) → nat_abs x < 2 ^ 63 → SFits w64 x
fits_size x h = fits_in x (omega (arith, nat_abs_law x)) (omega (arith, nat_abs_law x))

-- a call's result is read back from its bits
pub returned : {z : ℤ} → mag z < 2 ^ 63 → to_z w64 (of_z w64 z) ≡ z
returned {z = z} h = to_z-of_z {w = w64} {z = z} (record { sfits = h })

-- the result by the call's equation
pub read_as : {z y : ℤ} → z ≡ y → mag z < 2 ^ 63 → to_z w64 (of_z w64 z) ≡ y
read_as e h = returned h ∙ e

-- ---- an i32

pub widened : {z : ℤ} → SFits w32 z → SFits w64 z
widened {z = pos n} f = let h = f.sfits in record { sfits = omega arith }
widened {z = negsuc n} f = let h = f.sfits in record { sfits = omega arith }

pub size32 : {z : ℤ} → SFits w32 z → nat_abs z < 2 ^ 32
size32 {z = pos n} f = let h = f.sfits in omega arith
size32 {z = negsuc n} f = let h = f.sfits in omega arith

-- an operand of up to 10⁸
pub read32 : (z : ℤ) → nat_abs z ≤ 100000000 → to_z w32 (of_z w32 z) ≡ z
read32 z h = to_z-of_z (fits z h)
  where
    fits : (z : ℤ) → nat_abs z ≤ 100000000 → SFits w32 z
    fits (pos n) h = record { sfits = omega arith }
    fits (negsuc n) h = record { sfits = omega arith }

pub ruleset ints = (arith, ≤ℤ_out, <ℤ_out, ≡_out, fits_above, fits_below, ≤ℤ_in, <ℤ_in)
