-- A signed number by its sign and its size. The sign is a test, as a branch leaves it. Assumes nothing.
use mathlib.Core.Path.{◌≡◌, refl}
use mathlib.Core.Bool.{true, false}
use mathlib.Core.List.{◌∷◌}
use Prim.Native.Nat.{ℕ, ◌≤◌}
use native.Mathlib.Omega.{arith}
use borrow.Author.Tests.{ltb-true}
use lib.IntN.{ℤ, pos, negsuc, nat_abs}
use lib.ListN.{length}
use lib.Signed.{lt_z}
use mir.Facts.{to_z-of_z}
use mir.Syntax.{w64}
use mir.Val.{SFits, to_z, of_z}
use Rattle.text.specs.Decimal.{decimal, signed_decimal, minus}

not_below : (n : ℕ) → lt_z (pos n) (pos 0) ≡ true → ⊥
not_below n t = omega (arith, ltb-true n 0 t)

not_from : true ≡ false → ⊥
not_from t = let z : ◌≡◌ {A = ℕ} 0 1 = cc in omega arith

pub signed_below : (z : ℤ) → lt_z z (pos 0) ≡ true → signed_decimal z ≡ minus ∷ decimal (nat_abs z)
unfolding signed_decimal
signed_below (pos n) t = absurd (not_below n t)
signed_below (negsuc n) t = refl

-- from zero up
pub signed_from : (z : ℤ) → lt_z z (pos 0) ≡ false → signed_decimal z ≡ decimal (nat_abs z)
unfolding signed_decimal
signed_from (pos n) t = refl
signed_from (negsuc n) t = absurd (not_from t)

-- the same of an i64 that is read back from its bits
pub below_read : {z : ℤ} {n : ℕ} → SFits w64 z → n ≡ nat_abs (to_z w64 (of_z w64 z)) → lt_z (to_z w64 (of_z w64 z)) (pos 0) ≡ true → signed_decimal z ≡ minus ∷ decimal n
below_read {z} {n} f e t = rw (e, to_z-of_z f) (signed_below z (rw (to_z-of_z f) at t))

pub from_read : {z : ℤ} {n : ℕ} → SFits w64 z → n ≡ nat_abs (to_z w64 (of_z w64 z)) → lt_z (to_z w64 (of_z w64 z)) (pos 0) ≡ false → signed_decimal z ≡ decimal n
from_read {z} {n} f e t = rw (e, to_z-of_z f) (signed_from z (rw (to_z-of_z f) at t))

-- the size takes no more characters
pub length_size : (z : ℤ) → length (decimal (nat_abs z)) ≤ length (signed_decimal z)
unfolding signed_decimal
length_size (pos n) = omega arith
length_size (negsuc n) = omega arith
