-- One verdict: its range, and how many checks it can hold. Assumes nothing.
use mathlib.Core.Path.{◌≡◌, refl, sym, ap, ◌∙◌}
use mathlib.Core.Bool.{Bool, true, false, not, true≢false}
use mathlib.Core.Logic.{◌⊎◌, inl, inr}
use Prim.Native.Nat.{ℕ, zero, suc, ◌*◌, ◌/◌, ◌≤◌, ◌<◌, zero-le}
use native.Mathlib.Nat.{eq-zero-or-pos, div-add-mod', le_refl, zero-lt-suc, not-suc-le-zero, le_trans}
use native.Mathlib.Omega.{arith}
use borrow.Author.Tests.{le-leb, leb-true, eqb-true, eqb-false}
use lib.Arith.{half_le}
use lib.Count.{ones_in, ones, ones-le, ones_step}
use lib.Dec.{T, eqb}
use lib.IntN.{ℤ, pos, negsuc, nat_abs}
use lib.Signed.{non_neg}
use mir.Facts.{to_z-of_z}
use mir.Syntax.{w64}
use mir.Val.{SFits, bool_byte, to_z, of_z}
use Rattle.totals.specs.Rows.{good_verdict, row_failed, checks_of}

-- ---- the range

pub number_good : (v : ℕ) → v ≤ 255 → good_verdict (pos v) ≡ true
unfolding good_verdict
number_good v h = le-leb v 255 h

pub good_not_negative : (v : ℤ) → good_verdict v ≡ true → T (non_neg v)
unfolding good_verdict
good_not_negative (pos v) e = tt
good_not_negative (negsuc v) e = absurd (true≢false (sym e))

pub good_below : (v : ℤ) → good_verdict v ≡ true → nat_abs v < 256
unfolding good_verdict
good_below (pos v) e = omega (arith, leb-true v 255 e)
good_below (negsuc v) e = absurd (true≢false (sym e))

pub good_fits : (v : ℤ) → good_verdict v ≡ true → SFits w64 v
unfolding good_verdict
good_fits (pos v) e = record { sfits = omega (arith, leb-true v 255 e) }
good_fits (negsuc v) e = absurd (true≢false (sym e))

-- ---- the row

pub row_passed : (v : ℤ) → v ≡ pos 0 → row_failed v ≡ 0
unfolding row_failed
row_passed v e = ap row_failed e

pub row_not_passed : (v : ℤ) → (v ≡ pos 0 → ⊥) → row_failed v ≡ 1
unfolding row_failed
row_not_passed (pos zero) h = absurd (h refl)
row_not_passed (pos (suc v)) h = refl
row_not_passed (negsuc v) h = refl

-- a word that is not 0 counts one, as the language's byte of that test
pub failed_byte : (v : ℤ) → SFits w64 v → bool_byte (not (eqb (of_z w64 v) 0)) ≡ row_failed v
failed_byte v f = go (eqb (of_z w64 v) 0) refl
  where
    go : (b : Bool) → eqb (of_z w64 v) 0 ≡ b → bool_byte (not b) ≡ row_failed v
    go true e = sym (row_passed v (sym (to_z-of_z f) ∙ ap (to_z w64) (eqb-true _ 0 e)))
    go false e = sym (row_not_passed v (λ z. eqb-false _ 0 e (ap (of_z w64) z)))

pub row_failed_le : (v : ℤ) → row_failed v ≤ 1
unfolding row_failed
row_failed_le (pos zero) = zero-le
row_failed_le (pos (suc v)) = le_refl 1
row_failed_le (negsuc v) = le_refl 1

-- ---- its checks

-- a verdict has eight binary digits
pub checks_le : (v : ℤ) → good_verdict v ≡ true → checks_of v ≤ 8
unfolding checks_of
checks_le v e = ones-le 8 (nat_abs v) (good_below v e)

-- a number that is not 0 has a digit that is 1
ones_some : (k n : ℕ) → n ≤ k → 0 < n → 0 < ones n
ones_some zero n h p = absurd (not-suc-le-zero (le_trans p h))
ones_some (suc k) zero h p = absurd (not-suc-le-zero p)
ones_some (suc k) (suc n) h p = go (ones_some k (suc n / 2) (half_le h)) (eq-zero-or-pos (suc n / 2))
  where
    go : (0 < suc n / 2 → 0 < ones (suc n / 2)) → (suc n / 2 ≡ 0) ⊎ (0 < suc n / 2) → 0 < ones (suc n)
    go rest (inl e) = omega (arith, ones_step (suc n), div-add-mod' (suc n) 2, ap (λ (q : ℕ). q * 2) e)
    go rest (inr q) = omega (arith, ones_step (suc n), rest q)

-- a row that failed has a check that failed
pub row_has_check : (v : ℤ) → row_failed v ≤ checks_of v
unfolding row_failed checks_of
row_has_check (pos zero) = zero-le
row_has_check (pos (suc v)) = ones_some (suc v) (suc v) (le_refl (suc v)) (zero-lt-suc v)
row_has_check (negsuc v) = ones_some (suc v) (suc v) (le_refl (suc v)) (zero-lt-suc v)

-- a row that passed has none
pub row_without_check : (v : ℤ) → row_failed v ≡ 0 → checks_of v ≡ 0
unfolding row_failed checks_of ones_in ones
row_without_check (pos zero) e = refl
row_without_check (pos (suc v)) e = omega (arith, e)
row_without_check (negsuc v) e = omega (arith, e)
