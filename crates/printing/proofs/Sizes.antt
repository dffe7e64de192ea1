-- A value is too wide by its size: a negative one from 10 to the power of the width less two on, another from ten times that on; so it
-- is too wide outside of two values. Assumes nothing.
use mathlib.Core.Path.{◌≡◌, refl, sym, ap, ◌∙◌}
use mathlib.Core.Bool.{Bool, true, false, not, ◌&&◌, true≢false}
use Prim.Native.Nat.{ℕ, suc, ◌-◌, ◌*◌, ◌^◌, ◌≤◌}
use native.Mathlib.Nat.{pow-suc}
use native.Mathlib.Omega.{arith}
use borrow.Author.Tests.{ltb-true, lt-ltb, le-ltb}
use lib.Dec.{leb, ltb, leb-suc-suc}
use lib.IntN.{ℤ, pos, negsuc, nat_abs}
use lib.Signed.{lt_z, le_z}
use Rattle.text.specs.Decimal.{signed_decimal}
use Rattle.text.proofs.Digits.{length_below, length_from}
use Rattle.printing.specs.Answers.{too_wide}
use Rattle.printing.proofs.Values.{wide, narrow, same_test}

-- of a width of k + 3
natural_test : (k n : ℕ) → leb (10 * 10 ^ suc k) n ≡ too_wide (suc (suc (suc k))) (pos n)
unfolding signed_decimal
natural_test k n =
    let p : 10 ^ suc (suc k) ≡ 10 * 10 ^ suc k = pow-suc 10 (suc k) ∙ omega arith in
    same_test (10 * 10 ^ suc k) n (too_wide (suc (suc (suc k))) (pos n))
    (λ h. wide (suc (suc (suc k))) (pos n) (length_from (suc (suc k)) n (omega (arith, p))))
    (λ l. narrow (suc (suc (suc k))) (pos n) (omega (arith, length_below (suc k) n (omega (arith, p)))))

negative_test : (k n : ℕ) → leb (10 ^ suc k) (suc n) ≡ too_wide (suc (suc (suc k))) (negsuc n)
unfolding signed_decimal
negative_test k n =
    same_test (10 ^ suc k) (suc n) (too_wide (suc (suc (suc k))) (negsuc n))
    (λ h. wide (suc (suc (suc k))) (negsuc n) (omega (arith, length_from (suc k) (suc n) h)))
    (λ l. narrow (suc (suc (suc k))) (negsuc n) (omega (arith, length_below k (suc n) l)))

module _ (width : ℕ) (h : 3 ≤ width) (z : ℤ) where
  above_two : suc (suc (suc (width - 3))) ≡ width
  above_two = omega arith

  power : 10 ^ suc (width - 3) ≡ 10 ^ (width - 2)
  power = ap (λ (k : ℕ). 10 ^ k) (omega arith)

  pub test_below : lt_z z (pos 0) ≡ true → leb (10 ^ (width - 2)) (nat_abs z) ≡ too_wide width z
  test_below t = by z t
    where
      by : (z : ℤ) → lt_z z (pos 0) ≡ true → leb (10 ^ (width - 2)) (nat_abs z) ≡ too_wide width z
      by (pos n) t = absurd (omega (arith, ltb-true n 0 t))
      by (negsuc n) t = rw (power, above_two) at (negative_test (width - 3) n)

  pub test_from : lt_z z (pos 0) ≡ false → leb (10 * 10 ^ (width - 2)) (nat_abs z) ≡ too_wide width z
  test_from t = by z t
    where
      by : (z : ℤ) → lt_z z (pos 0) ≡ false → leb (10 * 10 ^ (width - 2)) (nat_abs z) ≡ too_wide width z
      by (pos n) t = rw (power, above_two) at (natural_test (width - 3) n)
      by (negsuc n) t = absurd (true≢false t)

-- ---- outside of two values

not_leb : (n m : ℕ) → not (leb n m) ≡ leb (suc m) n
not_leb n m =
    ap not (same_test n m (not (ltb m n)) (λ h. ap not (le-ltb m n h)) (λ l. ap not (lt-ltb m n l))) ∙ twice (ltb m n)
  where
    twice : (b : Bool) → not (not b) ≡ b
    twice true = refl
    twice false = refl

-- the greatest value that is not too wide is one below ten times 10 to the power of the width less two, the least one above minus that
-- power
module _ (width below greatest : ℕ) (h : 3 ≤ width) (l : suc (suc below) ≡ 10 ^ (width - 2)) (g : suc greatest ≡ 10 * 10 ^ (width - 2)) where
  pub outside : (z : ℤ) → not (le_z (negsuc below) z && le_z z (pos greatest)) ≡ too_wide width z
  outside (pos n) = not_leb n greatest ∙ rw (sym g) at (test_from width h (pos n) (le-ltb n 0 (omega arith)))
  outside (negsuc n) = ap not (with_true (leb n below)) ∙ not_leb n below ∙ sym (leb-suc-suc (suc below) n) ∙ rw (sym l) at (test_below width h (negsuc n) refl)
    where
      with_true : (b : Bool) → (b && true) ≡ b
      with_true true = refl
      with_true false = refl
