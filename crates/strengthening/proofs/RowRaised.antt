-- Two rows that differ in one word and one flag of the verdict, raised in the second only where it is in the first: the second is the
-- stronger one, and it failed no more checks. Assumes nothing.
use mathlib.Core.Path.{◌≡◌, refl, sym, ◌∙◌, subst}
use mathlib.Core.Bool.{Bool, true, false, true≢false, ◌||◌, or-true}
use mathlib.Core.Logic.{inl, inr}
use Prim.Native.Nat.{ℕ, zero, suc, ◌+◌, ◌≤◌, ◌<◌}
use native.Mathlib.Nat.{le_refl}
use native.Mathlib.Omega.{arith}
use lib.Count.{ones_in, ones}
use lib.Dec.{ltb}
use lib.IntN.{ℤ, pos, negsuc, ◌+ℤ◌}
use lib.Signed.{lt_z}
use borrow.Author.Tests.{ltb-true, lt-ltb}
use Rattle.claims.specs.declared.Row.{Row}
use Rattle.claims.specs.Verdict.{flag}
use Rattle.claims.specs.Claims.{BitClear}
use Rattle.totals.specs.Rows.{row_failed, checks_of}
use Rattle.rows.specs.Rows.{words}
use Rattle.strengthening.specs.Raised.{word_of, Stronger}

-- ---- the verdict, by one of its flags

pub record OneFlag (bit : ℕ) (verdict : Bool → ℤ) : Type 0 where
  pub set : BitClear bit (verdict true) → ⊥
  pub clear : BitClear bit (verdict false)
  pub sum : verdict true ≡ verdict false +ℤ pos bit
  pub failed : row_failed (verdict false) ≤ row_failed (verdict true)
  pub checks : checks_of (verdict false) ≤ checks_of (verdict true)

pub flag_1 : OneFlag 1 (λ b. pos (flag 1 b))
unfolding row_failed checks_of ones ones_in
flag_1 = record { set = λ h. omega (arith, h); clear = refl; sum = refl; failed = omega arith; checks = omega arith }

pub flag_2 : OneFlag 2 (λ b. pos (flag 2 b))
unfolding row_failed checks_of ones ones_in
flag_2 = record { set = λ h. omega (arith, h); clear = refl; sum = refl; failed = omega arith; checks = omega arith }

-- beside another flag
pub flag_1_beside_2 : (z : Bool) → OneFlag 1 (λ b. pos (flag 1 b + flag 2 z))
unfolding row_failed checks_of ones ones_in
flag_1_beside_2 true = record { set = λ h. omega (arith, h); clear = refl; sum = refl; failed = omega arith; checks = omega arith }
flag_1_beside_2 false = record { set = λ h. omega (arith, h); clear = refl; sum = refl; failed = omega arith; checks = omega arith }

pub flag_1_beside_128 : (z : Bool) → OneFlag 1 (λ b. pos (flag 1 b + flag 128 z))
unfolding row_failed checks_of ones ones_in
flag_1_beside_128 true = record { set = λ h. omega (arith, h); clear = refl; sum = refl; failed = omega arith; checks = omega arith }
flag_1_beside_128 false = record { set = λ h. omega (arith, h); clear = refl; sum = refl; failed = omega arith; checks = omega arith }

pub flag_2_beside_1 : (z : Bool) → OneFlag 2 (λ b. pos (flag 1 z + flag 2 b))
unfolding row_failed checks_of ones ones_in
flag_2_beside_1 true = record { set = λ h. omega (arith, h); clear = refl; sum = refl; failed = omega arith; checks = omega arith }
flag_2_beside_1 false = record { set = λ h. omega (arith, h); clear = refl; sum = refl; failed = omega arith; checks = omega arith }

pub flag_8_beside_4 : (z : Bool) → OneFlag 8 (λ b. pos (flag 4 z + flag 8 b))
unfolding row_failed checks_of ones ones_in
flag_8_beside_4 true = record { set = λ h. omega (arith, h); clear = refl; sum = refl; failed = omega arith; checks = omega arith }
flag_8_beside_4 false = record { set = λ h. omega (arith, h); clear = refl; sum = refl; failed = omega arith; checks = omega arith }

-- ---- a demand that exceeds the greater strength exceeds the other

pub exceeds_less : (a b v : ℕ) → a ≤ b → ltb b v ≡ true → ltb a v ≡ true
exceeds_less a b v l e = lt-ltb a v (omega (arith, ltb-true b v e))

exceeds_less_z : (a b : ℕ) (z : ℤ) → a ≤ b → lt_z (pos b) z ≡ true → lt_z (pos a) z ≡ true
exceeds_less_z a b (pos v) l e = exceeds_less a b v l e
exceeds_less_z a b (negsuc v) l e = e

-- upper or minus lower
pub either_exceeds : (a b : ℕ) (upper lower : ℤ) → a ≤ b → (lt_z (pos b) upper || lt_z (pos b) lower) ≡ true → (lt_z (pos a) upper || lt_z (pos a) lower) ≡ true
either_exceeds a b upper lower l e = by (lt_z (pos b) upper) refl e
  where
    by : (t : Bool) → lt_z (pos b) upper ≡ t → (t || lt_z (pos b) lower) ≡ true → (lt_z (pos a) upper || lt_z (pos a) lower) ≡ true
    by true q h = rw (exceeds_less_z a b upper l q)
    by false q h = rw (exceeds_less_z a b lower l h) (or-true (lt_z (pos a) upper))

-- ---- the two rows

pub record RowRaised (first second : Row) (word bit : ℕ) : Type 0 where
  pub stronger : (offset byte : ℕ) → Stronger (words offset byte first) (words offset byte second) word bit
  pub failed : row_failed second.verdict ≤ row_failed first.verdict
  pub checks : checks_of second.verdict ≤ checks_of first.verdict

-- words 2 to 6 are equal but for one
pub record SameWords (first second : Row) (word : ℕ) : Type 0 where
  pub word2 : (2 ≡ word → ⊥) → second.word2 ≡ first.word2
  pub word3 : (3 ≡ word → ⊥) → second.word3 ≡ first.word3
  pub word4 : (4 ≡ word → ⊥) → second.word4 ≡ first.word4
  pub word5 : (5 ≡ word → ⊥) → second.word5 ≡ first.word5
  pub word6 : (6 ≡ word → ⊥) → second.word6 ≡ first.word6

words_equal : (first second : Row) (word : ℕ) → SameWords first second word → (offset byte w : ℕ) → w < 7 → (w ≡ word → ⊥) → word_of (words offset byte second) w ≡ word_of (words offset byte first) w
words_equal first second word s offset byte zero l n = refl
words_equal first second word s offset byte (suc zero) l n = refl
words_equal first second word s offset byte (suc (suc zero)) l n = s.word2 n
words_equal first second word s offset byte (suc (suc (suc zero))) l n = s.word3 n
words_equal first second word s offset byte (suc (suc (suc (suc zero)))) l n = s.word4 n
words_equal first second word s offset byte (suc (suc (suc (suc (suc zero))))) l n = s.word5 n
words_equal first second word s offset byte (suc (suc (suc (suc (suc (suc zero)))))) l n = s.word6 n
words_equal first second word s offset byte (suc (suc (suc (suc (suc (suc (suc w))))))) l n = absurd (many w l)
  where
    many : (w : ℕ) → suc (suc (suc (suc (suc (suc (suc w)))))) < 7 → ⊥
    many w l = omega arith

-- the flag is raised in the second only where it is in the first
module _ (first second : Row) (word bit : ℕ) (verdict : Bool → ℤ) (f : OneFlag bit verdict) (s : SameWords first second word) where
  same_verdict : second.verdict ≡ first.verdict → RowRaised first second word bit
  same_verdict e =
      record {
        stronger = λ offset byte. record { equal = words_equal first second word s offset byte; passed = λ c. subst (BitClear bit) (sym e) c; verdict = inl e };
        failed = rw e (le_refl (row_failed first.verdict));
        checks = rw e (le_refl (checks_of first.verdict));
      }

  pub row_raised : (x y : Bool) → first.verdict ≡ verdict x → second.verdict ≡ verdict y → (y ≡ true → x ≡ true) → RowRaised first second word bit
  row_raised true true e1 e2 h = same_verdict (e2 ∙ sym e1)
  row_raised false false e1 e2 h = same_verdict (e2 ∙ sym e1)
  row_raised true false e1 e2 h =
      record {
        stronger = λ offset byte.
            record {
              equal = words_equal first second word s offset byte;
              passed = λ c. subst (BitClear bit) (sym e2) f.clear;
              verdict = inr (λ c. f.set (subst (BitClear bit) e1 c), subst (BitClear bit) (sym e2) f.clear, rw (e1, e2) f.sum);
            };
        failed = rw (e1, e2) f.failed;
        checks = rw (e1, e2) f.checks;
      }
  row_raised false true e1 e2 h = absurd (true≢false (sym (h refl)))

-- a row that stays is as strong
pub row_stays : (row : Row) (word bit : ℕ) → RowRaised row row word bit
row_stays row word bit =
    record {
      stronger = λ offset byte. record { equal = λ w l n. refl; passed = λ c. c; verdict = inl refl };
      failed = le_refl (row_failed row.verdict);
      checks = le_refl (checks_of row.verdict);
    }
