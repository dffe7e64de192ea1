-- The bytes of a decimal are those of digits, 48 to 57. Assumes nothing.
use mathlib.Core.List.{List, [], ◌∷◌, ◌++◌}
use mathlib.Core.Logic.{⊎_elim}
use Prim.Native.Nat.{ℕ, zero, suc, ◌/◌, ◌%◌, ◌≤◌}
use native.Mathlib.Omega.{arith}
use Rattle.text.specs.Decimal.{digit, decimal}
use Rattle.text.proofs.Digits.{one_digit_or_more, decimal_one, decimal_more}

-- each byte of a list lies between two
pub record Between (least most b : ℕ) : Type 0 where
  pub from : least ≤ b
  pub to : b ≤ most

module _ (least most : ℕ) where
  abbrev pub AllBetween : List ℕ → Type 0
  AllBetween [] = Unit {0}
  AllBetween (b ∷ bytes) = Between least most b × AllBetween bytes

  pub all_append : (a b : List ℕ) → AllBetween a → AllBetween b → AllBetween (a ++ b)
  all_append [] b p q = q
  all_append (x ∷ a) b p q = (p.0, all_append a b p.1 q)

pub wider : (least most : ℕ) (bytes : List ℕ) → least ≤ 48 → 57 ≤ most → AllBetween 48 57 bytes → AllBetween least most bytes
wider least most [] h k p = tt
wider least most (b ∷ bytes) h k p = (record { from = omega (arith, p.0.from); to = omega (arith, p.0.to) }, wider least most bytes h k p.1)

digits_up_to : (k n : ℕ) → n ≤ k → AllBetween 48 57 (decimal n)
digits_up_to zero n h = rw (decimal_one n (omega arith)) (record { from = omega arith; to = omega arith }, tt)
digits_up_to (suc k) n h =
    ⊎_elim (λ s. rw (decimal_one n s) (record { from = omega arith; to = omega arith }, tt))
    (λ l.
    rw (decimal_more n l)
    (all_append 48 57 (decimal (n / 10)) (digit (n % 10) ∷ []) (digits_up_to k (n / 10) (omega arith)) (record { from = omega arith; to = omega arith }, tt)))
    (one_digit_or_more n)

pub decimal_digits : (n : ℕ) → AllBetween 48 57 (decimal n)
decimal_digits n = digits_up_to n n (omega arith)
