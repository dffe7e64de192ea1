-- The laws of decimals: a number below 10 is one digit; another is the decimal of its tenth and one digit more; and the
-- number of digits is at least 1 and bounded by a power of ten. Read back, a decimal is the number. Assumes nothing.
use mathlib.Core.Path.{◌≡◌, refl, sym, ap, ◌∙◌}
use mathlib.Core.Bool.{Bool, true, false}
use mathlib.Core.Logic.{◌⊎◌, inl, inr, ⊎_elim}
use mathlib.Core.List.{List, [], ◌∷◌, ◌++◌}
use Prim.Native.Nat.{ℕ, zero, suc, ◌+◌, ◌-◌, ◌*◌, ◌/◌, ◌%◌, ◌^◌, ◌≤◌, ◌<◌}
use native.Mathlib.Nat.{pow-suc, lt_of_lt_of_le, lt_of_le_of_lt}
use native.Mathlib.Omega.{arith}
use borrow.Author.Tests.{lt-ltb, le-ltb, ltb-true, ltb-false}
use lib.Dec.{ltb, lit≤, lit<}
use lib.IntN.{ℤ, pos, negsuc}
use lib.ListN.{length, length-append}
use mir.Syntax.{w64}
use mir.Val.{SFits}
use Rattle.text.specs.Decimal.{digit, digits, decimal, signed_decimal, number_from, number_of}

pub one_digit_or_more : (n : ℕ) → (n < 10) ⊎ (10 ≤ n)
one_digit_or_more n = test (ltb n 10) refl
  where
    test : (b : Bool) → ltb n 10 ≡ b → (n < 10) ⊎ (10 ≤ n)
    test true e = inl (ltb-true n 10 e)
    test false e = inr (ltb-false n 10 e)

digits_one : (places n : ℕ) → n < 10 → digits (suc places) n ≡ digit n ∷ []
unfolding digits
digits_one places n h = rw (lt-ltb n 10 h)

digits_more : (places n : ℕ) → 10 ≤ n → digits (suc places) n ≡ digits places (n / 10) ++ digit (n % 10) ∷ []
unfolding digits
digits_more places n h = rw (le-ltb n 10 h)

-- any number of places that is enough gives the same digits
enough : (k m n : ℕ) → n ≤ k → n ≤ m → digits (suc k) n ≡ digits (suc m) n
enough zero m n hk hm = digits_one zero n (omega arith) ∙ sym (digits_one m n (omega arith))
enough (suc k) zero n hk hm = digits_one (suc k) n (omega arith) ∙ sym (digits_one zero n (omega arith))
enough (suc k) (suc m) n hk hm =
    ⊎_elim (λ h. digits_one (suc k) n h ∙ sym (digits_one (suc m) n h))
    (λ h. rw (digits_more (suc k) n h, digits_more (suc m) n h, enough k m (n / 10) (omega arith) (omega arith)))
    (one_digit_or_more n)

pub decimal_one : (n : ℕ) → n < 10 → decimal n ≡ digit n ∷ []
unfolding decimal
decimal_one n h = digits_one n n h

pub decimal_more : (n : ℕ) → 10 ≤ n → decimal n ≡ decimal (n / 10) ++ digit (n % 10) ∷ []
unfolding decimal
decimal_more zero h = absurd (omega arith)
decimal_more (suc n) h =
    rw (digits_more (suc n) (suc n) h, enough n (suc n / 10) (suc n / 10) (omega arith) (omega arith))

-- ---- a decimal read back is the number

number_last : (n : ℕ) (bytes : List ℕ) (b : ℕ) → number_from n (bytes ++ b ∷ []) ≡ number_from n bytes * 10 + (b - 48)
number_last n [] b = refl
number_last n (c ∷ bytes) b = number_last (n * 10 + (c - 48)) bytes b

digits_read : (places n : ℕ) → n ≤ places → number_from 0 (digits (suc places) n) ≡ n
digits_read zero n h = rw (digits_one zero n (omega arith)) (omega arith)
digits_read (suc places) n h =
    ⊎_elim (λ s. rw (digits_one (suc places) n s) (omega arith))
    (λ l. rw (digits_more (suc places) n l, number_last 0 (digits (suc places) (n / 10)) (digit (n % 10)), digits_read places (n / 10) (omega arith)) (omega arith))
    (one_digit_or_more n)

pub decimal_read : (n : ℕ) → number_of (decimal n) ≡ n
unfolding decimal
decimal_read n = digits_read n n (omega arith)

-- ---- the number of digits

pub length_one : (n : ℕ) → n < 10 → length (decimal n) ≡ 1
length_one n h = ap length (decimal_one n h)

pub length_more : (n : ℕ) → 10 ≤ n → length (decimal n) ≡ length (decimal (n / 10)) + 1
length_more n h = ap length (decimal_more n h) ∙ length-append (decimal (n / 10)) (digit (n % 10) ∷ [])

pub some_digit : (n : ℕ) → 1 ≤ length (decimal n)
some_digit n = ⊎_elim (λ h. omega (arith, length_one n h)) (λ h. omega (arith, length_more n h)) (one_digit_or_more n)

-- a number below 10ᵏ⁺¹ has at most k + 1 digits
pub length_below : (k n : ℕ) → n < 10 ^ suc k → length (decimal n) ≤ suc k
length_below zero n h = omega (arith, length_one n h)
length_below (suc k) n h =
    let p : n < 10 ^ suc k * 10 = rw (pow-suc 10 (suc k)) at h in
    ⊎_elim (λ s. omega (arith, length_one n s))
    (λ l. omega (arith, length_more n l, length_below k (n / 10) (omega arith))) (one_digit_or_more n)

-- one from 10ᵏ on has more than k
pub length_from : (k n : ℕ) → 10 ^ k ≤ n → suc k ≤ length (decimal n)
length_from zero n h = some_digit n
length_from (suc k) n h =
    let p : 10 ^ k * 10 ≤ n = rw (pow-suc 10 k) at h in
    let l : 10 ≤ n = omega (arith, pos_pow k) in
    omega (arith, length_more n l, length_from k (n / 10) (omega arith))
  where
    pos_pow : (k : ℕ) → 1 ≤ 10 ^ k
    pos_pow zero = omega arith
    pos_pow (suc k) = rw (pow-suc 10 k) (omega (arith, pos_pow k))

-- a u64 has at most 20 digits
pub length_decimal : (n : ℕ) → n < 2 ^ 64 → length (decimal n) ≤ 20
length_decimal n h = length_below 19 n (lt_of_lt_of_le h (lit≤ tt))

-- an i64 takes at most 20 bytes: a minus and 19 digits
pub length_signed : (z : ℤ) → SFits w64 z → length (signed_decimal z) ≤ 20
unfolding signed_decimal
length_signed (pos n) f = omega (arith, length_below 18 n (lt_of_lt_of_le f.sfits (lit≤ tt)))
length_signed (negsuc n) f = omega (arith, length_below 18 (suc n) (lt_of_le_of_lt f.sfits (lit< tt)))
