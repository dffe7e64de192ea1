-- Values that are not too wide, by their size: a number below 10ᵏ⁺¹ has at most k + 1 digits, and a minus is one character more; so no value
-- of a row is too wide whose offset has at most 6 digits, its byte 2, words 2 to 6 at most 11 and its verdict 3. Assumes nothing.
use mathlib.Core.Path.{◌≡◌}
use mathlib.Core.Bool.{false}
use mathlib.Core.List.{[], ◌∷◌}
use Prim.Native.Nat.{ℕ, suc, ◌^◌, ◌≤◌, ◌<◌}
use native.Mathlib.Nat.{lt_of_le_of_lt}
use native.Mathlib.Omega.{arith}
use lib.Dec.{lit<}
use lib.IntN.{ℤ, pos, negsuc, nat_abs}
use Rattle.text.specs.Decimal.{signed_decimal}
use Rattle.text.proofs.Digits.{length_below}
use Rattle.printing.specs.Page.{widths}
use Rattle.printing.specs.Answers.{too_wide, any_too_wide}
use Rattle.printing.proofs.Values.{narrow}

natural_narrow : (k width n : ℕ) → suc k < width → n < 10 ^ suc k → too_wide width (pos n) ≡ false
unfolding signed_decimal
natural_narrow k width n w h = narrow width (pos n) (omega (arith, length_below k n h))

signed_narrow : (k width : ℕ) (z : ℤ) → suc (suc k) < width → nat_abs z < 10 ^ suc k → too_wide width z ≡ false
unfolding signed_decimal
signed_narrow k width (pos n) w h = natural_narrow k width n (omega arith) h
signed_narrow k width (negsuc n) w h = narrow width (negsuc n) (omega (arith, length_below k (suc n) h))

-- words 2 to 6
word_narrow : (z : ℤ) → nat_abs z ≤ 99999999999 → too_wide 13 z ≡ false
word_narrow z h = signed_narrow 10 13 z (omega arith) (lt_of_le_of_lt h (lit< tt))

pub row_narrow : (offset byte : ℕ) (w2 w3 w4 w5 w6 verdict : ℤ) → offset ≤ 999999 → byte ≤ 99 → nat_abs w2 ≤ 99999999999 → nat_abs w3 ≤ 99999999999 →
    nat_abs w4 ≤ 99999999999 → nat_abs w5 ≤ 99999999999 → nat_abs w6 ≤ 99999999999 → nat_abs verdict ≤ 999 →
    any_too_wide widths (pos offset ∷ pos byte ∷ w2 ∷ w3 ∷ w4 ∷ w5 ∷ w6 ∷ verdict ∷ []) ≡ false
unfolding any_too_wide
row_narrow offset byte w2 w3 w4 w5 w6 verdict o b h2 h3 h4 h5 h6 v =
    rw (
      natural_narrow 5 7 offset (omega arith) (lt_of_le_of_lt o (lit< tt)),
      natural_narrow 1 3 byte (omega arith) (lt_of_le_of_lt b (lit< tt)),
      word_narrow w2 h2,
      word_narrow w3 h3,
      word_narrow w4 h4,
      word_narrow w5 h5,
      word_narrow w6 h6,
      signed_narrow 2 5 verdict (omega arith) (lt_of_le_of_lt v (lit< tt)),
    )
