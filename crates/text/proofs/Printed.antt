-- What the library prints of a number is its decimal of specs/Decimal.antt. Assumes nothing.
use mathlib.Core.Path.{◌≡◌, sym, ap, ◌∙◌}
use mathlib.Core.List.{◌∷◌, ◌++◌, []}
use Prim.Native.Nat.{ℕ, suc, ◌%◌, ◌^◌, ◌<◌}
use native.Mathlib.Nat.{lt_of_le_of_lt, lt_trans}
use lib.Dec.{lit<}
use lib.IntN.{ℤ, pos, negsuc}
use mir.Syntax.{w64}
use mir.Val.{SFits}
use Rattle.std.specs.Fmt as printed
use Rattle.std.proofs.lemmas.Fmt.{decimal_by_steps}
use Rattle.text.specs.Decimal.{digit, decimal, signed_decimal, minus}
use Rattle.text.proofs.Digits.{decimal_one, decimal_more}

pub decimal_printed : (n : ℕ) → n < 2 ^ 64 → printed.decimal n ≡ decimal n
decimal_printed n h =
    decimal_by_steps (λ m text. text ≡ decimal m) (λ m s. sym (decimal_one m s))
    (λ m text l e. ap (λ t. t ++ digit (m % 10) ∷ []) e ∙ sym (decimal_more m l)) n h

pub signed_printed : (z : ℤ) → SFits w64 z → printed.signed_decimal z ≡ signed_decimal z
unfolding signed_decimal
signed_printed (pos n) f = decimal_printed n (lt_trans f.sfits (lit< tt))
signed_printed (negsuc n) f = ap (λ t. minus ∷ t) (decimal_printed (suc n) (lt_of_le_of_lt f.sfits (lit< tt)))
