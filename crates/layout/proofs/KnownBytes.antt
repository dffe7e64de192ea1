-- The bytes of the commands are 0 to 10, 12 and 13; a law of every byte is shown at each of them and at those that are unknown. Assumes nothing.
use mathlib.Core.Bool.{true, false, ◌||◌}
use mathlib.Core.List.{[]}
use mathlib.Core.Path.{◌≡◌, refl, sym, ◌∙◌, subst}
use Prim.Native.Nat.{ℕ, zero, suc, ◌≤◌, ◌<◌}
use native.Mathlib.Omega.{arith}
use lib.Dec.{T, leb, eqb}
use borrow.Author.Tests.{leb-true, ne_eqb, lt-leb}
use Rattle.layout.specs.Layouts.{known_in, forms_in, known, forms_of}

module _ (P : ℕ → Type 0) (p0 : P 0) (p1 : P 1) (p2 : P 2) (p3 : P 3) (p4 : P 4) (p5 : P 5) (p6 : P 6) (p7 : P 7) (p8 : P 8) (p9 : P 9) (p10 : P 10) (p11 : P 11) (p12 : P 12) (p13 : P 13) (more : (b : ℕ) → 13 < b → P b) where
  pub up_to_13 : (b : ℕ) → P b
  up_to_13 zero = p0
  up_to_13 (suc zero) = p1
  up_to_13 (suc (suc zero)) = p2
  up_to_13 (suc (suc (suc zero))) = p3
  up_to_13 (suc (suc (suc (suc zero)))) = p4
  up_to_13 (suc (suc (suc (suc (suc zero))))) = p5
  up_to_13 (suc (suc (suc (suc (suc (suc zero)))))) = p6
  up_to_13 (suc (suc (suc (suc (suc (suc (suc zero))))))) = p7
  up_to_13 (suc (suc (suc (suc (suc (suc (suc (suc zero)))))))) = p8
  up_to_13 (suc (suc (suc (suc (suc (suc (suc (suc (suc zero))))))))) = p9
  up_to_13 (suc (suc (suc (suc (suc (suc (suc (suc (suc (suc zero)))))))))) = p10
  up_to_13 (suc (suc (suc (suc (suc (suc (suc (suc (suc (suc (suc zero))))))))))) = p11
  up_to_13 (suc (suc (suc (suc (suc (suc (suc (suc (suc (suc (suc (suc zero)))))))))))) = p12
  up_to_13 (suc (suc (suc (suc (suc (suc (suc (suc (suc (suc (suc (suc (suc zero))))))))))))) = p13
  up_to_13 (suc (suc (suc (suc (suc (suc (suc (suc (suc (suc (suc (suc (suc (suc b)))))))))))))) =
      more (suc (suc (suc (suc (suc (suc (suc (suc (suc (suc (suc (suc (suc (suc b)))))))))))))) (omega arith)

-- a byte above 13 is none of the commands'
pub above_13 : (b : ℕ) → 13 < b → (k : ℕ) → leb k 13 ≡ true → eqb b k ≡ false
above_13 b h k t = let l = leb-true k 13 t in ne_eqb b k (λ e. differ b k h l e)
  where
    differ : (b k : ℕ) → 13 < b → k ≤ 13 → b ≡ k → ⊥
    differ b k h l e = omega arith

pub known_above : (b : ℕ) → 13 < b → known b ≡ false
unfolding known known_in
known_above b h = simp (above_13 b h)

-- 11 is the byte of a block
pub block_unknown : known 11 ≡ false
unfolding known known_in
block_unknown = refl

-- a law shown at each command's byte, and at every byte that is unknown
module _ (P : ℕ → Type 0) (p0 : P 0) (p1 : P 1) (p2 : P 2) (p3 : P 3) (p4 : P 4) (p5 : P 5) (p6 : P 6) (p7 : P 7) (p8 : P 8) (p9 : P 9) (p10 : P 10) (p12 : P 12) (p13 : P 13) (rest : (b : ℕ) → known b ≡ false → P b) where
  pub each_byte : (b : ℕ) → P b
  each_byte = up_to_13 P p0 p1 p2 p3 p4 p5 p6 p7 p8 p9 p10 (rest 11 block_unknown) p12 p13 (λ b h. rest b (known_above b h))

-- a known byte is not unknown
pub not_both : {A : Type 0} (b : ℕ) → known b ≡ true → known b ≡ false → A
not_both b h k = absurd (subst T (sym h ∙ k) tt)

-- an unknown byte is that of no command
pub other : (b : ℕ) → known b ≡ false → (k : ℕ) → known k ≡ true → eqb b k ≡ false
other b h k t = ne_eqb b k (λ e. not_both b (subst (λ (x : ℕ). known x ≡ true) (sym e) t) h)

-- and has no operands
pub no_forms : (b : ℕ) → known b ≡ false → forms_of b ≡ []
unfolding forms_of forms_in known known_in
no_forms b h = simp (other b h)

-- known exactly from 0 to 10, at 12 and at 13
pub known_is : (b : ℕ) → known b ≡ (leb b 10 || (eqb b 12 || eqb b 13))
unfolding known known_in
known_is =
    up_to_13 (λ b. known b ≡ (leb b 10 || (eqb b 12 || eqb b 13))) refl refl refl refl refl refl refl refl refl refl refl refl refl refl
    (λ b h. known_above b h ∙ sym (neither b h))
  where
    neither : (b : ℕ) → 13 < b → (leb b 10 || (eqb b 12 || eqb b 13)) ≡ false
    neither b h = rw (lt-leb b 10 (omega arith), above_13 b h 12 refl, above_13 b h 13 refl)
