-- What `floor_div` and both paths of `ceil_div` return, and the total of a sum divided down. Assumes nothing.
use mathlib.Core.Path.{◌≡◌, refl, ap, subst}
use mathlib.Core.Bool.{true, false}
use Prim.Native.Nat.{ℕ, zero, suc, ◌+◌, ◌/◌, ◌^◌, ◌<◌}
use native.Mathlib.Omega.{arith}
use native.Mathlib.Nat.{div-le_self, zero-div}
use borrow.Author.Tests.{leb-true}
use lib.Dec.{T}
use lib.IntN.{ℤ, pos, negsuc, neg_ℤ, sub_ℕ, ◌+ℤ◌, ◌-ℤ◌, nat_abs}
use lib.Signed.{◌<ℤ◌, le_z, quot_z}
use mir.Syntax.{w64}
use mir.Val.{SFits, to_z, of_z}
use mir.Facts.{to_z-of_z}
use Rattle.std.specs.Int.{int_div_euclid}
use Rattle.exact.specs.Quotient.{down_ℤ, up_ℤ}
use Rattle.exact.specs.SignedFraction.{SignedFraction, whole_s, ratio_s, ◌+S◌, down_s}
use Rattle.exact.proofs.Integers.{ints, ≡_in, fits_in, -ℤ_law, above_neg, below_neg}

-- ---- what `div_euclid` ensures

floor_signed : (n : ℤ) (d : ℕ) → int_div_euclid n (pos d) ≡ down_ℤ n d
unfolding down_ℤ
floor_signed (pos a) d = refl
floor_signed (negsuc a) d = refl

-- of a positive divisor
pub floor_read : (n d : ℤ) → pos 0 <ℤ d → int_div_euclid n d ≡ down_ℤ n (nat_abs d)
floor_read n (pos b) h = floor_signed n b
floor_read n (negsuc b) h = absurd h.lt

-- ---- the paths of `ceil_div`

-- an n up to 0: the quotient itself
pub ceil_low : {n d : ℤ} → SFits w64 n → pos 0 <ℤ d → le_z n (pos 0) ≡ true → to_z w64 (of_z w64 (quot_z n d)) ≡ up_ℤ n (nat_abs d)
unfolding up_ℤ down_ℤ
ceil_low {n} {d = negsuc b} f h k = absurd h.lt
ceil_low {n = pos a} {d = pos b} f h k =
    let z : a ≡ 0 = omega (arith, leb-true a 0 k) in rw (z, zero-div b) refl
ceil_low {n = negsuc a} {d = pos b} f h k =
    let q = pos (suc a / b) in
    to_z-of_z (fits_in (neg_ℤ q) (omega (arith, above_neg q)) (omega (ints, below_neg q, div-le_self (suc a) b, f)))

-- an n above 0: 1 + (n − 1) / d
pub ceil_high :
    {n d : ℤ} → SFits w64 n → pos 0 <ℤ d → le_z n (pos 0) ≡ false
    → to_z w64 (of_z w64 (pos 1 +ℤ to_z w64 (of_z w64 (quot_z (to_z w64 (of_z w64 (n -ℤ pos 1))) d)))) ≡ up_ℤ n (nat_abs d)
unfolding up_ℤ down_ℤ
ceil_high {n} {d = negsuc b} f h k = absurd h.lt
ceil_high {n = negsuc a} {d = pos b} f h k = absurd (subst T k tt)
ceil_high {n = pos zero} {d = pos b} f h k = absurd (subst T k tt)
ceil_high {n = pos (suc a)} {d = pos b} f h k =
    let l = div-le_self a b in
    let s : suc a < 2 ^ 63 = f.sfits in
    let less : pos (suc a) -ℤ pos 1 ≡ pos a = ≡_in (pos (suc a) -ℤ pos 1) (pos a) (omega (arith, -ℤ_law (pos (suc a)) (pos 1))) in
    rw (less, to_z-of_z (fits_in (pos a) (omega arith) (omega arith)), to_z-of_z (fits_in (pos (a / b)) (omega arith) (omega arith)), to_z-of_z (fits_in (pos (1 + a / b)) (omega arith) (omega arith)))
    (ap pos (omega arith))

-- ---- `Sum::down`

-- a sum s with the total t, divided down by its denominator
pub down_read :
    (w n : ℤ) (d : ℕ) {s : SignedFraction} {t q : ℤ} → whole_s w +S ratio_s n d ≡ s → t ≡ sub_ℕ s.plus s.minus → q ≡ down_ℤ t d → q ≡ down_s s
down_read w n d {s} {t} v e h =
    let k : s.den ≡ d = omega (arith, ap (λ (x : SignedFraction). x.den) v) in
    cc
