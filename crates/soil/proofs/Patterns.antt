-- A bit pattern by its fields: where it is out of range, and its value times a factor, taken down, as one shift. Assumes nothing.
use mathlib.Core.Path.{◌≡◌, refl, sym, ap, ◌∙◌, subst}
use mathlib.Core.Bool.{Bool, true, false, not, cond}
use Prim.Native.Nat.{ℕ, zero, suc, ◌+◌, ◌-◌, ◌*◌, ◌/◌, ◌%◌, ◌^◌, ◌≤◌, ◌<◌}
use native.Mathlib.Nat.{le_trans, le_of_lt, le-add_right, lt_of_lt_of_le, lt_of_le_of_lt, mod-eq_of_lt, mul-le-mul_right, mul-le-mul, div-eq_of_lt}
use native.Mathlib.Omega.{arith}
use borrow.Author.Tests.{lt-leb, le-leb, leb-true, leb-false}
use lib.Dec.{T, leb, ltb, eqb, eqb→eq, ltb→lt, not_T, lit<, lit≤}
use lib.Pow.{pow-add, pow_pos, pow_mono, shl_lt}
use lib.Ieee.{Float, nan, inf, binary32, odd, of_fields, of_bits, to_bits, fits, nan_bits}
use lib.Ieee.Bits.{cond_no, of_bits-to_bits, nan_bits_is, nan_bits_above}
use lib.Ieee.Exact.{HasValue, odd_sign}
use lib.Ieee.Nearest.{div_same}
use Rattle.soil.specs.Value.{allowed, cut}
use Rattle.soil.proofs.Values.{allowed_value, allowed_no_nan, cut_value, signed}

-- the digits of a field x with t after the leading one; a field of 0 has no leading one
abbrev digits : ℕ → ℕ → ℕ
digits zero t = t
digits (suc x) t = 8388608 + t

-- and how many places they are moved up from the smallest value's
abbrev places : ℕ → ℕ
places zero = 0
places (suc x) = x

-- what the fields are read as: an infinity, a NaN, or the digits
by_fields : (P : Float → Type 0) (s : Bool) (x t : ℕ) → P (inf s) → P nan → P (odd 24 s (digits x t) (places x) 149) → P (of_fields binary32 s x t)
unfolding of_fields
by_fields P s zero t i n p = p
by_fields P s (suc x) t i n p = go (eqb (suc x) 255) (eqb t 0)
  where
    go : (a b : Bool) → P (cond a (cond b (inf s) nan) (odd 24 s (8388608 + t) x 149))
    go true true = i
    go true false = n
    go false b = p

-- ---- the sign bit

clear_odd : (q k : ℕ) → T (not (signed (odd 24 false q k 149)))
unfolding odd
clear_odd zero k = tt
clear_odd (suc q) k = tt

set_odd : (top q k : ℕ) → allowed top (odd 24 true q k 149) ≡ false
unfolding odd allowed
set_odd top zero k = refl
set_odd top (suc q) k = refl

-- ---- a pattern's fields

read : (b : ℕ) → of_bits binary32 b ≡ of_fields binary32 (leb 2147483648 b) (b % 2147483648 / 8388608) (b % 8388608)
unfolding of_bits
read b = refl

pub clear_read : (b : ℕ) → b < 2147483648 → of_bits binary32 b ≡ of_fields binary32 false (b / 8388608) (b % 8388608)
clear_read b h = read b ∙ rw (lt-leb 2147483648 b h, mod-eq_of_lt h)

pub sign_clear : (b : ℕ) → b < 2147483648 → T (not (signed (of_bits binary32 b)))
sign_clear b h =
    rw (clear_read b h)
    (by_fields (λ (v : Float). T (not (signed v))) false (b / 8388608) (b % 8388608) tt tt (clear_odd (digits (b / 8388608) (b % 8388608)) (places (b / 8388608))))

pub sign_set : (top b : ℕ) → 2147483648 ≤ b → allowed top (of_bits binary32 b) ≡ false
unfolding allowed
sign_set top b h =
    let x = b % 2147483648 / 8388608 in
    let t = b % 8388608 in
    ap (allowed top) (read b ∙ ap (λ (s : Bool). of_fields binary32 s x t) (le-leb 2147483648 b h))
    ∙ by_fields (λ (v : Float). allowed top v ≡ false) true x t refl refl (set_odd top (digits x t) (places x))

-- ---- the value of the fields: digits times 2 ^ (field - 150)

-- below a field of 87 the product with a factor is below 1
little : (q k factor : ℕ) → q < 2 ^ 24 → k ≤ 85 → factor ≤ 10000 → q * 2 ^ k * factor < 2 ^ 149
little q k factor h l f =
    let e : 24 + k ≤ 109 = omega arith in
    lt_of_le_of_lt (mul-le-mul (le_trans (le_of_lt (shl_lt 24 k h)) (pow_mono e)) f) (lit< tt)

little_cut : (q k factor : ℕ) → q < 2 ^ 24 → k ≤ 85 → factor ≤ 10000 → cut factor (odd 24 false q k 149) ≡ 0
little_cut q k factor h l f =
    cut_value factor (odd 24 false q k 149) (q * 2 ^ k) (2 ^ 149) (pow_pos 149) (odd_sign 24 false q k 149)
    ∙ div-eq_of_lt (little q k factor h l f)

digits_lt : (x t : ℕ) → t < 8388608 → digits x t < 2 ^ 24
digits_lt zero t h = omega arith
digits_lt (suc x) t h = omega arith

places_le : (x : ℕ) → x < 87 → places x ≤ 85
places_le zero h = omega arith
places_le (suc x) h = omega arith

small_fields : (x t factor : ℕ) → x < 87 → t < 8388608 → factor ≤ 10000 → cut factor (of_fields binary32 false x t) ≡ 0
unfolding cut
small_fields x t factor h l f =
    by_fields (λ (v : Float). cut factor v ≡ 0) false x t refl refl (little_cut (digits x t) (places x) factor (digits_lt x t l) (places_le x h) f)

moved : (d p q factor c : ℕ) → c ≡ p * q → d * p * factor * q ≡ d * factor * c
moved d p q factor c h = omega (arith, ap (λ (z : ℕ). d * factor * z) h)

-- from a field of 1 to one of 150 the product is shifted down
shifted_fields : (x t factor : ℕ) → x < 150 → cut factor (of_fields binary32 false (suc x) t) ≡ (t + 8388608) * factor / 2 ^ (150 - suc x)
unfolding of_fields
shifted_fields x t factor h =
    let v = odd 24 false (8388608 + t) x 149 in
    let rest = 2 ^ (150 - suc x) in
    let whole : 149 ≡ x + (150 - suc x) = omega arith in
    let order : 8388608 + t ≡ t + 8388608 = omega arith in
    ap (cut factor)
    (cond_no (eqb (suc x) 255) (cond (eqb t 0) (inf false) nan) v
    (not_T (eqb (suc x) 255) (λ u. let e = eqb→eq (suc x) 255 u in omega arith)))
    ∙ cut_value factor v ((8388608 + t) * 2 ^ x) (2 ^ 149) (pow_pos 149) (odd_sign 24 false (8388608 + t) x 149)
    ∙ div_same ((8388608 + t) * 2 ^ x * factor) (2 ^ 149) ((8388608 + t) * factor) rest (pow_pos 149) (pow_pos (150 - suc x))
    (moved (8388608 + t) (2 ^ x) rest factor (2 ^ 149)
    (ap (λ (k : ℕ). 2 ^ k) whole ∙ pow-add 2 x (150 - suc x)))
    ∙ ap (λ (d : ℕ). d * factor / rest) order

-- from a field of 137 on the value is 1024 or more, an infinity or a NaN
large : (top x t : ℕ) → top ≤ 1000 → 136 ≤ x → top * 2 ^ 149 < (8388608 + t) * 2 ^ x
large top x t h l =
    let apart : 1000 * 2 ^ 149 < 8388608 * 2 ^ 136 = lit< tt in
    lt_of_le_of_lt (mul-le-mul_right (2 ^ 149) h)
    (lt_of_lt_of_le apart (mul-le-mul (le-add_right 8388608 t) (pow_mono l)))

over_fields : (top x t : ℕ) → top ≤ 1000 → 136 ≤ x → allowed top (of_fields binary32 false (suc x) t) ≡ false
unfolding allowed
over_fields top x t h l =
    by_fields (λ (v : Float). allowed top v ≡ false) false (suc x) t refl refl
    (allowed_value top (odd 24 false (8388608 + t) x 149) ((8388608 + t) * 2 ^ x) (2 ^ 149) (pow_pos 149) (odd_sign 24 false (8388608 + t) x 149)
    ∙ lt-leb ((8388608 + t) * 2 ^ x) (top * 2 ^ 149) (large top x t h l))

-- ---- the same of a pattern

field_of : (b x : ℕ) → b / 8388608 ≡ x → b < 2147483648 → of_bits binary32 b ≡ of_fields binary32 false x (b % 8388608)
field_of b x e h = clear_read b h ∙ ap (λ (y : ℕ). of_fields binary32 false y (b % 8388608)) e

pub over : (top b : ℕ) → top ≤ 1000 → 1149239296 ≤ b → allowed top (of_bits binary32 b) ≡ false
over top b h l = go (leb 2147483648 b) refl
  where
    clear_over : (x : ℕ) → b / 8388608 ≡ x → b < 2147483648 → allowed top (of_bits binary32 b) ≡ false
    clear_over zero e c = absurd (omega arith)
    clear_over (suc x) e c = ap (allowed top) (field_of b (suc x) e c) ∙ over_fields top x (b % 8388608) h (omega arith)

    go : (p : Bool) → leb 2147483648 b ≡ p → allowed top (of_bits binary32 b) ≡ false
    go true e = sign_set top b (leb-true 2147483648 b e)
    go false e = clear_over (b / 8388608) refl (leb-false 2147483648 b e)

-- a value of at most 1000 has a field of at most 136
pub below : (b : ℕ) → T (allowed 1000 (of_bits binary32 b)) → b < 1149239296
below b t = go (leb 1149239296 b) refl
  where
    go : (p : Bool) → leb 1149239296 b ≡ p → b < 1149239296
    go true e = absurd (rw (over 1000 b (lit≤ tt) (leb-true 1149239296 b e)) at t)
    go false e = leb-false 1149239296 b e

pub small : (b factor : ℕ) → b / 8388608 < 87 → factor ≤ 10000 → cut factor (of_bits binary32 b) ≡ 0
small b factor h f =
    ap (cut factor) (clear_read b (omega arith)) ∙ small_fields (b / 8388608) (b % 8388608) factor h (omega arith) f

pub shifted : (b factor : ℕ) → 87 ≤ b / 8388608 → b < 1149239296
    → cut factor (of_bits binary32 b) ≡ (b % 8388608 + 8388608) * factor / 2 ^ (150 - b / 8388608)
shifted b factor h l = go (b / 8388608) refl
  where
    go : (x : ℕ) → b / 8388608 ≡ x → cut factor (of_bits binary32 b) ≡ (b % 8388608 + 8388608) * factor / 2 ^ (150 - b / 8388608)
    go zero e = absurd (omega arith)
    go (suc x) e =
        ap (cut factor) (field_of b (suc x) e (omega arith))
        ∙ shifted_fields x (b % 8388608) factor (omega arith)
        ∙ ap (λ (y : ℕ). (b % 8388608 + 8388608) * factor / 2 ^ (150 - y)) (sym e)

-- below an infinity's pattern there is no NaN's
pub no_nan : (b : ℕ) → b < 2139095040 → T (not (nan_bits binary32 b))
no_nan b h =
    rw (nan_bits_above binary32 b) (not_T (ltb 2139095040 (b % 2147483648)) (λ t. let l = ltb→lt 2139095040 (b % 2147483648) t in omega arith))

pub allowed_pattern : (top b : ℕ) → T (allowed top (of_bits binary32 b)) → T (not (nan_bits binary32 b))
allowed_pattern top b t = rw (nan_bits_is binary32 b) (allowed_no_nan top (of_bits binary32 b) t)

-- ---- a value by its own pattern

pub clear_value : (x : Float) → T (fits binary32 x) → to_bits binary32 x < 2147483648 → T (not (signed x))
clear_value x h l = subst (λ (v : Float). T (not (signed v))) (of_bits-to_bits binary32 x h) (sign_clear (to_bits binary32 x) l)

pub set_value : (top : ℕ) (x : Float) → T (fits binary32 x) → 2147483648 ≤ to_bits binary32 x → allowed top x ≡ false
set_value top x h l = ap (allowed top) (sym (of_bits-to_bits binary32 x h)) ∙ sign_set top (to_bits binary32 x) l

-- ---- the two limits, 2.0 and 1000.0

pub two : HasValue (of_bits binary32 1073741824) false 2 1
unfolding of_bits
two = (refl, refl)

pub thousand : HasValue (of_bits binary32 1148846080) false 1000 1
unfolding of_bits
thousand = (refl, refl)

pub two_allowed : T (allowed 1000 (of_bits binary32 1073741824))
unfolding of_bits allowed
two_allowed = tt

pub thousand_allowed : T (allowed 1000 (of_bits binary32 1148846080))
unfolding of_bits allowed
thousand_allowed = tt

pub ruleset limits = (two, thousand, two_allowed, thousand_allowed)
