-- The two laws of each rounding of specs/Quotient.antt: n ≤ up·d < n + d and down·d ≤ n < down·d + d, over ℕ and over ℤ,
-- that a number between those bounds is the rounded one, that rounding up keeps the order, and how large a rounded number is.
-- Assumes nothing.
use mathlib.Core.Path.{◌≡◌, sym, ap, ap₂, ◌∙◌, subst}
use Prim.Native.Nat.{ℕ, suc, ◌+◌, ◌-◌, ◌*◌, ◌^◌, ◌/◌, ◌%◌, ◌≤◌, ◌<◌, min}
use native.Mathlib.Omega.{arith}
use native.Mathlib.Nat.{div-mul-le_self, lt-div-mul-add, lt_of_mul-lt-mul_right, mul-le-mul_right}
use lib.IntN.{ℤ, pos, negsuc, neg_ℤ, sub_ℕ, nat_abs, ◌+ℤ◌, ◌*ℤ◌}
use lib.Signed.{◌≤ℤ◌, ◌<ℤ◌}
use Rattle.std.proofs.lemmas.Grind.{div_ceil_times}
use Rattle.exact.specs.Quotient.{up, down, up_ℤ, down_ℤ}
use Rattle.exact.specs.Fraction.{Fraction, Proper, up_f, ◌≤F◌, ◌≈F◌}
use Rattle.exact.specs.SignedFraction.{SignedFraction, ProperS, above, below, whole_s, ratio_s, ◌+S◌, up_s, down_s, size}
use Rattle.exact.specs.Sums.{SumFits}
use Rattle.exact.proofs.Multiply.{◌·◌}
use Rattle.exact.proofs.Integers.{≡_in, ≤ℤ_in, <ℤ_in, above_neg, below_neg, nat_abs_law, nat_abs_neg, nat_abs_sub_ℕ, size_of_difference, *ℤ_law, +ℤ_law}

-- ---- naturals

pub down_le : (n d : ℕ) → down n d * d ≤ n
unfolding down
down_le n d = div-mul-le_self n d

pub down_lt : (n d : ℕ) → 0 < d → n < down n d * d + d
unfolding down
down_lt n d h = lt-div-mul-add h

pub up_le : (n d : ℕ) → 0 < d → n ≤ up n d * d
unfolding up
up_le n d h = let k : n + (d - 1) < (n + (d - 1)) / d * d + d = lt-div-mul-add h in omega arith

pub up_lt : (n d : ℕ) → 0 < d → up n d * d < n + d
unfolding up
up_lt n d h = omega (arith, div-mul-le_self (n + (d - 1)) d)

-- two numbers less than one step apart are equal
step : (d x y : ℕ) → x * d < y * d + d → x ≤ y
step d x y h = let k : x < suc y = lt_of_mul-lt-mul_right d (omega arith) in omega arith

-- rounded up, a quotient of at most b is at most b; so it is at most its numerator
pub up_le_of : (n d b : ℕ) → 0 < d → n ≤ b * d → up n d ≤ b
up_le_of n d b h l = step d (up n d) b (omega (arith, up_lt n d h))

pub up_le_self : (n d : ℕ) → 0 < d → up n d ≤ n
up_le_self n d h = up_le_of n d n h (omega (arith, mul-le-mul_right n h))

pub up_is : (n d r : ℕ) → 0 < d → n ≤ r * d → r * d < n + d → r ≡ up n d
up_is n d r h a b =
    let k : r ≤ up n d = step d r (up n d) (omega (arith, up_le n d h)) in
    let l : up n d ≤ r = step d (up n d) r (omega (arith, up_lt n d h)) in
    omega arith

pub down_is : (n d r : ℕ) → 0 < d → r * d ≤ n → n < r * d + d → r ≡ down n d
down_is n d r h a b =
    let k : r ≤ down n d = step d r (down n d) (omega (arith, down_lt n d h)) in
    let l : down n d ≤ r = step d (down n d) r (omega (arith, down_le n d)) in
    omega arith

-- what `div_ceil` of std ensures
pub ceil_is : (n d : ℕ) → 0 < d → n / d + min 1 (n % d) ≡ up n d
ceil_is n d h = let t = div_ceil_times n d h in up_is n d _ h t.0 t.1

-- of two fractions the smaller is rounded up to no more than the other, and the same number to the same
pub up_mono : (x y : Fraction) → Proper x → Proper y → x ≤F y → up_f x ≤ up_f y
up_mono x y p q h =
    let c : x.num < suc (up_f y * x.den) = lt_of_mul-lt-mul_right y.den (omega (arith, h, up_le y.num y.den q · x.den)) in
    up_le_of x.num x.den (up_f y) p (omega arith)

pub up_same : (x y : Fraction) → Proper x → Proper y → x ≈F y → up_f x ≡ up_f y
up_same x y p q h =
    let l = up_mono x y p q (omega (arith, h)) in
    let m = up_mono y x q p (omega (arith, h)) in
    omega (arith, l, m)

-- ---- integers, by their parts

pub down_ℤ_le : (n : ℤ) (d : ℕ) → 0 < d → above (down_ℤ n d) * d + below n ≤ above n + below (down_ℤ n d) * d
unfolding down_ℤ
down_ℤ_le (pos a) d h = omega (arith, div-mul-le_self a d)
down_ℤ_le (negsuc a) d h = let k : a < a / d * d + d = lt-div-mul-add h in omega arith

pub down_ℤ_lt : (n : ℤ) (d : ℕ) → 0 < d → above n + below (down_ℤ n d) * d < above (down_ℤ n d) * d + d + below n
unfolding down_ℤ
down_ℤ_lt (pos a) d h = let k : a < a / d * d + d = lt-div-mul-add h in omega arith
down_ℤ_lt (negsuc a) d h = omega (arith, div-mul-le_self a d)

pub up_ℤ_le : (n : ℤ) (d : ℕ) → 0 < d → above n + below (up_ℤ n d) * d ≤ above (up_ℤ n d) * d + below n
unfolding up_ℤ
up_ℤ_le n d h =
    let q = down_ℤ (neg_ℤ n) d in
    omega (arith, down_ℤ_le (neg_ℤ n) d h, above_neg n, below_neg n, ap (λ (k : ℕ). k * d) (above_neg q), ap (λ (k : ℕ). k * d) (below_neg q))

pub up_ℤ_lt : (n : ℤ) (d : ℕ) → 0 < d → above (up_ℤ n d) * d + below n < above n + below (up_ℤ n d) * d + d
unfolding up_ℤ
up_ℤ_lt n d h =
    let q = down_ℤ (neg_ℤ n) d in
    omega (arith, down_ℤ_lt (neg_ℤ n) d h, above_neg n, below_neg n, ap (λ (k : ℕ). k * d) (above_neg q), ap (λ (k : ℕ). k * d) (below_neg q))

-- two integers less than one step apart are equal
step_ℤ : (d : ℕ) (x y : ℤ) → above x * d + below y * d < above y * d + below x * d + d → above x + below y ≤ above y + below x
step_ℤ d x y h = step d (above x + below y) (above y + below x) (omega arith)

pub down_ℤ_is : (n r : ℤ) (d : ℕ) → 0 < d → above r * d + below n ≤ above n + below r * d → above n + below r * d < above r * d + d + below n → r ≡ down_ℤ n d
down_ℤ_is n r d h a b =
    let q = down_ℤ n d in
    let k = step_ℤ d r q (omega (arith, down_ℤ_lt n d h)) in
    let l = step_ℤ d q r (omega (arith, down_ℤ_le n d h)) in
    ≡_in r q (omega arith)

pub up_ℤ_is : (n r : ℤ) (d : ℕ) → 0 < d → above n + below r * d ≤ above r * d + below n → above r * d + below n < above n + below r * d + d → r ≡ up_ℤ n d
up_ℤ_is n r d h a b =
    let q = up_ℤ n d in
    let k = step_ℤ d r q (omega (arith, up_ℤ_le n d h)) in
    let l = step_ℤ d q r (omega (arith, up_ℤ_lt n d h)) in
    ≡_in r q (omega arith)

-- ---- how large they are: a quotient of a size of at most b, rounded, is of a size of at most b

pub down_ℤ_size : (n : ℤ) (d b : ℕ) → nat_abs n ≤ b * d → 0 < d → nat_abs (down_ℤ n d) ≤ b
unfolding down_ℤ
down_ℤ_size (pos a) d b h p = step d (a / d) b (omega (arith, div-mul-le_self a d))
down_ℤ_size (negsuc a) d b h p = step d (suc (a / d)) b (omega (arith, div-mul-le_self a d))

up_ℤ_size : (n : ℤ) (d b : ℕ) → nat_abs n ≤ b * d → 0 < d → nat_abs (up_ℤ n d) ≤ b
unfolding up_ℤ
up_ℤ_size n d b h p =
    omega (arith, nat_abs_neg (down_ℤ (neg_ℤ n) d), down_ℤ_size (neg_ℤ n) d b (omega (arith, nat_abs_neg n)) p)

pub down_s_size : (x : SignedFraction) (b : ℕ) → x.plus + x.minus ≤ b * x.den → ProperS x → nat_abs (down_s x) ≤ b
down_s_size x b h p = down_ℤ_size (sub_ℕ x.plus x.minus) x.den b (omega (arith, nat_abs_sub_ℕ x.plus x.minus)) p

pub up_s_size : (x : SignedFraction) (b : ℕ) → x.plus + x.minus ≤ b * x.den → ProperS x → nat_abs (up_s x) ≤ b
up_s_size x b h p = up_ℤ_size (sub_ℕ x.plus x.minus) x.den b (omega (arith, nat_abs_sub_ℕ x.plus x.minus)) p

-- ---- the same laws as a reader of ℤ has them

pub down_ℤ_laws : (n : ℤ) (d : ℕ) → 0 < d → ((down_ℤ n d *ℤ pos d) ≤ℤ n) × (n <ℤ (down_ℤ n d *ℤ pos d +ℤ pos d))
down_ℤ_laws n d h =
    let q = down_ℤ n d in
    let p = q *ℤ pos d in (
      ≤ℤ_in p n (omega (arith, down_ℤ_le n d h, *ℤ_law q (pos d))),
      <ℤ_in n (p +ℤ pos d) (omega (arith, down_ℤ_lt n d h, *ℤ_law q (pos d), +ℤ_law p (pos d))),
    )

pub up_ℤ_laws : (n : ℤ) (d : ℕ) → 0 < d → (n ≤ℤ (up_ℤ n d *ℤ pos d)) × ((up_ℤ n d *ℤ pos d) <ℤ (n +ℤ pos d))
up_ℤ_laws n d h =
    let q = up_ℤ n d in
    let p = q *ℤ pos d in (
      ≤ℤ_in n p (omega (arith, up_ℤ_le n d h, *ℤ_law q (pos d))),
      <ℤ_in p (n +ℤ pos d) (omega (arith, up_ℤ_lt n d h, *ℤ_law q (pos d), +ℤ_law n (pos d))),
    )

-- the size of a sum, up, fits an i64
pub size_fits : (whole num : ℤ) (den : ℕ) → SumFits whole num den → up_f (size (whole_s whole +S ratio_s num den)) < 2 ^ 63
size_fits whole num den h =
    let x = size (whole_s whole +S ratio_s num den) in
    omega (arith, h.positive, h.fits, up_le_self x.num x.den (omega (arith, h.positive)), ap (λ (k : ℕ). k * den) (nat_abs_law whole), nat_abs_law num)

-- so does what `div_ceil` of std ensures of the size of a total t
pub total_fits :
    (whole num : ℤ) (den : ℕ) {s : SignedFraction} {t : ℤ} {q : ℕ} → SumFits whole num den → whole_s whole +S ratio_s num den ≡ s
    → t ≡ sub_ℕ s.plus s.minus → q ≡ nat_abs t / den + min 1 (nat_abs t % den) → q < 2 ^ 63
total_fits whole num den {s} {t} {q} h v e r =
    let size_is : nat_abs t ≡ (size s).num = ap nat_abs e ∙ size_of_difference s.plus s.minus in
    let den_is : s.den ≡ den = sym (ap (λ (x : SignedFraction). x.den) v) ∙ omega arith in
    let up_is : q ≡ up_f (size s) = r ∙ ceil_is (nat_abs t) den h.positive ∙ ap₂ up size_is (sym den_is) in
    let fits : up_f (size s) < 2 ^ 63 = subst (λ (x : SignedFraction). up_f (size x) < 2 ^ 63) v (size_fits whole num den h) in
    omega (arith, up_is)
