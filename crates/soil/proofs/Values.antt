-- `allowed` and `cut` of a value that is the fraction a / c; the greatest value of `cut`; and `allowed` as the machine's comparison with a limit.
-- Assumes nothing.
use mathlib.Core.Path.{◌≡◌, refl, sym, ap, subst}
use mathlib.Core.Bool.{Bool, true, false, not, ◌&&◌, ◌||◌, true≢false}
use Prim.Native.Nat.{ℕ, ◌*◌, ◌/◌, ◌≤◌, ◌<◌}
use native.Mathlib.Nat.{mul-le-mul_right, le_of_mul-le-mul_right, div-le_of_le-mul}
use native.Mathlib.Omega.{arith}
use lib.Dec.{T, leb, ltb, eqb, leb→le, le→leb, ltb→lt, eqb→eq}
use lib.Ieee.{Float, nan, inf, fin, up, down, le, is_nan}
use lib.Ieee.Exact.{HasValue}
use lib.Ieee.Fits.{down_pos}
use lib.Ieee.Nearest.{div_same}
use lib.Ieee.Order.{le_of_values}
use Rattle.soil.specs.Value.{allowed, cut}

-- two tests that imply each other are the same
pub same_test : (p q : Bool) → (T p → T q) → (T q → T p) → p ≡ q
same_test true true f g = refl
same_test true false f g = absurd (f tt)
same_test false true f g = absurd (g tt)
same_test false false f g = refl

-- n / d is a / c, and at most top
across : (n d a c top : ℕ) → 0 < d → n * c ≡ a * d → n ≤ top * d → a ≤ top * c
across n d a c top p h l = le_of_mul-le-mul_right (omega (arith, mul-le-mul_right c l)) p

pub allowed_value : (top : ℕ) (x : Float) (a c : ℕ) → 0 < c → HasValue x false a c → allowed top x ≡ leb a (top * c)
unfolding allowed
allowed_value top nan a c p h = absurd h
allowed_value top (inf s) a c p h = absurd h
allowed_value top (fin true m e) a c p h = absurd (true≢false h.0)
allowed_value top (fin false m e) a c p h =
    same_test (leb (m * up e) (top * down e)) (leb a (top * c))
    (λ t. le→leb a (top * c) (across (m * up e) (down e) a c top (down_pos e) h.1 (leb→le (m * up e) (top * down e) t)))
    (λ t. le→leb (m * up e) (top * down e) (across a c (m * up e) (down e) top p (sym h.1) (leb→le a (top * c) t)))

scaled : (n d a c factor : ℕ) → n * c ≡ a * d → n * factor * c ≡ a * factor * d
scaled n d a c factor h = omega (arith, ap (λ (z : ℕ). z * factor) h)

pub cut_value : (factor : ℕ) (x : Float) (a c : ℕ) → 0 < c → HasValue x false a c → cut factor x ≡ a * factor / c
unfolding cut
cut_value factor nan a c p h = absurd h
cut_value factor (inf s) a c p h = absurd h
cut_value factor (fin s m e) a c p h =
    div_same (m * up e * factor) (down e) (a * factor) c (down_pos e) p (scaled (m * up e) (down e) a c factor h.1)

most : (n d top factor : ℕ) → n ≤ top * d → n * factor ≤ d * (top * factor)
most n d top factor l = omega (arith, mul-le-mul_right factor l)

-- in range, the value taken down is at most the top times the factor
pub cut_le : (top factor : ℕ) (x : Float) → T (allowed top x) → cut factor x ≤ top * factor
unfolding allowed cut
cut_le top factor nan t = absurd t
cut_le top factor (inf s) t = absurd t
cut_le top factor (fin true m e) t = absurd t
cut_le top factor (fin false m e) t =
    div-le_of_le-mul (down e) (most (m * up e) (down e) top factor (leb→le (m * up e) (top * down e) t))

pub allowed_no_nan : (top : ℕ) (x : Float) → T (allowed top x) → T (not (is_nan x))
unfolding allowed is_nan
allowed_no_nan top nan t = t
allowed_no_nan top (inf s) t = tt
allowed_no_nan top (fin s m e) t = tt

-- ---- the machine's comparison

-- whether the sign bit is set; a NaN has no sign
abbrev pub signed : Float → Bool
signed nan = false
signed (inf s) = s
signed (fin s m e) = s

pub le_no_nan : (x y : Float) → T (le x y) → T (not (is_nan x))
unfolding le is_nan
le_no_nan nan y t = t
le_no_nan (inf s) y t = tt
le_no_nan (fin s m e) y t = tt

times_one : (n m : ℕ) → n ≤ m → n * 1 ≤ m
times_one n m l = omega arith

-- a value in range is at most the limit that is the whole number top
pub allowed_le : (x limit : Float) (top : ℕ) → HasValue limit false top 1 → T (allowed top x) → T (le x limit)
unfolding allowed
allowed_le nan limit top v t = absurd t
allowed_le (inf s) limit top v t = absurd t
allowed_le (fin true m e) limit top v t = absurd t
allowed_le (fin false m e) limit top v t =
    le_of_values (fin false m e) limit (m * up e) (down e) top 1 (down_pos e) (omega arith) (refl, refl) v
    (times_one (m * up e) (top * down e) (leb→le (m * up e) (top * down e) t))

either : (a b : ℕ) (r : Bool) → T (ltb a b || (eqb a b && r)) → a ≤ b
either a b r t = go (ltb a b) (eqb a b) r (ltb→lt a b) (eqb→eq a b) t
  where
    go : (p q r : Bool) → (T p → a < b) → (T q → a ≡ b) → T (p || (q && r)) → a ≤ b
    go true q r f g t = let l = f tt in omega arith
    go false true r f g t = let l = g tt in omega arith
    go false false r f g t = absurd t

under : (n d l k top : ℕ) → 0 < k → l ≤ top * k → n * k ≤ l * d → n ≤ top * d
under n d l k top p h q = le_of_mul-le-mul_right (omega (arith, mul-le-mul_right d h)) p

-- with the sign bit clear, a value at most a limit that is in range is in range
pub le_allowed : (x limit : Float) (top : ℕ) → T (allowed top limit) → T (not (signed x)) → T (le x limit) → T (allowed top x)
unfolding allowed le
le_allowed nan limit top v s t = t
le_allowed (inf true) limit top v s t = absurd s
le_allowed (inf false) nan top v s t = absurd v
le_allowed (inf false) (inf r) top v s t = absurd v
le_allowed (inf false) (fin r n d) top v s t = t
le_allowed (fin true m e) limit top v s t = absurd s
le_allowed (fin false m e) nan top v s t = absurd v
le_allowed (fin false m e) (inf r) top v s t = absurd v
le_allowed (fin false m e) (fin true n d) top v s t = absurd v
le_allowed (fin false m e) (fin false n d) top v s t =
    le→leb (m * up e) (top * down e)
    (under (m * up e) (down e) (n * up d) (down d) top (down_pos d) (leb→le (n * up d) (top * down d) v)
    (either (m * up e * down d) (n * up d * down e) true t))

pub top_allowed : (limit : Float) (top : ℕ) → HasValue limit false top 1 → T (allowed top limit)
top_allowed limit top v =
    subst T (sym (allowed_value top limit top 1 (omega arith) v)) (le→leb top (top * 1) (omega arith))

pub le_is_allowed : (x limit : Float) (top : ℕ) → HasValue limit false top 1 → T (not (signed x)) → le x limit ≡ allowed top x
le_is_allowed x limit top v s =
    same_test (le x limit) (allowed top x) (le_allowed x limit top (top_allowed limit top v) s) (allowed_le x limit top v)

-- a value not at most the limit is out of range, whatever its sign
pub not_le_refused : (x limit : Float) (top : ℕ) → HasValue limit false top 1 → le x limit ≡ false → allowed top x ≡ false
not_le_refused x limit top v e =
    same_test (allowed top x) false (λ t. subst T e (allowed_le x limit top v t)) (λ t. absurd t)
