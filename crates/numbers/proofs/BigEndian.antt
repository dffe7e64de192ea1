-- A number written in n bytes, most significant first, is read back where it fits them; bytes that are read as a number are
-- those that it is written in. Assumes nothing.
use mathlib.Core.List.{List, [], ◌∷◌}
use mathlib.Core.Path.{◌≡◌, refl, sym, ap, ◌∙◌}
use Prim.Native.Nat.{ℕ, zero, suc, ◌+◌, ◌*◌, ◌/◌, ◌%◌, ◌^◌, ◌≤◌, ◌<◌}
use native.Mathlib.Nat.{div-one, pow-suc, div-div-eq-div-mul, div-add-mod', div-eq_of_lt, mul-add-div_right, mul-add-mod_self_right, mod-eq_of_lt, add-zero}
use lib.Dec.{lit<}
use lib.ListN.{length, take}
use lib.Seq.{length-take-le}
use Rattle.layout.specs.Number.{number_after, number}
use Rattle.layout.proofs.Numbers.{Bytes, bytes_take}
use Rattle.numbers.specs.BigEndian.{big_endian}

pub big_endian_length : (n x : ℕ) → length (big_endian n x) ≡ n
unfolding big_endian
big_endian_length zero x = refl
big_endian_length (suc n) x = ap suc (big_endian_length n x)

-- the digits in front of the last n + 1, and those in front of the last n
fewer : (x n : ℕ) → x / 256 ^ suc n ≡ x / 256 ^ n / 256
fewer x n = ap (λ (k : ℕ). x / k) (pow-suc 256 n) ∙ sym (div-div-eq-div-mul x (256 ^ n) 256)

-- ---- written, then read

after_written : (n x : ℕ) → number_after (x / 256 ^ n) (big_endian n x) ≡ x
unfolding number_after big_endian
after_written zero x = div-one x
after_written (suc n) x =
    ap (λ (k : ℕ). number_after (k * 256 + x / 256 ^ n % 256) (big_endian n x)) (fewer x n)
    ∙ ap (λ (k : ℕ). number_after k (big_endian n x)) (div-add-mod' (x / 256 ^ n) 256)
    ∙ after_written n x

pub number_written : (n x : ℕ) → x < 256 ^ n → number (big_endian n x) ≡ x
unfolding number
number_written n x h = ap (λ (k : ℕ). number_after k (big_endian n x)) (sym (div-eq_of_lt h)) ∙ after_written n x

-- ---- read, then written

-- what stood in front of the bytes
front : (a : ℕ) (bytes : List ℕ) → Bytes bytes → number_after a bytes / 256 ^ length bytes ≡ a
unfolding number_after
front a [] b = div-one a
front a (x ∷ xs) b =
    fewer (number_after (a * 256 + x) xs) (length xs)
    ∙ ap (λ (k : ℕ). k / 256) (front (a * 256 + x) xs (λ k. b (suc k)))
    ∙ mul-add-div_right (lit< tt) a x
    ∙ ap (λ (k : ℕ). a + k) (div-eq_of_lt (b 0))
    ∙ add-zero a

after_read : (a : ℕ) (bytes : List ℕ) → Bytes bytes → big_endian (length bytes) (number_after a bytes) ≡ bytes
unfolding number_after big_endian
after_read a [] b = refl
after_read a (x ∷ xs) b =
    let first : number_after (a * 256 + x) xs / 256 ^ length xs % 256 ≡ x =
    ap (λ (k : ℕ). k % 256) (front (a * 256 + x) xs (λ k. b (suc k))) ∙ mul-add-mod_self_right a 256 x ∙ mod-eq_of_lt (b 0) in
    rw (first, after_read (a * 256 + x) xs (λ k. b (suc k)))

-- the first n bytes of some that are there
pub read_written : (n : ℕ) (bytes : List ℕ) → n ≤ length bytes → Bytes bytes → big_endian n (number (take n bytes)) ≡ take n bytes
unfolding number
read_written n bytes h b =
    ap (λ (k : ℕ). big_endian k (number_after 0 (take n bytes))) (sym (length-take-le n bytes h))
    ∙ after_read 0 (take n bytes) (bytes_take n bytes b)
