-- A number of n bytes is below 256 ^ n; the i32 of 32 bits and the 32 bits of an i32 are each the other's inverse. Assumes nothing.
use mathlib.Core.Bool.{Bool, true, false, cond}
use mathlib.Core.List.{List, [], ◌∷◌, ◌++◌}
use mathlib.Core.Path.{◌≡◌, refl, ap, sym, ◌∙◌}
use Prim.Native.Nat.{ℕ, zero, suc, ◌+◌, ◌-◌, ◌*◌, ◌^◌, ◌≤◌, ◌<◌}
use native.Mathlib.Nat.{add-zero, add-suc, suc-add, zero-add, pow-suc, pow-le-pow_right}
use native.Mathlib.Omega.{arith}
use lib.Dec.{ltb, lit<}
use lib.IntN.{ℤ, pos, negsuc}
use lib.ListN.{length, get_or, take, drop, length-take}
use lib.Seq.{get_or-drop, drop-cons}
use Rattle.std.proofs.Common.{add-one}
use Rattle.std.proofs.lemmas.List.{drop_all}
use mir.Syntax.{w32}
use lib.Signed.{mag}
use mir.Val.{SFits, sel, to_z, of_z}
use mir.Facts.{to_z-of_z}
use borrow.Author.Tests.{lt-ltb, le-ltb, ltb-true, ltb-false}
use Rattle.std.specs.Int.{from_be_bytes}
use Rattle.layout.specs.Number.{number_after, number, signed32, bits32}

-- ---- unsigned

-- each element is a byte; past the end `get_or` gives 0
abbrev pub Bytes : List ℕ → Type 0
Bytes bytes = (k : ℕ) → get_or bytes k 0 < 256

pub bytes_take : (n : ℕ) (bytes : List ℕ) → Bytes bytes → Bytes (take n bytes)
bytes_take zero bytes b k = lit< tt
bytes_take (suc n) [] b k = lit< tt
bytes_take (suc n) (x ∷ xs) b zero = b zero
bytes_take (suc n) (x ∷ xs) b (suc k) = bytes_take n xs (λ j. b (suc j)) k

pub bytes_drop : (n : ℕ) (bytes : List ℕ) → Bytes bytes → Bytes (drop n bytes)
bytes_drop n bytes b k = rw (get_or-drop n bytes k 0) (b (n + k))

after_below : (n k : ℕ) (bytes : List ℕ) → n < 256 ^ k → Bytes bytes → number_after n bytes < 256 ^ (k + length bytes)
unfolding number_after
after_below n k [] h b = rw add-zero h
after_below n k (x ∷ xs) h b =
    rw (add-suc, ← suc-add k (length xs)) (after_below (n * 256 + x) (suc k) xs (omega (arith, pow-suc 256 k, b 0)) (λ j. b (suc j)))

pub number_below : (bytes : List ℕ) → Bytes bytes → number bytes < 256 ^ length bytes
unfolding number
number_below bytes b = rw zero-add at (after_below 0 0 bytes (lit< tt) b)

-- a number of at most n bytes
pub number_take_below : (n : ℕ) (bytes : List ℕ) → Bytes bytes → number (take n bytes) < 256 ^ n
number_take_below n bytes b =
    let short : length (take n bytes) ≤ n = rw length-take (omega arith) in
    omega (arith, number_below (take n bytes) (bytes_take n bytes b), pow-le-pow_right (lit< {m = 0} {n = 256} tt) short)

-- ---- a byte as a number

pub one_byte : (bytes : List ℕ) (from : ℕ) → from < length bytes → get_or bytes from 0 ≡ number (take 1 (drop from bytes))
unfolding number number_after
one_byte bytes from h = rw (drop-cons bytes from 0 h) (omega arith)

-- ---- a number of at most 4 bytes, put behind zeros into a word of 4

pub word_number : (bytes later : List ℕ) → length bytes ≤ 4 → from_be_bytes w32 (take (4 - length bytes) (0 ∷ 0 ∷ 0 ∷ 0 ∷ []) ++ (bytes ++ later)) ≡ number bytes
unfolding number number_after
word_number [] later h = refl
word_number (a ∷ []) later h = omega arith
word_number (a ∷ b ∷ []) later h = omega arith
word_number (a ∷ b ∷ c ∷ []) later h = omega arith
word_number (a ∷ b ∷ c ∷ d ∷ []) later h = omega arith
word_number (a ∷ b ∷ c ∷ d ∷ e ∷ bytes) later h = absurd (more (length bytes) h)
  where
    more : (n : ℕ) → suc (suc (suc (suc (suc n)))) ≤ 4 → ⊥
    more n h = omega arith

-- ---- a number byte by byte

pub next_small : (i v b : ℕ) → i < 4 → v < 256 ^ i → b < 256 → (v * 256 + b < 256 ^ (i + 1)) × (v * 256 + b < 4294967296)
next_small zero v b l h g = (omega arith, omega arith)
next_small (suc zero) v b l h g = (omega arith, omega arith)
next_small (suc (suc zero)) v b l h g = (omega arith, omega arith)
next_small (suc (suc (suc zero))) v b l h g = (omega arith, omega arith)
next_small (suc (suc (suc (suc i)))) v b l h g = absurd (more i l)
  where
    more : (n : ℕ) → suc (suc (suc (suc n))) < 4 → ⊥
    more n h = omega arith

pub next_after : (v i : ℕ) (bytes : List ℕ) → i < length bytes → number_after v (drop i bytes) ≡ number_after (v * 256 + get_or bytes i 0) (drop (i + 1) bytes)
unfolding number_after
next_after v i bytes l = rw (add-one, drop-cons bytes i 0 l)

pub none_after : (v i : ℕ) (bytes : List ℕ) → length bytes ≤ i → number_after v (drop i bytes) ≡ v
unfolding number_after
none_after v i bytes l = rw (drop_all i bytes l)

-- ---- signed

pub bits_of_signed : (x : ℕ) → x < 4294967296 → bits32 (signed32 x) ≡ x
unfolding bits32 signed32
bits_of_signed x h = go (ltb x 2147483648)
  where
    go : (t : Bool) → bits32 (cond t (pos x) (negsuc (4294967295 - x))) ≡ x
    go true = refl
    go false = omega arith

pub signed_of_bits : {z : ℤ} → SFits w32 z → signed32 (bits32 z) ≡ z
unfolding bits32 signed32
signed_of_bits {z = pos n} f = rw (lt-ltb n 2147483648 f.sfits)
signed_of_bits {z = negsuc n} f =
    let h = f.sfits in
    let low : 4294967295 - (4294967295 - n) ≡ n = omega arith in
    rw (le-ltb (4294967295 - n) 2147483648 (omega arith), low)

pub signed_fits : (x : ℕ) → x < 4294967296 → SFits w32 (signed32 x)
unfolding signed32
signed_fits x h = go (ltb x 2147483648) (ltb-true x 2147483648) (ltb-false x 2147483648)
  where
    go : (t : Bool) → (t ≡ true → x < 2147483648) → (t ≡ false → 2147483648 ≤ x) → SFits w32 (cond t (pos x) (negsuc (4294967295 - x)))
    go true p q = record { sfits = p refl }
    go false p q = let l = q refl in record { sfits = omega arith }

-- the library's i32 of 32 bits is that of the specification
pub signed_is : (x : ℕ) → to_z w32 x ≡ signed32 x
unfolding signed32
signed_is x = go (ltb x 2147483648)
  where
    go : (t : Bool) → sel t (pos x) (negsuc (4294967296 - suc x)) ≡ cond t (pos x) (negsuc (4294967295 - x))
    go true = refl
    go false = ap negsuc (omega arith)

-- a signed result of a call
pub returned : {z : ℤ} → mag z < 2147483648 → to_z w32 (of_z w32 z) ≡ z
returned {z = z} h = to_z-of_z {w = w32} {z = z} (record { sfits = h })

pub returned_as : {z w : ℤ} → mag z < 2147483648 → z ≡ w → to_z w32 (of_z w32 z) ≡ w
returned_as h e = returned h ∙ e

-- a signed argument of a call, as it stands in the file
pub as_in_file : (z : ℤ) → mag z < 2147483648 → to_z w32 (of_z w32 z) ≡ signed32 (bits32 z)
as_in_file z h = returned h ∙ sym (signed_of_bits (record { sfits = h }))
