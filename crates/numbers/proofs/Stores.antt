-- The last bytes of a number of 32 bits are that number with its most significant byte first. Assumes nothing.
use mathlib.Core.List.{List, [], ◌∷◌}
use mathlib.Core.Path.{◌≡◌, refl, sym, ap}
use Prim.Native.Nat.{ℕ, zero, suc, ◌-◌, ◌/◌, ◌%◌, ◌^◌, ◌≤◌}
use native.Mathlib.Nat.{div-one}
use native.Mathlib.Omega.{arith}
use lib.ListN.{take, drop}
use mir.Syntax.{w32}
use Rattle.std.specs.Int.{bytes_high_first, to_be_bytes}
use Rattle.numbers.specs.BigEndian.{big_endian}

high_first : (n v : ℕ) → bytes_high_first n v ≡ big_endian n v
unfolding big_endian
high_first zero v = refl
high_first (suc zero) v = ap (λ (k : ℕ). k % 256 ∷ []) (sym (div-one v))
high_first (suc (suc n)) v = ap (λ (l : List ℕ). v / 256 ^ suc n % 256 ∷ l) (high_first (suc n) v)

-- the last n of a word's four bytes
pub last_bytes : (n v : ℕ) → n ≤ 4 → take (4 - (4 - n)) (drop (4 - n) (to_be_bytes w32 v)) ≡ big_endian n v
last_bytes zero v h = high_first 0 v
last_bytes (suc zero) v h = high_first 1 v
last_bytes (suc (suc zero)) v h = high_first 2 v
last_bytes (suc (suc (suc zero))) v h = high_first 3 v
last_bytes (suc (suc (suc (suc zero)))) v h = high_first 4 v
last_bytes (suc (suc (suc (suc (suc n))))) v h = absurd (more n h)
  where
    more : (n : ℕ) → suc (suc (suc (suc (suc n)))) ≤ 4 → ⊥
    more n h = omega arith
