-- Numbers in a file: big-endian, unsigned, and an i32 by its 32 bits. 01, "Job commands".
use Rattle.std.specs.Prelude.{cond, List, [], ◌∷◌, ℕ, ◌+◌, ◌-◌, ◌*◌, ltb, ℤ, pos, negsuc}

-- the number so far, then the bytes that follow it
unfoldable pub number_after : ℕ → List ℕ → ℕ
number_after n [] = n
number_after n (b ∷ bs) = number_after (n * 256 + b) bs

unfoldable pub number : List ℕ → ℕ
unfolding number_after
number bytes = number_after 0 bytes

-- the i32 of 32 bits
unfoldable pub signed32 : ℕ → ℤ
signed32 x = cond (ltb x 2147483648) (pos x) (negsuc (4294967295 - x))

-- and the 32 bits of an i32
unfoldable pub bits32 : ℤ → ℕ
bits32 (pos n) = n
bits32 (negsuc n) = 4294967295 - n
