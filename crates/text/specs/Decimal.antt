-- A number in decimal, as bytes. 01, "Figures to hold to": the listing program prints "each row's eight words in decimal".
-- Assumes nothing.
use Rattle.std.specs.Prelude.{Bool, true, false, List, [], ◌∷◌, ◌++◌, ℕ, zero, suc, ◌+◌, ◌-◌, ◌*◌, ◌/◌, ◌%◌, ltb, ℤ, pos, negsuc}

-- the byte of a digit from 0 to 9
abbrev pub digit : ℕ → ℕ
digit d = 48 + d

-- a number below 10 is one digit; another is the digits of its tenth, then its last digit
abbrev pub with_last : Bool → (ℕ → List ℕ) → ℕ → List ℕ
with_last true before n = digit n ∷ []
with_last false before n = before (n / 10) ++ digit (n % 10) ∷ []

-- the digits of n in at most so many places
unfoldable pub digits : ℕ → ℕ → List ℕ
digits zero n = []
digits (suc places) n = with_last (ltb n 10) (digits places) n

-- n in decimal, without leading zeros, and "0" for 0: n + 1 places are always enough
unfoldable pub decimal : ℕ → List ℕ
unfolding digits
decimal n = digits (suc n) n

abbrev pub minus : ℕ
minus = 45

-- a signed number: a minus directly before the first digit where it is negative (negsuc n is −(n + 1))
unfoldable pub signed_decimal : ℤ → List ℕ
signed_decimal (pos n) = decimal n
signed_decimal (negsuc n) = minus ∷ decimal (suc n)

-- ---- read back

-- n, and then the digits of a list
abbrev pub number_from : ℕ → List ℕ → ℕ
number_from n [] = n
number_from n (b ∷ bytes) = number_from (n * 10 + (b - 48)) bytes

-- the number whose digits these are
abbrev pub number_of : List ℕ → ℕ
number_of bytes = number_from 0 bytes
