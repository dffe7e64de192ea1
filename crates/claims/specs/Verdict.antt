-- The verdict of a row is a sum of bits. 01, "Rows and verdict bits". A word that tells yes is 1, else 0. 02, No. 5.
use Rattle.std.specs.Prelude.{Bool, true, false, ℕ}

-- the bit where it is set, else 0: in a verdict it is set where the check failed
abbrev pub flag : ℕ → Bool → ℕ
flag bit true = bit
flag bit false = 0
