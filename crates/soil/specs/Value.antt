-- The value of a soil as a binary32: its range, and its product with a factor taken down (01, "Soil and footing").
-- A finite value `fin s m e` is m * 2 ^ e, negative where s is true, and 2 ^ e is the fraction up e / down e. Assumes nothing.
use Rattle.std.specs.Prelude.{ℕ, ◌*◌, ◌/◌, Bool, true, false, leb, Float}
use Rattle.std.specs.Float.{nan, inf, fin}
use Rattle.std.specs.Float.Ieee.{up, down}

-- "0 to 2.0", "0 to 1000.0": in range from 0 to top. Sign bit set, NaN, infinity or above the top: out of range.
unfoldable pub allowed : ℕ → Float → Bool
allowed top nan = false
allowed top (inf s) = false
allowed top (fin true m e) = false
allowed top (fin false m e) = leb (m * up e) (top * down e)

-- "The exact binary value times 10,000, or times 1,000, is taken down": the size m * 2 ^ e times the factor, down to a whole number.
-- A NaN or an infinity has no size; it is out of range, and 0 stands here.
unfoldable pub cut : ℕ → Float → ℕ
cut factor nan = 0
cut factor (inf s) = 0
cut factor (fin s m e) = m * up e * factor / down e
