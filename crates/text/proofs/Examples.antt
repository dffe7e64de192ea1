-- Decimals, and the lines of 01's example, by computation. Assumes nothing.
use mathlib.Core.Path.{◌≡◌, refl}
use mathlib.Core.List.{List, [], ◌∷◌, ◌++◌}
use lib.IntN.{ℤ, pos, negsuc}
use Rattle.text.specs.Decimal.{digits, decimal, signed_decimal}
use Rattle.text.specs.Lines.{line, row_line, rows_text, totals_line, refused_line, listing_text}

-- "0", "7", "10", "186667"
pub zero_decimal : decimal 0 ≡ 48 ∷ []
unfolding digits decimal
zero_decimal = refl

pub seven_decimal : decimal 7 ≡ 55 ∷ []
unfolding digits decimal
seven_decimal = refl

pub ten_decimal : decimal 10 ≡ 49 ∷ 48 ∷ []
unfolding digits decimal
ten_decimal = refl

pub column_decimal : decimal 186667 ≡ 49 ∷ 56 ∷ 54 ∷ 54 ∷ 54 ∷ 55 ∷ []
unfolding digits decimal
column_decimal = refl

-- "-30000", and the least i64, "-9223372036854775808"
pub beam_decimal : signed_decimal (negsuc 29999) ≡ 45 ∷ 51 ∷ 48 ∷ 48 ∷ 48 ∷ 48 ∷ []
unfolding digits decimal signed_decimal
beam_decimal = refl

pub least_decimal : signed_decimal (negsuc 9223372036854775807) ≡ 45 ∷ 57 ∷ 50 ∷ 50 ∷ 51 ∷ 51 ∷ 55 ∷ 50 ∷ 48 ∷ 51 ∷ 54 ∷ 56 ∷ 53 ∷ 52 ∷ 55 ∷ 55 ∷ 53 ∷ 56 ∷ 48 ∷ 56 ∷ []
unfolding digits decimal signed_decimal
least_decimal = refl

-- the rows of 01's example
unfoldable pub column_row : List ℤ
column_row = pos 7 ∷ pos 3 ∷ pos 186667 ∷ pos 190000 ∷ pos 0 ∷ pos 0 ∷ pos 0 ∷ pos 0 ∷ []

unfoldable pub beam_row : List ℤ
beam_row = pos 36 ∷ pos 4 ∷ pos 150000 ∷ negsuc 29999 ∷ pos 120000 ∷ pos 0 ∷ pos 0 ∷ pos 1 ∷ []

-- "7 3 186667 190000 0 0 0 0"
pub column_line : row_line column_row ≡ 55 ∷ 32 ∷ 51 ∷ 32 ∷ 49 ∷ 56 ∷ 54 ∷ 54 ∷ 54 ∷ 55 ∷ 32 ∷ 49 ∷ 57 ∷ 48 ∷ 48 ∷ 48 ∷ 48 ∷ 32 ∷ 48 ∷ 32 ∷ 48 ∷ 32 ∷ 48 ∷ 32 ∷ 48 ∷ 10 ∷ []
unfolding digits decimal signed_decimal line row_line column_row
column_line = refl

-- "36 4 150000 -30000 120000 0 0 1"
pub beam_line : row_line beam_row ≡ 51 ∷ 54 ∷ 32 ∷ 52 ∷ 32 ∷ 49 ∷ 53 ∷ 48 ∷ 48 ∷ 48 ∷ 48 ∷ 32 ∷ 45 ∷ 51 ∷ 48 ∷ 48 ∷ 48 ∷ 48 ∷ 32 ∷ 49 ∷ 50 ∷ 48 ∷ 48 ∷ 48 ∷ 48 ∷ 32 ∷ 48 ∷ 32 ∷ 48 ∷ 32 ∷ 49 ∷ 10 ∷ []
unfolding digits decimal signed_decimal line row_line beam_row
beam_line = refl

-- "rows 2 failed 1 checks 1"
pub totals_line_lem : totals_line 2 1 1 ≡ 114 ∷ 111 ∷ 119 ∷ 115 ∷ 32 ∷ 50 ∷ 32 ∷ 102 ∷ 97 ∷ 105 ∷ 108 ∷ 101 ∷ 100 ∷ 32 ∷ 49 ∷ 32 ∷ 99 ∷ 104 ∷ 101 ∷ 99 ∷ 107 ∷ 115 ∷ 32 ∷ 49 ∷ 10 ∷ []
unfolding digits decimal line totals_line
totals_line_lem = refl

-- the whole listing is these three lines
pub example_listing : listing_text (column_row ++ beam_row) 2 1 1 ≡ row_line column_row ++ row_line beam_row ++ totals_line 2 1 1
unfolding rows_text listing_text column_row beam_row
example_listing = refl

-- "refused 9 1025"
pub refused_line_lem : refused_line 9 1025 ≡ 114 ∷ 101 ∷ 102 ∷ 117 ∷ 115 ∷ 101 ∷ 100 ∷ 32 ∷ 57 ∷ 32 ∷ 49 ∷ 48 ∷ 50 ∷ 53 ∷ 10 ∷ []
unfolding digits decimal line refused_line
refused_line_lem = refl
