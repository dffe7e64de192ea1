-- The lines of the listing. 01, "Figures to hold to": the listing program prints "each row's eight words in decimal, separated
-- by one space, then the totals; a refusal prints one line, a space between its parts". Assumes nothing.
use Rattle.std.specs.Prelude.{List, [], ◌∷◌, ◌++◌, map, ℕ, zero, suc, ◌*◌, ℤ, take, drop}
use Rattle.text.specs.Decimal.{decimal, signed_decimal}

abbrev pub space : ℕ
space = 32

abbrev pub line_feed : ℕ
line_feed = 10

-- a line: its parts separated by one space, then a line feed
unfoldable pub line : List (List ℕ) → List ℕ
line [] = line_feed ∷ []
line (p ∷ []) = p ++ line_feed ∷ []
line (p ∷ q ∷ ps) = p ++ space ∷ line (q ∷ ps)

-- the line of a row's words
unfoldable pub row_line : List ℤ → List ℕ
row_line words = line (map signed_decimal words)

-- the eight words of row n
abbrev pub row_words : List ℤ → ℕ → List ℤ
row_words words n = take 8 (drop (8 * n) words)

-- the lines of the first n rows, in order
unfoldable pub rows_text : List ℤ → ℕ → List ℕ
rows_text words zero = []
rows_text words (suc n) = rows_text words n ++ row_line (row_words words n)

-- "rows", "failed", "checks", "refused"
abbrev pub rows_word : List ℕ
rows_word = 114 ∷ 111 ∷ 119 ∷ 115 ∷ []

abbrev pub failed_word : List ℕ
failed_word = 102 ∷ 97 ∷ 105 ∷ 108 ∷ 101 ∷ 100 ∷ []

abbrev pub checks_word : List ℕ
checks_word = 99 ∷ 104 ∷ 101 ∷ 99 ∷ 107 ∷ 115 ∷ []

abbrev pub refused_word : List ℕ
refused_word = 114 ∷ 101 ∷ 102 ∷ 117 ∷ 115 ∷ 101 ∷ 100 ∷ []

-- the totals
unfoldable pub totals_line : ℕ → ℕ → ℕ → List ℕ
totals_line rows failed checks =
    line (rows_word ∷ decimal rows ∷ failed_word ∷ decimal failed ∷ checks_word ∷ decimal checks ∷ [])

-- a refusal
unfoldable pub refused_line : ℕ → ℕ → List ℕ
refused_line number offset = line (refused_word ∷ decimal number ∷ decimal offset ∷ [])

-- the whole listing of an accepted job
unfoldable pub listing_text : List ℤ → ℕ → ℕ → ℕ → List ℕ
listing_text words rows failed checks = rows_text words rows ++ totals_line rows failed checks
