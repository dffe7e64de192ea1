-- The page of rows. 02, No. 3: "Each row becomes a line of 80 characters and a line feed: word 0 right-aligned in 7 characters, word 1
-- in 3, words 2 to 6 in 13 each, word 7 in 5, decimal, a minus directly before its first digit. After every 50 lines comes one form
-- feed, none at the end." Assumes nothing.
use Rattle.std.specs.Prelude.{cond, ◌&&◌, List, [], ◌∷◌, ◌++◌, ℕ, zero, suc, ◌+◌, ◌-◌, ◌*◌, ◌/◌, ◌%◌, eqb, ltb, ℤ, length, replicate}
use Rattle.text.specs.Decimal.{signed_decimal}
use Rattle.text.specs.Lines.{space, line_feed, row_words}

-- the characters of words 0 to 7
abbrev pub widths : List ℕ
widths = 7 ∷ 3 ∷ 13 ∷ 13 ∷ 13 ∷ 13 ∷ 13 ∷ 5 ∷ []

-- a value right-aligned in so many characters: blanks, then its decimal
unfoldable pub right_aligned : ℕ → ℤ → List ℕ
right_aligned width value = replicate (width - length (signed_decimal value)) space ++ signed_decimal value

-- values side by side, each right-aligned in its width
unfoldable pub aligned : List ℕ → List ℤ → List ℕ
aligned [] values = []
aligned (w ∷ ws) [] = []
aligned (w ∷ ws) (v ∷ vs) = right_aligned w v ++ aligned ws vs

-- the characters of a row, and its line
abbrev pub row_characters : List ℤ → List ℕ
row_characters words = aligned widths words

unfoldable pub page_line : List ℤ → List ℕ
page_line words = row_characters words ++ line_feed ∷ []

abbrev pub form_feed : ℕ
form_feed = 12

-- what stands between the first n lines and the next one: a form feed after every 50
unfoldable pub feed_after : ℕ → List ℕ
feed_after n = cond (ltb 0 n && eqb (n % 50) 0) (form_feed ∷ []) []

-- the page of the first n rows
unfoldable pub page_text : List ℤ → ℕ → List ℕ
page_text words zero = []
page_text words (suc n) = page_text words n ++ feed_after n ++ page_line (row_words words n)

-- its length, "fixed by the row count": 0 for no rows (0 − 1 is 0 here); proofs/Lengths.antt
abbrev pub page_length : ℕ → ℕ
page_length n = 81 * n + (n - 1) / 50
