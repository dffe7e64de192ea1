-- Lines of a page, and what the call `page` answers, by computation. Assumes nothing.
use mathlib.Core.Path.{◌≡◌, refl}
use mathlib.Core.Bool.{true, false}
use mathlib.Core.List.{List, [], ◌∷◌, ◌++◌}
use lib.IntN.{ℤ, pos, negsuc}
use Rattle.text.specs.Decimal.{digits, decimal, signed_decimal}
use Rattle.text.proofs.Examples.{column_row, beam_row}
use Rattle.printing.specs.Page.{form_feed, right_aligned, aligned, page_line, feed_after, page_text}
use Rattle.printing.specs.Answers.{too_wide, any_too_wide, page_too_wide, printed, refused_with, too_few_words, page_of}
use Rattle.printing.specs.Reading.{value_of, values_of, words_at}

-- "      7  3       186667       190000            0            0            0    0"
pub column_line : page_line column_row ≡ 32 ∷ 32 ∷ 32 ∷ 32 ∷ 32 ∷ 32 ∷ 55 ∷ 32 ∷ 32 ∷ 51 ∷ 32 ∷ 32 ∷ 32 ∷ 32 ∷ 32 ∷ 32 ∷ 32 ∷ 49 ∷ 56 ∷ 54 ∷ 54 ∷ 54 ∷ 55 ∷ 32 ∷ 32 ∷ 32 ∷ 32 ∷ 32 ∷ 32 ∷ 32 ∷ 49 ∷ 57 ∷ 48 ∷ 48 ∷ 48 ∷ 48 ∷ 32 ∷ 32 ∷ 32 ∷ 32 ∷ 32 ∷ 32 ∷ 32 ∷ 32 ∷ 32 ∷ 32 ∷ 32 ∷ 32 ∷ 48 ∷ 32 ∷ 32 ∷ 32 ∷ 32 ∷ 32 ∷ 32 ∷ 32 ∷ 32 ∷ 32 ∷ 32 ∷ 32 ∷ 32 ∷ 48 ∷ 32 ∷ 32 ∷ 32 ∷ 32 ∷ 32 ∷ 32 ∷ 32 ∷ 32 ∷ 32 ∷ 32 ∷ 32 ∷ 32 ∷ 48 ∷ 32 ∷ 32 ∷ 32 ∷ 32 ∷ 48 ∷ 10 ∷ []
unfolding digits decimal signed_decimal right_aligned aligned page_line column_row
column_line = refl

-- "     36  4       150000       -30000       120000            0            0    1"
pub beam_line : page_line beam_row ≡ 32 ∷ 32 ∷ 32 ∷ 32 ∷ 32 ∷ 51 ∷ 54 ∷ 32 ∷ 32 ∷ 52 ∷ 32 ∷ 32 ∷ 32 ∷ 32 ∷ 32 ∷ 32 ∷ 32 ∷ 49 ∷ 53 ∷ 48 ∷ 48 ∷ 48 ∷ 48 ∷ 32 ∷ 32 ∷ 32 ∷ 32 ∷ 32 ∷ 32 ∷ 32 ∷ 45 ∷ 51 ∷ 48 ∷ 48 ∷ 48 ∷ 48 ∷ 32 ∷ 32 ∷ 32 ∷ 32 ∷ 32 ∷ 32 ∷ 32 ∷ 49 ∷ 50 ∷ 48 ∷ 48 ∷ 48 ∷ 48 ∷ 32 ∷ 32 ∷ 32 ∷ 32 ∷ 32 ∷ 32 ∷ 32 ∷ 32 ∷ 32 ∷ 32 ∷ 32 ∷ 32 ∷ 48 ∷ 32 ∷ 32 ∷ 32 ∷ 32 ∷ 32 ∷ 32 ∷ 32 ∷ 32 ∷ 32 ∷ 32 ∷ 32 ∷ 32 ∷ 48 ∷ 32 ∷ 32 ∷ 32 ∷ 32 ∷ 49 ∷ 10 ∷ []
unfolding digits decimal signed_decimal right_aligned aligned page_line beam_row
beam_line = refl

-- no form feed after 49 lines; one after 50 and after 100
pub no_feed_at_49 : feed_after 49 ≡ []
unfolding feed_after
no_feed_at_49 = refl

pub feed_at_50 : feed_after 50 ≡ form_feed ∷ []
unfolding feed_after
feed_at_50 = refl

pub feed_at_100 : feed_after 100 ≡ form_feed ∷ []
unfolding feed_after
feed_at_100 = refl

-- the greatest and the least value of a width of 7, and the next ones
pub greatest_fits : too_wide 7 (pos 999999) ≡ false
unfolding digits decimal signed_decimal too_wide
greatest_fits = refl

pub next_too_wide : too_wide 7 (pos 1000000) ≡ true
unfolding digits decimal signed_decimal too_wide
next_too_wide = refl

pub least_fits : too_wide 7 (negsuc 99998) ≡ false
unfolding digits decimal signed_decimal too_wide
least_fits = refl

pub next_below_too_wide : too_wide 7 (negsuc 99999) ≡ true
unfolding digits decimal signed_decimal too_wide
next_below_too_wide = refl

-- a row whose first word is too wide
unfoldable pub wide_row : List ℤ
wide_row = pos 1000000 ∷ pos 3 ∷ pos 0 ∷ pos 0 ∷ pos 0 ∷ pos 0 ∷ pos 0 ∷ pos 0 ∷ []

-- 9 before 12 before 11; 12 looks at the first n rows alone
pub nine_first : page_of wide_row 2 0 ≡ too_few_words 2
unfolding digits decimal signed_decimal right_aligned aligned page_line feed_after page_text too_wide any_too_wide page_too_wide page_of wide_row
nine_first = refl

pub twelve_second : page_of wide_row 1 0 ≡ refused_with 12
unfolding digits decimal signed_decimal right_aligned aligned page_line feed_after page_text too_wide any_too_wide page_too_wide page_of wide_row
twelve_second = refl

pub eleven_last : page_of (column_row ++ wide_row) 1 80 ≡ refused_with 11
unfolding digits decimal signed_decimal right_aligned aligned page_line feed_after page_text too_wide any_too_wide page_too_wide page_of wide_row column_row
eleven_last = refl

pub one_line : page_of (column_row ++ wide_row) 1 81 ≡ printed 81
unfolding digits decimal signed_decimal right_aligned aligned page_line feed_after page_text too_wide any_too_wide page_too_wide page_of wide_row column_row
one_line = refl

-- no rows: no bytes, of an empty slice too
pub no_rows : page_of [] 0 0 ≡ printed 0
unfolding page_text page_too_wide page_of
no_rows = refl

-- the second line of a page gives the beam's words
pub beam_again : words_at (page_text (column_row ++ beam_row) 2) 1 ≡ beam_row
unfolding digits decimal signed_decimal right_aligned aligned page_line feed_after page_text value_of values_of words_at column_row beam_row
beam_again = refl
