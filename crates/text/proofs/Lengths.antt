-- The greatest length of each line and of the whole listing, of any words that are i64. Assumes nothing.
use mathlib.Core.List.{List, [], ◌∷◌, map}
use Prim.Native.Nat.{ℕ, zero, suc, ◌+◌, ◌*◌, ◌^◌, ◌≤◌, ◌<◌}
use native.Mathlib.Omega.{arith}
use lib.IntN.{ℤ, pos}
use lib.ListN.{length, get_or, take, drop, length-append, length-take}
use mir.Syntax.{w64}
use mir.Val.{SFits}
use Rattle.text.specs.Decimal.{decimal, signed_decimal}
use Rattle.text.specs.Lines.{space, line_feed, line, row_line, row_words, rows_text, rows_word, failed_word, checks_word, totals_line, listing_text}
use Rattle.text.proofs.Digits.{length_decimal, length_signed}

-- all words are i64
abbrev pub AllFit : List ℤ → Type 0
AllFit [] = Unit {0}
AllFit (w ∷ ws) = SFits w64 w × AllFit ws

pub all_fit : (words : List ℤ) → ((i : ℕ) → SFits w64 (get_or words i (pos 0))) → AllFit words
all_fit [] f = tt
all_fit (w ∷ ws) f = (f zero, all_fit ws (λ i. f (suc i)))

all_fit_drop : (n : ℕ) (words : List ℤ) → AllFit words → AllFit (drop n words)
all_fit_drop zero words f = f
all_fit_drop (suc n) [] f = tt
all_fit_drop (suc n) (w ∷ ws) f = all_fit_drop n ws f.1

all_fit_take : (n : ℕ) (words : List ℤ) → AllFit words → AllFit (take n words)
all_fit_take zero words f = tt
all_fit_take (suc n) [] f = tt
all_fit_take (suc n) (w ∷ ws) f = (f.0, all_fit_take n ws f.1)

length_line : (w : ℤ) (ws : List ℤ) → AllFit (w ∷ ws) → length (line (map signed_decimal (w ∷ ws))) ≤ 21 * suc (length ws)
unfolding line
length_line w [] f = omega (arith, length-append (signed_decimal w) (line_feed ∷ []), length_signed w f.0)
length_line w (v ∷ ws) f =
    omega (arith, length-append (signed_decimal w) (space ∷ line (map signed_decimal (v ∷ ws))), length_signed w f.0, length_line v ws f.1)

-- a row's line has at most 168 bytes
pub length_row : (words : List ℤ) (n : ℕ) → AllFit words → length (row_line (row_words words n)) ≤ 168
unfolding row_line line
length_row words n f =
    bound (row_words words n) (all_fit_take 8 (drop (8 * n) words) (all_fit_drop (8 * n) words f))
    (omega (arith, length-take 8 (drop (8 * n) words)))
  where
    bound : (row : List ℤ) → AllFit row → length row ≤ 8 → length (line (map signed_decimal row)) ≤ 168
    bound [] f h = omega arith
    bound (w ∷ ws) f h = omega (arith, length_line w ws f)

-- n rows, at most 168·n
pub length_rows : (words : List ℤ) (n : ℕ) → AllFit words → length (rows_text words n) ≤ 168 * n
unfolding rows_text
length_rows words zero f = omega arith
length_rows words (suc n) f =
    omega (arith, length-append (rows_text words n) (row_line (row_words words n)), length_rows words n f, length_row words n f)

-- the totals, at most 82
pub length_totals : (rows failed checks : ℕ) → rows < 2 ^ 64 → failed < 2 ^ 64 → checks < 2 ^ 64 → length (totals_line rows failed checks) ≤ 82
unfolding line totals_line
length_totals rows failed checks r f c =
    bound (decimal rows) (decimal failed) (decimal checks) (length_decimal rows r) (length_decimal failed f) (length_decimal checks c)
  where
    bound : (x y z : List ℕ) → length x ≤ 20 → length y ≤ 20 → length z ≤ 20 → length (line (rows_word ∷ x ∷ failed_word ∷ y ∷ checks_word ∷ z ∷ [])) ≤ 82
    bound x y z hx hy hz = simp length-append (omega arith)

-- the listing of n rows, at most 168·n + 82: of 1,024 rows, 172,114
pub length_listing : (words : List ℤ) (n failed checks : ℕ) → AllFit words → n < 2 ^ 64 → failed < 2 ^ 64 → checks < 2 ^ 64 → length (listing_text words n failed checks) ≤ 168 * n + 82
unfolding listing_text
length_listing words n failed checks f hn hf hc =
    omega (arith, length-append (rows_text words n) (totals_line n failed checks), length_rows words n f, length_totals n failed checks hn hf hc)
