-- A page read back. Its line i begins at byte 81·i + i/50 and has 80 characters, blanks, minuses and digits alone, before its line feed;
-- the lines give the words again, so two different stretches of rows have different pages. Assumes nothing.
use mathlib.Core.Path.{◌≡◌, refl, sym, ap, ap₂, ◌∙◌, subst}
use mathlib.Core.Bool.{false}
use mathlib.Core.List.{List, [], ◌∷◌, ◌++◌, append_assoc, append-nil}
use mathlib.Core.Logic.{⊎_elim}
use Prim.Native.Nat.{ℕ, zero, suc, ◌+◌, ◌-◌, ◌*◌, ◌≤◌, ◌<◌}
use native.Mathlib.Nat.{eq-or-lt_of_le}
use native.Mathlib.Omega.{arith}
use borrow.Author.Tests.{ne_eqb}
use lib.IntN.{ℤ, pos, negsuc, neg_ℤ}
use lib.ListN.{length, take, drop, replicate, length-append}
use lib.Seq.{take_at, drop_at, take-add}
use Rattle.text.specs.Decimal.{decimal, signed_decimal, minus, number_from}
use Rattle.text.specs.Lines.{space, line_feed, row_words}
use Rattle.text.proofs.Digits.{decimal_read, some_digit}
use Rattle.text.proofs.DigitBytes.{AllBetween, all_append, wider, decimal_digits}
use Rattle.printing.specs.Page.{widths, right_aligned, aligned, row_characters, page_line, feed_after, page_text, page_length}
use Rattle.printing.specs.Answers.{too_wide, any_too_wide, page_too_wide, page_of, bytes_after}
use Rattle.printing.specs.Reading.{value_of, values_of, line_at, words_at}
use Rattle.printing.proofs.Values.{length_right_aligned}
use Rattle.printing.proofs.LineSteps.{first_false, second_false, eight_words, eighty_characters, length_line}
use Rattle.printing.proofs.Scan.{narrow_before, narrow_row}
use Rattle.printing.proofs.Lengths.{length_feed, page_length_lem}
use Rattle.printing.proofs.Answered.{whole_page, printed_bytes}

-- ---- a value

blanks_passed : (k : ℕ) (bytes : List ℕ) → value_of (replicate k space ++ bytes) ≡ value_of bytes
unfolding value_of
blanks_passed zero bytes = refl
blanks_passed (suc k) bytes = blanks_passed k bytes

digits_read : (bytes : List ℕ) → 1 ≤ length bytes → AllBetween 48 57 bytes → value_of bytes ≡ pos (number_from 0 bytes)
unfolding value_of
digits_read [] h p = absurd (omega arith)
digits_read (b ∷ bytes) h p =
    let f = p.0.from in
    rw (ne_eqb b space (λ e. omega (arith, f, e)), ne_eqb b minus (λ e. omega (arith, f, e)))

signed_read : (z : ℤ) → value_of (signed_decimal z) ≡ z
unfolding value_of signed_decimal
signed_read (pos n) = digits_read (decimal n) (some_digit n) (decimal_digits n) ∙ ap pos (decimal_read n)
signed_read (negsuc n) = ap (λ (k : ℕ). neg_ℤ (pos k)) (decimal_read (suc n))

pub value_read : (width : ℕ) (z : ℤ) → value_of (right_aligned width z) ≡ z
unfolding right_aligned
value_read width z = blanks_passed (width - length (signed_decimal z)) (signed_decimal z) ∙ signed_read z

-- ---- the values of a line

values_read : (ws : List ℕ) (vs : List ℤ) (rest : List ℕ) → length ws ≡ length vs → any_too_wide ws vs ≡ false → values_of ws (aligned ws vs ++ rest) ≡ vs
unfolding values_of aligned any_too_wide
values_read [] [] rest h e = refl
values_read [] (v ∷ vs) rest h e = absurd (omega arith)
values_read (w ∷ ws) [] rest h e = absurd (omega arith)
values_read (w ∷ ws) (v ∷ vs) rest h e =
    let l = length_right_aligned w v (first_false (too_wide w v) (any_too_wide ws vs) e) in
    let front = take_at (right_aligned w v) (aligned ws vs ++ rest) w l in
    let back = drop_at (right_aligned w v) (aligned ws vs ++ rest) w l in
    rw (append_assoc, front, back, value_read, values_read ws vs rest (omega arith) (second_false (too_wide w v) (any_too_wide ws vs) e))

-- its characters are blanks, minuses and digits: no line feed and no form feed stands among them
blanks_between : (k : ℕ) → AllBetween 32 57 (replicate k space)
blanks_between zero = tt
blanks_between (suc k) = (record { from = omega arith; to = omega arith }, blanks_between k)

signed_between : (z : ℤ) → AllBetween 32 57 (signed_decimal z)
unfolding signed_decimal
signed_between (pos n) = wider 32 57 (decimal n) (omega arith) (omega arith) (decimal_digits n)
signed_between (negsuc n) = (record { from = omega arith; to = omega arith }, wider 32 57 (decimal (suc n)) (omega arith) (omega arith) (decimal_digits (suc n)))

pub characters_between : (ws : List ℕ) (vs : List ℤ) → AllBetween 32 57 (aligned ws vs)
unfolding aligned right_aligned
characters_between [] vs = tt
characters_between (w ∷ ws) [] = tt
characters_between (w ∷ ws) (v ∷ vs) =
    all_append 32 57 (right_aligned w v) (aligned ws vs) (all_append 32 57 (replicate (w - length (signed_decimal v)) space) (signed_decimal v) (blanks_between (w - length (signed_decimal v))) (signed_between v)) (characters_between ws vs)

-- ---- a line in its page

-- what stands before line i, the line, and what follows
record Split (words : List ℤ) (n i : ℕ) : Type 0 where
  rest : List ℕ
  is : page_text words n ≡ page_text words i ++ feed_after i ++ (page_line (row_words words i) ++ rest)

last_line : (words : List ℤ) (n : ℕ) → Split words (suc n) n
unfolding page_text
last_line words n = record { rest = []; is = rw append-nil }

one_line_more : (words : List ℤ) (n i : ℕ) → Split words n i → Split words (suc n) i
unfolding page_text
one_line_more words n i s =
    record { rest = s.rest ++ feed_after n ++ page_line (row_words words n); is = rw s.is (simp append_assoc) }

split : (words : List ℤ) (n i : ℕ) → i < n → Split words n i
split words zero i h = absurd (omega arith)
split words (suc n) i h =
    ⊎_elim (λ e. subst (Split words (suc n)) (omega (arith, e)) (last_line words n))
    (λ l. one_line_more words n i (split words n i (omega arith)))
    (eq-or-lt_of_le h)

module _ (words : List ℤ) (n : ℕ) (enough : 8 * n ≤ length words) (e : page_too_wide words n ≡ false) (after : List ℕ) (i : ℕ) (h : i < n) where
  narrow : any_too_wide widths (row_words words i) ≡ false
  narrow = narrow_row words i n h e

  whole : 8 * i + 8 ≤ length words
  whole = omega arith

  before_line : length (page_text words i ++ feed_after i) ≡ line_at i
  before_line =
      omega (arith, length-append (page_text words i) (feed_after i), length_feed i, page_length_lem words i (omega arith) (narrow_before words i n (omega arith) e))

  -- the page and any bytes after it, from line i on
  from_line : drop (line_at i) (page_text words n ++ after) ≡ page_line (row_words words i) ++ ((split words n i h).rest ++ after)
  from_line =
      let s = split words n i h in
      let front = page_text words i ++ feed_after i in
      let line = page_line (row_words words i) in
      rw (s.is, append_assoc front (line ++ s.rest) after, append_assoc line s.rest after) (drop_at front (line ++ (s.rest ++ after)) (line_at i) before_line)

  -- line i stands at its place: its characters, 80 of them, then the line feed
  pub line_stands : take 81 (drop (line_at i) (page_text words n ++ after)) ≡ row_characters (row_words words i) ++ line_feed ∷ []
  unfolding page_line
  line_stands = rw from_line (take_at (page_line (row_words words i)) ((split words n i h).rest ++ after) 81 (length_line words i whole narrow))

  pub line_eighty : length (row_characters (row_words words i)) ≡ 80
  line_eighty = eighty_characters words i whole narrow

  -- and gives the words again
  pub line_read : words_at (page_text words n ++ after) i ≡ row_words words i
  unfolding words_at page_line
  line_read =
      rw (from_line, append_assoc)
      (values_read widths (row_words words i) (line_feed ∷ [] ++ ((split words n i h).rest ++ after)) (sym (eight_words words i whole)) narrow)

-- in the slice that the call left, whatever was there before
pub page_read : (words : List ℤ) (n : ℕ) (before : List ℕ) → (page_of words n (length before)).number ≡ 0 → (i : ℕ) → i < n → words_at (bytes_after words n before) i ≡ row_words words i
page_read words n before e i h =
    let w = whole_page words n (length before) e in
    rw (printed_bytes words n before e) (line_read words n w.enough w.narrow (drop (length (page_text words n)) before) i h)

-- ---- two pages

-- the words of the first n rows, row by row
rows_joined : (a b : List ℤ) (n : ℕ) → ((i : ℕ) → i < n → row_words a i ≡ row_words b i) → take (8 * n) a ≡ take (8 * n) b
rows_joined a b zero s = refl
rows_joined a b (suc n) s =
    let k : 8 * suc n ≡ 8 * n + 8 = omega arith in
    rw (k, take-add (8 * n) 8 a, take-add (8 * n) 8 b) (ap₂ (λ (x y : List ℤ). x ++ y) (rows_joined a b n (λ i h. s i (omega arith))) (s n (omega arith)))

pub record SameRows (a : List ℤ) (m : ℕ) (b : List ℤ) (n : ℕ) : Type 0 where
  pub number : m ≡ n
  pub words : take (8 * m) a ≡ take (8 * n) b

-- pages that are the same are of the same rows
pub same_page : (a : List ℤ) (m : ℕ) (b : List ℤ) (n : ℕ) → 8 * m ≤ length a → page_too_wide a m ≡ false → 8 * n ≤ length b → page_too_wide b n ≡ false → page_text a m ≡ page_text b n → SameRows a m b n
same_page a m b n ha ea hb eb p =
    let l : page_length m ≡ page_length n = sym (page_length_lem a m ha ea) ∙ ap length p ∙ page_length_lem b n hb eb in
    let k : m ≡ n = omega (arith, l) in
    record {
      number = k;
      words =
          ap (λ (j : ℕ). take (8 * j) a) k
          ∙ rows_joined a b n (λ i h. sym (line_read a m ha ea [] i (omega (arith, k, h))) ∙ ap (λ (page : List ℕ). words_at (page ++ []) i) p ∙ line_read b n hb eb [] i h);
    }
