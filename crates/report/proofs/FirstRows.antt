-- The listing and the page of n rows depend on the first 8·n words alone. Assumes nothing.
use mathlib.Core.Path.{◌≡◌, refl, ap, ap₂}
use mathlib.Core.Bool.{Bool, true, false}
use mathlib.Core.List.{List, ◌++◌}
use Prim.Native.Nat.{ℕ, zero, suc, ◌+◌, ◌*◌, ◌≤◌}
use native.Mathlib.Omega.{arith}
use lib.IntN.{ℤ}
use lib.ListN.{length, drop, length-drop}
use lib.Seq.{take-append-le, drop-append-le}
use Rattle.text.specs.Lines.{row_line, row_words, rows_text, listing_text}
use Rattle.totals.proofs.Laws.{front_failed, front_checks}
use Rattle.printing.specs.Page.{feed_after, page_line, page_text}
use Rattle.report.specs.Listing.{rows_listing}
use Rattle.report.specs.Page.{rows_text as text_of}

module _ (a b : List ℤ) where
  row_words_lem : (n : ℕ) → 8 * n + 8 ≤ length a → row_words (a ++ b) n ≡ row_words a n
  row_words_lem n h =
      let k : 8 * n ≤ length a = omega arith in
      rw (drop-append-le (8 * n) a b k) (take-append-le 8 (drop (8 * n) a) b (simp length-drop (omega arith)))

  rows_text_lem : (n : ℕ) → 8 * n ≤ length a → rows_text (a ++ b) n ≡ rows_text a n
  unfolding rows_text
  rows_text_lem zero h = refl
  rows_text_lem (suc n) h = ap₂ (λ (s t : List ℕ). s ++ t) (rows_text_lem n (omega arith)) (ap row_line (row_words_lem n (omega arith)))

  first_rows : (n : ℕ) → 8 * n ≤ length a → rows_listing (a ++ b) n ≡ rows_listing a n
  unfolding rows_listing listing_text
  first_rows n h = rw (front_failed a b n h, front_checks a b n h, rows_text_lem n h)

  first_lines : (n : ℕ) → 8 * n ≤ length a → page_text (a ++ b) n ≡ page_text a n
  unfolding page_text
  first_lines zero h = refl
  first_lines (suc n) h =
      ap₂ (λ (s t : List ℕ). s ++ feed_after n ++ t) (first_lines n (omega arith)) (ap page_line (row_words_lem n (omega arith)))

  pub first_text : (paged : Bool) (n : ℕ) → 8 * n ≤ length a → text_of paged (a ++ b) n ≡ text_of paged a n
  first_text true n h = first_lines n h
  first_text false n h = first_rows n h
