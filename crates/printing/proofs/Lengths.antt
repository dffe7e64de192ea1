-- The length of a page is fixed by the row count: 81·n + (n − 1)/50 for n above 0, and 0 for none. Assumes nothing.
use mathlib.Core.Path.{◌≡◌, refl, ap}
use mathlib.Core.Bool.{false}
use mathlib.Core.List.{List, [], ◌∷◌, ◌++◌}
use Prim.Native.Nat.{ℕ, zero, suc, ◌+◌, ◌-◌, ◌*◌, ◌/◌, ◌%◌, ◌≤◌, ◌<◌}
use native.Mathlib.Decide.{ℕ_discrete}
use native.Mathlib.Omega.{arith}
use borrow.Author.Tests.{lt-ltb, eq-eqb, ne_eqb}
use lib.IntN.{ℤ}
use lib.ListN.{length, length-append}
use Rattle.text.specs.Lines.{row_words}
use Rattle.printing.specs.Page.{form_feed, feed_after, page_line, page_text, page_length}
use Rattle.printing.specs.Answers.{page_too_wide}
use Rattle.printing.proofs.LineSteps.{length_line}
use Rattle.printing.proofs.Scan.{narrow_before, narrow_row}

-- ---- the form feeds

pub no_feed_first : feed_after 0 ≡ []
unfolding feed_after
no_feed_first = refl

pub feed_within : (n : ℕ) → ¬ (n % 50 ≡ 0) → feed_after n ≡ []
unfolding feed_after
feed_within zero h = refl
feed_within (suc n) h = rw (lt-ltb 0 (suc n) (omega arith), ne_eqb (suc n % 50) 0 h)

pub feed_after_fifty : (n : ℕ) → 0 < n → n % 50 ≡ 0 → feed_after n ≡ form_feed ∷ []
unfolding feed_after
feed_after_fifty n p h = rw (lt-ltb 0 n p, eq-eqb (n % 50) 0 h)

-- with the one that may follow n lines there are n/50
pub length_feed : (n : ℕ) → (n - 1) / 50 + length (feed_after n) ≡ n / 50
length_feed zero = omega (arith, ap length no_feed_first)
length_feed (suc n) = by (ℕ_discrete (suc n % 50) 0)
  where
    by : Dec (suc n % 50 ≡ 0) → (suc n - 1) / 50 + length (feed_after (suc n)) ≡ suc n / 50
    by (yes e) = omega (arith, e, ap length (feed_after_fifty (suc n) (omega arith) e))
    by (no e) = omega (arith, e, ap length (feed_within (suc n) e))

-- ---- the page

pub page_length_lem : (words : List ℤ) (n : ℕ) → 8 * n ≤ length words → page_too_wide words n ≡ false → length (page_text words n) ≡ page_length n
unfolding page_text
page_length_lem words zero h e = omega arith
page_length_lem words (suc n) h e =
    omega (
      arith,
      length-append (page_text words n ++ feed_after n) (page_line (row_words words n)),
      length-append (page_text words n) (feed_after n),
      length_feed n,
      length_line words n (omega arith) (narrow_row words n (suc n) (omega arith) e),
      page_length_lem words n (omega arith) (narrow_before words n (suc n) (omega arith) e),
    )
