-- The search for a value that is too wide, over the words of a row and over the rows. Assumes nothing.
use mathlib.Core.Path.{◌≡◌, refl, sym, ap, ap₂, ◌∙◌}
use mathlib.Core.Bool.{Bool, true, false, not, ◌||◌, ◌&&◌, true≢false}
use mathlib.Core.Logic.{⊎_elim}
use mathlib.Core.List.{List, [], ◌∷◌, ◌++◌}
use Prim.Native.Nat.{ℕ, zero, suc, ◌-◌, ◌*◌, ◌^◌, ◌≤◌, ◌<◌}
use native.Mathlib.Nat.{eq-or-lt_of_le}
use native.Mathlib.Omega.{arith}
use lib.IntN.{ℤ, pos, negsuc}
use lib.Signed.{le_z}
use Rattle.std.specs.List.{list_any, zip}
use Rattle.std.specs.Simd.{first_chunks}
use Rattle.slices.proofs.Rows.{chunks_more}
use Rattle.text.specs.Lines.{row_words}
use Rattle.printing.specs.declared.TheConstants.{FITTING}
use Rattle.printing.specs.Page.{widths}
use Rattle.printing.specs.Answers.{any_too_wide, page_too_wide}
use Rattle.printing.proofs.LineSteps.{second_false}
use Rattle.printing.proofs.Sizes.{outside}

-- ---- the words of a row

-- the values that are not too wide, of so many words: the least and the greatest of each width
pub data Fitting : List ℕ → List (ℤ × ℤ) → Type 0 where
  none : Fitting [] []
  one : (w below greatest : ℕ) (ws : List ℕ) (fs : List (ℤ × ℤ)) → 3 ≤ w → suc (suc below) ≡ 10 ^ (w - 2) → suc greatest ≡ 10 * 10 ^ (w - 2) → Fitting ws fs → Fitting (w ∷ ws) ((negsuc below, pos greatest) ∷ fs)

-- the test of each word and its two values
pub any_word : {ws : List ℕ} {fs : List (ℤ × ℤ)} → Fitting ws fs → (vs : List ℤ) → list_any (λ (p : ℤ × (ℤ × ℤ)). not (le_z p.1.0 p.0 && le_z p.0 p.1.1)) (zip vs fs) ≡ any_too_wide ws vs
unfolding any_too_wide
any_word none [] = refl
any_word none (v ∷ vs) = refl
any_word (one w below greatest ws fs h l g more) [] = refl
any_word (one w below greatest ws fs h l g more) (v ∷ vs) =
    ap₂ (λ a b. a || b) (outside w below greatest h l g v) (any_word more vs)

-- those of the code
wide : {ws : List ℕ} {fs : List (ℤ × ℤ)} → Fitting ws fs → Fitting (13 ∷ ws) ((negsuc 99999999998, pos 999999999999) ∷ fs)
wide more = one 13 _ _ _ _ (omega arith) refl refl more

pub fitting_is : Fitting widths FITTING
fitting_is =
    one 7 _ _ _ _ (omega arith) refl refl
    (one 3 _ _ _ _ (omega arith) refl refl
    (wide (wide (wide (wide (wide (one 5 _ _ _ _ (omega arith) refl refl none)))))))

-- ---- the rows

pub row_passed : (words : List ℤ) (row : ℕ) → any_too_wide widths (row_words words row) ≡ false → page_too_wide words row ≡ false → page_too_wide words (suc row) ≡ false
unfolding page_too_wide
row_passed words row e p = rw (p, e)

-- found in the first rows, so in more of them
pub found_after : (words : List ℤ) (row n : ℕ) → row ≤ n → page_too_wide words row ≡ true → page_too_wide words n ≡ true
unfolding page_too_wide
found_after words row zero h e =
    let k : row ≡ zero = omega arith in
    rw k at e
found_after words row (suc n) h e =
    ⊎_elim (λ k. rw k at e) (λ l. rw (found_after words row n (omega arith) e)) (eq-or-lt_of_le h)

-- not found, so not in fewer of them
pub narrow_before : (words : List ℤ) (row n : ℕ) → row ≤ n → page_too_wide words n ≡ false → page_too_wide words row ≡ false
narrow_before words row n h e = go (page_too_wide words row) refl
  where
    go : (b : Bool) → page_too_wide words row ≡ b → page_too_wide words row ≡ false
    go true t = absurd (true≢false (sym (found_after words row n h t) ∙ e))
    go false t = t

-- and in none of them
pub narrow_row : (words : List ℤ) (row n : ℕ) → row < n → page_too_wide words n ≡ false → any_too_wide widths (row_words words row) ≡ false
unfolding page_too_wide
narrow_row words row n h e =
    second_false (page_too_wide words row) (any_too_wide widths (row_words words row)) (narrow_before words (suc row) n h e)

-- the same of the rows as chunks
any_append : (test : List ℤ → Bool) (xs : List (List ℤ)) (x : List ℤ) → list_any test (xs ++ x ∷ []) ≡ (list_any test xs || test x)
any_append test [] x = or_false (test x)
  where
    or_false : (b : Bool) → (b || false) ≡ b
    or_false true = refl
    or_false false = refl
any_append test (y ∷ xs) x = step (test y) (any_append test xs x)
  where
    step : (b : Bool) → list_any test (xs ++ x ∷ []) ≡ (list_any test xs || test x) → (b || list_any test (xs ++ x ∷ [])) ≡ ((b || list_any test xs) || test x)
    step true e = refl
    step false e = e

pub any_row : (words : List ℤ) (n : ℕ) → list_any (any_too_wide widths) (first_chunks 8 n words) ≡ page_too_wide words n
unfolding page_too_wide
any_row words zero = refl
any_row words (suc n) =
    ap (list_any (any_too_wide widths)) (chunks_more n words)
    ∙ any_append (any_too_wide widths) (first_chunks 8 n words) (row_words words n)
    ∙ ap (λ b. b || any_too_wide widths (row_words words n)) (any_row words n)
