-- What the call `page` answers, and what the lent bytes are then. 02, No. 3: "Errors: 9 for too few words, then 12 when a value needs
-- more than its width less one character, then 11 for a short byte slice; nothing is then written and the length answered is 0."
-- Assumes nothing.
use Rattle.std.specs.Prelude.{Bool, false, cond, ◌||◌, List, [], ◌∷◌, ◌++◌, ℕ, zero, suc, ◌-◌, ◌*◌, eqb, ltb, ℤ, length, drop, Result, Ok, Err}
use Rattle.text.specs.Decimal.{signed_decimal}
use Rattle.text.specs.Lines.{row_words}
use Rattle.printing.specs.declared.PageError.{PageError}
use Rattle.printing.specs.declared.PageError.TheVariants.{TooFewWords, TooWide, TooShort}
use Rattle.printing.specs.Page.{widths, page_text}

-- the value needs more than its width less one character, its minus counted
unfoldable pub too_wide : ℕ → ℤ → Bool
too_wide width value = ltb (width - 1) (length (signed_decimal value))

unfoldable pub any_too_wide : List ℕ → List ℤ → Bool
any_too_wide [] values = false
any_too_wide (w ∷ ws) [] = false
any_too_wide (w ∷ ws) (v ∷ vs) = too_wide w v || any_too_wide ws vs

-- a value of the first n rows does
unfoldable pub page_too_wide : List ℤ → ℕ → Bool
page_too_wide words zero = false
page_too_wide words (suc n) = page_too_wide words n || any_too_wide widths (row_words words n)

-- the refusal's number and offset, 0 where there is none, the rows needed, and the length of the page
pub record PageAnswer : Type 0 where
  pub number : ℕ
  pub offset : ℕ
  pub rows : ℕ
  pub bytes : ℕ

abbrev pub printed : ℕ → PageAnswer
printed n = record { number = 0; offset = 0; rows = 0; bytes = n }

abbrev pub refused_with : ℕ → PageAnswer
refused_with number = record { number = number; offset = 0; rows = 0; bytes = 0 }

-- refusal 9 carries n as the rows needed
abbrev pub too_few_words : ℕ → PageAnswer
too_few_words n = record { number = 9; offset = 0; rows = n; bytes = 0 }

-- the answer of page in the code, in 02's terms
abbrev pub page_answer : Result ℕ PageError → PageAnswer
page_answer (Ok n) = printed n
page_answer (Err (TooFewWords n)) = too_few_words n
page_answer (Err TooWide) = refused_with 12
page_answer (Err TooShort) = refused_with 11

-- what page answers for the first n rows, on a slice of so many bytes
unfoldable pub page_of : List ℤ → ℕ → ℕ → PageAnswer
page_of words n room =
    cond (ltb (length words) (8 * n)) (too_few_words n)
    (cond (page_too_wide words n) (refused_with 12)
    (cond (ltb room (length (page_text words n))) (refused_with 11)
    (printed (length (page_text words n)))))

-- what the slice holds then: the page, and every later byte as lent; in a refusal every byte as lent
unfoldable pub bytes_after : List ℤ → ℕ → List ℕ → List ℕ
bytes_after words n before =
    cond (eqb (page_of words n (length before)).number 0) (page_text words n ++ drop (length (page_text words n)) before) before
