-- What the call `page` answers, and what the slice holds then, in each of its four cases, over plain values. Assumes nothing.
use mathlib.Core.Path.{◌≡◌, refl, sym, ◌∙◌}
use mathlib.Core.Bool.{Bool, true, false, cond}
use mathlib.Core.List.{List, ◌++◌}
use Prim.Native.Nat.{ℕ, ◌*◌, ◌≤◌, ◌<◌}
use native.Mathlib.Nat.{zero-add}
use native.Mathlib.Omega.{arith}
use borrow.Author.Tests.{ltb-false, lt-ltb, le-ltb}
use lib.Dec.{eqb, ltb}
use lib.IntN.{ℤ}
use lib.ListN.{length, drop}
use Rattle.slices.specs.Written.{written, Writes}
use Rattle.printing.specs.Page.{page_text, page_length}
use Rattle.printing.specs.Answers.{PageAnswer, printed, refused_with, too_few_words, page_too_wide, page_of, bytes_after}
use Rattle.printing.proofs.Lengths.{page_length_lem}

module _ (words : List ℤ) (n : ℕ) where
  -- the answer to `room` bytes
  module _ (room : ℕ) where
    pub few_answer : length words < 8 * n → page_of words n room ≡ too_few_words n
    unfolding page_of
    few_answer h = rw (lt-ltb (length words) (8 * n) h)

    module _ (h : 8 * n ≤ length words) where
      pub wide_answer : page_too_wide words n ≡ true → page_of words n room ≡ refused_with 12
      unfolding page_of
      wide_answer e = rw (le-ltb (length words) (8 * n) h, e)

      module _ (e : page_too_wide words n ≡ false) where
        pub short_answer : room < page_length n → page_of words n room ≡ refused_with 11
        unfolding page_of
        short_answer l = rw (le-ltb (length words) (8 * n) h, e, lt-ltb room (length (page_text words n)) (omega (arith, page_length_lem words n h e)))

        pub page_answer_lem : page_length n ≤ room → page_of words n room ≡ printed (length (page_text words n))
        unfolding page_of
        page_answer_lem l = rw (le-ltb (length words) (8 * n) h, e, le-ltb room (length (page_text words n)) (omega (arith, page_length_lem words n h e)))

  -- the slice after it
  module _ (before : List ℕ) {a : PageAnswer} (e : page_of words n (length before) ≡ a) where
    pub refused_bytes : eqb a.number 0 ≡ false → before ≡ bytes_after words n before
    unfolding bytes_after
    refused_bytes r = sym (rw (e, r))

    pub page_bytes : eqb a.number 0 ≡ true → {after : List ℕ} {next : ℕ} → Writes before 0 (page_text words n) after next → after ≡ bytes_after words n before
    unfolding bytes_after written
    page_bytes r w = w.bytes ∙ sym (rw (e, r, zero-add))

-- ---- a page that is printed

pub record Whole (words : List ℤ) (n room : ℕ) : Type 0 where
  pub enough : 8 * n ≤ length words
  pub narrow : page_too_wide words n ≡ false
  pub fits : length (page_text words n) ≤ room

-- an answer without a refusal tells that there were words enough, that no value was too wide, and that the page fitted
pub whole_page : (words : List ℤ) (n room : ℕ) → (page_of words n room).number ≡ 0 → Whole words n room
unfolding page_of
whole_page words n room e =
    by (ltb (length words) (8 * n)) (page_too_wide words n) (ltb room (length (page_text words n))) refl refl refl e
  where
    by : (a b c : Bool) → ltb (length words) (8 * n) ≡ a → page_too_wide words n ≡ b → ltb room (length (page_text words n)) ≡ c →
        (cond a (too_few_words n) (cond b (refused_with 12) (cond c (refused_with 11) (printed (length (page_text words n)))))).number ≡ 0 → Whole words n room
    by true b c p q r e = absurd (omega (arith, e))
    by false true c p q r e = absurd (omega (arith, e))
    by false false true p q r e = absurd (omega (arith, e))
    by false false false p q r e =
        record { enough = ltb-false (length words) (8 * n) p; narrow = q; fits = ltb-false room (length (page_text words n)) r }

-- the bytes then
pub printed_bytes : (words : List ℤ) (n : ℕ) (before : List ℕ) → (page_of words n (length before)).number ≡ 0 → bytes_after words n before ≡ page_text words n ++ drop (length (page_text words n)) before
unfolding bytes_after
printed_bytes words n before e = rw e
