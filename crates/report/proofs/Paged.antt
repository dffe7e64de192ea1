-- The page that the call `page` leaves in a slice with room for it, as a text written from the start. Assumes nothing.
use mathlib.Core.Path.{◌≡◌, refl, sym, ap, ◌∙◌}
use mathlib.Core.Bool.{false}
use mathlib.Core.List.{List}
use Prim.Native.Nat.{ℕ, ◌+◌, ◌*◌, ◌≤◌}
use native.Mathlib.Nat.{zero-add}
use native.Mathlib.Omega.{arith}
use lib.IntN.{ℤ}
use lib.ListN.{length}
use Rattle.std.specs.Prelude.{Result, Ok, Err}
use Rattle.std.specs.Result.{result_unwrap_or}
use Rattle.slices.specs.Written.{written, WritesAtMost}
use Rattle.printing.specs.Page.{page_text}
use Rattle.printing.specs.declared.PageError.{PageError}
use Rattle.printing.specs.declared.PageError.TheVariants.{TooFewWords, TooWide, TooShort}
use Rattle.printing.specs.Answers.{PageAnswer, page_answer, page_too_wide, page_of, bytes_after}
use Rattle.printing.proofs.Lengths.{page_length_lem}
use Rattle.printing.proofs.Answered.{page_answer_lem}

pub paged : (words : List ℤ) (n : ℕ) (before after : List ℕ) (answer : PageAnswer) → 8 * n ≤ length words → page_too_wide words n ≡ false →
    168 * n + 82 ≤ length before → answer ≡ page_of words n (length before) → after ≡ bytes_after words n before →
    WritesAtMost (168 * n + 82) before 0 (page_text words n) after answer.bytes
unfolding written bytes_after
paged words n before after answer h e room a b =
    let l = page_length_lem words n h e in
    let p = page_answer_lem words n (length before) h e (omega arith) in
    let r = ap (λ (x : PageAnswer). x.bytes) (a ∙ p) in
    record {
      writes = record { position = r ∙ sym (zero-add (length (page_text words n))); bytes = b ∙ rw (p, zero-add) };
      short = omega (arith, r, l);
    }

-- the length that an answer gives, 0 where it is a refusal
pub length_or_zero : (answer : Result ℕ PageError) → result_unwrap_or answer 0 ≡ (page_answer answer).bytes
length_or_zero (Ok n) = refl
length_or_zero (Err (TooFewWords n)) = refl
length_or_zero (Err TooWide) = refl
length_or_zero (Err TooShort) = refl
