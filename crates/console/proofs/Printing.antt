-- A job that is too long has the same text whether all of it was read or not. Assumes nothing.
use Rattle.std.proofs.Common.{◌≡◌, ℕ, ◌<◌, ◌≤◌, ℤ, List, ◌++◌, inl, inr, length, take, Option, None, Some, IfSome, sym, ap, subst, refl, ◌∙◌, arith, append-nil, length-append, length-take-le}
use Rattle.std.specs.Prelude.{Result, Ok, Err, OnOk, MatchResult}
use Rattle.std.specs.Result.{is_ok}
use Rattle.std.proofs.lemmas.Bool.{lt-ltb, false≢true}
use Rattle.std.proofs.Math.Nat.{eq-or-lt_of_le}
use Rattle.std.specs.Io.KnownBytes.{Appends, Consumes, IsAtEnd}
use Rattle.report.specs.Printed.{printed_of}

-- what stands after the first 65,537 bytes of a job changes nothing
pub printed_longer : (f : List ℤ → ℕ → List ℕ) (xs ys : List ℕ) → 65536 < length xs → printed_of f (xs ++ ys) ≡ printed_of f xs
unfolding printed_of
printed_longer f xs ys h =
    let more : 65536 < length (xs ++ ys) = omega (arith, length-append xs ys) in
    rw (lt-ltb 65536 (length (xs ++ ys)) more) (rw (lt-ltb 65536 (length xs) h) refl)

-- the bytes that were read give the text of the whole job
pub printed_read : (f : List ℤ → ℕ → List ℕ) (old new before after : Option (List ℕ)) (buffer : List ℕ) (n : ℕ) → 65536 < length buffer → n ≤ length buffer
    → Consumes old new (take n buffer) → (n < length buffer → IsAtEnd new) → Appends before after (printed_of f (take n buffer))
    → IfSome old (λ job. Appends before after (printed_of f job))
printed_read f None new before after buffer n long within read end text = tt
printed_read f (Some xs) None before after buffer n long within read end text = absurd read
printed_read f (Some xs) (Some ys) before after buffer n long within read end text =
    let same : printed_of f xs ≡ printed_of f (take n buffer) =
    elim (eq-or-lt_of_le within) [
      | inl full ↦
          let many : 65536 < length (take n buffer) = omega (arith, length-take-le n buffer within) in
          ap (printed_of f) read ∙ printed_longer f (take n buffer) ys many
      | inr less ↦ ap (printed_of f) (read ∙ ap (λ l. take n buffer ++ l) (end less) ∙ append-nil (take n buffer))
    ] in
    subst (Appends before after) (sym same) text

-- ---- where an error becomes a `Failure`, what is known of an `Ok` stays

pub was_ok : {A E F : Type 0} (r : Result A E) (s : Result A F) (n : A) (W : E → Type 0) → MatchResult r (λ x. s ≡ Ok x) W → is_ok s ≡ is_ok r → s ≡ Ok n → r ≡ Ok n
was_ok (Ok x) s n W m v e = let same : x ≡ n = cc in ap Ok same
was_ok (Err x) s n W m v e = absurd (false≢true (sym v ∙ ap is_ok e))

pub still_ok : {A B E F : Type 0} (r : Result A E) (s : Result B F) {P Q : Type 0} → is_ok s ≡ is_ok r → (P → Q) → OnOk r P → OnOk s Q
still_ok (Ok x) (Ok y) v f p = f p
still_ok (Err x) (Ok y) v f p = absurd (false≢true (sym v))
still_ok r (Err y) v f p = tt
