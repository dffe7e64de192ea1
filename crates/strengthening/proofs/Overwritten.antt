-- A job with another number written over a strength's four bytes: it is alike but for these, and the number stands there. Assumes nothing.
use mathlib.Core.Path.{◌≡◌, sym, ap, ◌∙◌}
use mathlib.Core.List.{List, [], ◌∷◌, ◌++◌}
use mathlib.Core.Logic.{◌⊎◌, inl, inr}
use Prim.Native.Nat.{ℕ, zero, suc, ◌+◌, ◌-◌, ◌≤◌, ◌<◌}
use native.Mathlib.Omega.{arith}
use lib.ListN.{length, length-append, length-drop, get_or-append, take, drop}
use lib.Seq.{length-take-le, get_or-take, get_or-drop, drop-append_seam, take-append_seam}
use Rattle.std.proofs.lemmas.List.{get_or-append-add}
use Rattle.numbers.specs.BigEndian.{big_endian}
use Rattle.numbers.proofs.BigEndian.{big_endian_length, number_written}
use Rattle.layout.specs.Number.{number}
use Rattle.layout.specs.Operands.{operand, byte_at}
use Rattle.layout.proofs.Numbers.{Bytes, bytes_take, bytes_drop}
use Rattle.strengthening.specs.Raised.{Strength, begins, value, Raised, overwritten}
use Rattle.strengthening.proofs.ReadRaised.{FourBytes}

-- ---- bytes

bytes_both : (xs ys : List ℕ) → Bytes xs → Bytes ys → Bytes (xs ++ ys)
bytes_both [] ys b c k = c k
bytes_both (x ∷ xs) ys b c zero = b zero
bytes_both (x ∷ xs) ys b c (suc k) = bytes_both xs ys (λ i. b (suc i)) c k

written_bytes : (n x : ℕ) → Bytes (big_endian n x)
unfolding big_endian
written_bytes zero x k = omega arith
written_bytes (suc n) x zero = omega arith
written_bytes (suc n) x (suc k) = written_bytes n x k

pub overwritten_bytes : (job : List ℕ) (s : Strength) (n : ℕ) → Bytes job → Bytes (overwritten job s n)
overwritten_bytes job s n b = bytes_both (take (begins s) job) (big_endian 4 n ++ drop (begins s + 4) job) (bytes_take (begins s) job b) (bytes_both (big_endian 4 n) (drop (begins s + 4) job) (written_bytes 4 n) (bytes_drop (begins s + 4) job b))

-- ---- alike but for the four

module _ (job : List ℕ) (s : Strength) (n : ℕ) (inside : begins s + 4 ≤ length job) where
  abbrev at : ℕ
  at = begins s

  abbrev front : List ℕ
  front = take at job

  abbrev rest : List ℕ
  rest = drop (at + 4) job

  front_long : length front ≡ at
  front_long = length-take-le at job (omega arith)

  as_long : length (overwritten job s n) ≡ length job
  as_long = omega (arith, length-append front (big_endian 4 n ++ rest), length-append (big_endian 4 n) rest, big_endian_length 4 n, length-drop (at + 4) job, front_long, inside)

  alike : (k : ℕ) → (k < at) ⊎ (at + 4 ≤ k) → byte_at (overwritten job s n) k ≡ byte_at job k
  alike k (inl l) = get_or-append front (big_endian 4 n ++ rest) 0 k (omega (arith, front_long)) ∙ get_or-take at job k 0 l
  alike k (inr l) =
      let far : k ≡ length front + (length (big_endian 4 n) + (k - (at + 4))) = omega (arith, front_long, big_endian_length 4 n) in
      let place : at + 4 + (k - (at + 4)) ≡ k = omega arith in
      ap (byte_at (overwritten job s n)) far
      ∙ get_or-append-add front (big_endian 4 n ++ rest) (length (big_endian 4 n) + (k - (at + 4))) 0
      ∙ get_or-append-add (big_endian 4 n) rest (k - (at + 4)) 0
      ∙ get_or-drop (at + 4) job (k - (at + 4)) 0
      ∙ ap (byte_at job) place

  -- the number that stands there
  pub written : FourBytes s → n < 4294967296 → value (overwritten job s n) s ≡ n
  unfolding operand
  written four l =
      rw four
      (ap (λ (k : ℕ). number (take 4 (drop k (overwritten job s n)))) (sym front_long)
      ∙ ap (λ (bytes : List ℕ). number (take 4 bytes)) (drop-append_seam front (big_endian 4 n ++ rest))
      ∙ ap (λ (k : ℕ). number (take k (big_endian 4 n ++ rest))) (sym (big_endian_length 4 n))
      ∙ ap number (take-append_seam (big_endian 4 n) rest)
      ∙ number_written 4 n l)

  pub overwritten_raised : FourBytes s → value job s < n → n < 4294967296 → Raised job (overwritten job s n) s
  overwritten_raised four g l = record { as_long = as_long; alike = alike; greater = rw (written four l) g }
