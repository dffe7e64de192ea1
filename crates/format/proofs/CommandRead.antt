-- The command at an offset of a job depends on its own operands alone, may be read operand by operand, and has the byte and the
-- operands that stand there. Assumes nothing.
use mathlib.Core.List.{List}
use mathlib.Core.Bool.{true}
use mathlib.Core.Path.{◌≡◌, refl, sym, ap, ◌∙◌}
use Prim.Native.Nat.{ℕ, ◌+◌, ◌≤◌, ◌<◌}
use native.Mathlib.Nat.{add-zero}
use native.Mathlib.Omega.{arith}
use lib.Dec.{lit<}
use lib.ListN.{length, take, drop}
use Rattle.layout.specs.Layouts.{known, forms_of, forms_in, operands_width}
use Rattle.format.specs.Commands.{Command, storey, byte_of, operands_of, storey_of, command_of}
use Rattle.layout.specs.Operands.{operand, byte_at, read_operands, operands_at}
use Rattle.format.specs.Reading.{command_at}
use Rattle.layout.proofs.KnownBytes.{each_byte}
use Rattle.format.proofs.OtherBytes.{command_other}
use Rattle.format.proofs.RoundTrip.{byte_back, operands_back}
use Rattle.layout.proofs.Numbers.{Bytes}
use Rattle.layout.proofs.Widths.{widths}
use Rattle.layout.proofs.OperandsRead.{at, operand_at, operand_within, read_length, read_below, operands_length, operands_fit}

-- v and w agree at the operands of a command
abbrev pub Same : ℕ → (ℕ → ℕ) → (ℕ → ℕ) → Type 0
Same byte v w = (i : ℕ) → i < length (forms_of byte) → v i ≡ w i

pub command_same : (byte : ℕ) (v w : ℕ → ℕ) → Same byte v w → command_of byte v ≡ command_of byte w
unfolding forms_of forms_in command_of
command_same byte v w =
    each_byte (λ b. Same b v w → command_of b v ≡ command_of b w)
    (λ h. refl)
    (λ h. rw (h 0 (lit< tt), h 1 (lit< tt), h 2 (lit< tt)))
    (λ h. rw (h 0 (lit< tt), h 1 (lit< tt), h 2 (lit< tt), h 3 (lit< tt)))
    (λ h. rw (h 0 (lit< tt), h 1 (lit< tt), h 2 (lit< tt), h 3 (lit< tt), h 4 (lit< tt), h 5 (lit< tt), h 6 (lit< tt)))
    (λ h.
    rw (h 0 (lit< tt), h 1 (lit< tt), h 2 (lit< tt), h 3 (lit< tt), h 4 (lit< tt), h 5 (lit< tt), h 6 (lit< tt), h 7 (lit< tt)))
    (λ h. rw (h 0 (lit< tt), h 1 (lit< tt), h 2 (lit< tt), h 3 (lit< tt), h 4 (lit< tt), h 5 (lit< tt), h 6 (lit< tt)))
    (λ h. rw (h 0 (lit< tt), h 1 (lit< tt), h 2 (lit< tt), h 3 (lit< tt), h 4 (lit< tt), h 5 (lit< tt)))
    (λ h. rw (h 0 (lit< tt), h 1 (lit< tt), h 2 (lit< tt), h 3 (lit< tt), h 4 (lit< tt), h 5 (lit< tt)))
    (λ h. rw (h 0 (lit< tt), h 1 (lit< tt), h 2 (lit< tt)))
    (λ h.
    rw (
      h 0 (lit< tt),
      h 1 (lit< tt),
      h 2 (lit< tt),
      h 3 (lit< tt),
      h 4 (lit< tt),
      h 5 (lit< tt),
      h 6 (lit< tt),
      h 7 (lit< tt),
      h 8 (lit< tt),
      h 9 (lit< tt),
      h 10 (lit< tt),
      h 11 (lit< tt),
      h 12 (lit< tt),
      h 13 (lit< tt),
      h 14 (lit< tt),
    ))
    (λ h. rw (h 0 (lit< tt), h 1 (lit< tt), h 2 (lit< tt), h 3 (lit< tt), h 4 (lit< tt)))
    (λ h.
    rw (h 0 (lit< tt), h 1 (lit< tt), h 2 (lit< tt), h 3 (lit< tt), h 4 (lit< tt), h 5 (lit< tt), h 6 (lit< tt), h 7 (lit< tt)))
    (λ h. refl)
    (λ b l h. command_other b v l ∙ sym (command_other b w l))
    byte

module _ (job : List ℕ) (start : ℕ) where
  -- the command of operands that were read one by one
  pub command_read : (v : ℕ → ℕ) → Same (byte_at job start) v (at (operands_at job start)) → command_of (byte_at job start) v ≡ command_at job start
  unfolding command_at
  command_read v h = command_same (byte_at job start) v (at (operands_at job start)) h

  -- read operand by operand, each at its offset
  pub command_at_offset : command_of (byte_at job start) (operand (byte_at job start) job (start + 1)) ≡ command_at job start
  command_at_offset = command_read (operand (byte_at job start) job (start + 1)) (operand_at (byte_at job start) job (start + 1))

  -- its byte is that of the command
  pub byte_read : known (byte_at job start) ≡ true → byte_of (command_at job start) ≡ byte_at job start
  unfolding command_at
  byte_read k = byte_back (byte_at job start) (at (operands_at job start)) k

  -- its operands are those that stand behind it
  pub operands_read : Bytes job → operands_of (command_at job start) ≡ operands_at job start
  unfolding command_at
  operands_read b = operands_back (byte_at job start) (operands_at job start) (operands_length job start) (operands_fit job start b)

-- ---- read from the bytes of its operands alone

module _ (job : List ℕ) (offset byte : ℕ) (e : byte ≡ byte_at job offset) where
  pub command_alone : command_of byte (operand byte (take (operands_width byte) (drop (offset + 1) job)) 0) ≡ command_at job offset
  command_alone =
      command_same byte (operand byte (take (operands_width byte) (drop (offset + 1) job)) 0) (operand byte job (offset + 1))
      (λ i l. operand_within byte job (offset + 1) 0 (operands_width byte) i (omega arith) l ∙ ap (λ (at : ℕ). operand byte job at i) (add-zero (offset + 1)))
      ∙ ap (λ (b : ℕ). command_of b (operand b job (offset + 1))) e
      ∙ command_at_offset job offset

-- the operands of a command that is made of them
module _ (byte : ℕ) (bytes : List ℕ) (b : Bytes bytes) where
  made : command_of byte (operand byte bytes 0) ≡ command_of byte (at (read_operands (forms_of byte) bytes))
  made = command_same byte (operand byte bytes 0) (at (read_operands (forms_of byte) bytes)) (operand_at byte bytes 0)

  pub operands_made : operands_of (command_of byte (operand byte bytes 0)) ≡ read_operands (forms_of byte) bytes
  operands_made = rw made (operands_back byte (read_operands (forms_of byte) bytes) (read_length (forms_of byte) bytes) (read_below (forms_of byte) bytes b))

-- ---- what the calls that read return

module _ (job : List ℕ) (offset byte : ℕ) (e : byte ≡ byte_at job offset) where
  pub read_alone : (b n : ℕ) {r : Command} → b ≡ byte → n ≡ operands_width byte → r ≡ command_of b (operand b (take n (drop (offset + 1) job)) 0) → r ≡ command_at job offset
  read_alone b n eb en h =
      h
      ∙ ap (λ (b : ℕ). command_of b (operand b (take n (drop (offset + 1) job)) 0)) eb
      ∙ ap (λ (n : ℕ). command_of byte (operand byte (take n (drop (offset + 1) job)) 0)) en
      ∙ command_alone job offset byte e

-- the storey of a part of the bytes
pub storey_within : (job : List ℕ) (from at w : ℕ) → at + 24 ≤ w → storey_of (operand 7 (take w (drop from job)) at) ≡ storey_of (operand 7 job (from + at))
unfolding command_of
storey_within job from at w h =
    let room : at + operands_width 7 ≤ w = omega (arith, widths.storey) in
    let same : storey (storey_of (operand 7 (take w (drop from job)) at)) ≡ storey (storey_of (operand 7 job (from + at))) =
    command_same 7 (operand 7 (take w (drop from job)) at) (operand 7 job (from + at)) (λ i l. operand_within 7 job from at w i room l) in
    cc
