-- What is read of a command of the file lies in its bytes: one that lies in the front of a job is the same whatever follows, and so is
-- its fault. Assumes nothing.
use mathlib.Core.Path.{◌≡◌, refl, sym, ap, ap₂, ◌∙◌}
use mathlib.Core.Bool.{Bool, true, false}
use mathlib.Core.List.{List, [], ◌∷◌, ◌++◌}
use Prim.Native.Nat.{ℕ, zero, suc, ◌+◌, ◌*◌, ◌≤◌, ◌<◌}
use native.Mathlib.Omega.{arith}
use native.Mathlib.Decide.{dec_le}
use lib.Dec.{leb, ltb}
use lib.ListN.{length, take, drop, length-append, length-drop, get_or-append}
use lib.Seq.{take-append-le, drop-append-le}
use borrow.Author.Tests.{le-ltb, lt-leb}
use Rattle.layout.specs.declared.Form.{Form}
use Rattle.layout.specs.Number.{number}
use Rattle.layout.specs.Forms.{width}
use Rattle.layout.specs.Layouts.{forms_of, forms_in, width_of_all, operands_width}
use Rattle.layout.specs.Operands.{offset_of, operand, byte_at, read_operands}
use Rattle.format.specs.Reading.{command_at}
use Rattle.blocks.specs.Sets.{is_block, count_at, storey_at, storeys_at, sets_of}
use Rattle.blocks.specs.FileCommands.{one, block, file_command_at, width_at}
use Rattle.blocks.proofs.FileCommands.{width_one, width_block, width_some}
use Rattle.context.specs.Context.{Context}
use Rattle.job.specs.declared.Counts.{Counts}
use Rattle.job.specs.Faults.{after_command, command_tests, block_tests, tests_at}
use Rattle.job.proofs.PlacedCases.{fault_at}

reads_first : (fs : List Form) (bytes more : List ℕ) → width_of_all fs ≤ length bytes → read_operands fs (bytes ++ more) ≡ read_operands fs bytes
unfolding read_operands width_of_all
reads_first [] bytes more h = refl
reads_first (f ∷ fs) bytes more h =
    let l : width f ≤ length bytes = omega arith in
    let m : width_of_all fs ≤ length (drop (width f) bytes) = omega (arith, length-drop (width f) bytes) in
    rw (take-append-le (width f) bytes more l, drop-append-le (width f) bytes more l, reads_first fs (drop (width f) bytes) more m)

-- operands, and sets of operands, that lie in the front of a job, whatever follows
module _ (front more : List ℕ) where
  number_in_front : (w at : ℕ) → at + w ≤ length front → number (take w (drop at (front ++ more))) ≡ number (take w (drop at front))
  number_in_front w at l =
      let k : at ≤ length front = omega arith in
      let m : w ≤ length (drop at front) = omega (arith, length-drop at front) in
      rw (drop-append-le at front more k, take-append-le w (drop at front) more m)

  storey_in_front : (at : ℕ) → at + 24 ≤ length front → storey_at (front ++ more) at ≡ storey_at front at
  unfolding storey_at operand forms_of forms_in width offset_of
  storey_in_front at l =
      rw (
        number_in_front 4 (at + 0) (omega arith),
        number_in_front 4 (at + 4) (omega arith),
        number_in_front 4 (at + 8) (omega arith),
        number_in_front 4 (at + 12) (omega arith),
        number_in_front 4 (at + 16) (omega arith),
        number_in_front 4 (at + 20) (omega arith),
      )

  storeys_in_front : (n at : ℕ) → at + 24 * n ≤ length front → storeys_at n (front ++ more) at ≡ storeys_at n front at
  unfolding storeys_at
  storeys_in_front zero at l = refl
  storeys_in_front (suc n) at l = ap₂ ◌∷◌ (storey_in_front at (omega arith)) (storeys_in_front n (at + 24) (omega arith))

-- a command that lies in the front of a job, whatever follows
module _ (front : List ℕ) (at : ℕ) (w : after_command front at ≤ length front) (more : List ℕ) where
  pub byte_in_front : byte_at (front ++ more) at ≡ byte_at front at
  byte_in_front = get_or-append front more 0 at (omega (arith, width_some front at))

  -- a command by itself
  module _ (b : is_block (byte_at front at) ≡ false) where
    command_in_front : command_at (front ++ more) at ≡ command_at front at
    unfolding command_at operands_width
    command_in_front =
        let l : at + 1 ≤ length front = omega (arith, width_some front at) in
        let m : width_of_all (forms_of (byte_at front at)) ≤ length (drop (at + 1) front) = omega (arith, length-drop (at + 1) front, width_one front at b) in
        rw (byte_in_front, drop-append-le (at + 1) front more l, reads_first (forms_of (byte_at front at)) (drop (at + 1) front) more m)

  -- a block
  module _ (b : is_block (byte_at front at) ≡ true) where
    count_in_front : count_at (front ++ more) at ≡ count_at front at
    count_in_front = get_or-append front more 0 (at + 1) (omega (arith, width_block front at b))

    sets_in_front : sets_of (front ++ more) at ≡ sets_of front at
    sets_in_front = rw count_in_front (storeys_in_front front more (count_at front at) (at + 2) (omega (arith, width_block front at b)))

  -- either, by the byte
  module _ {A : Type 0} (f : List ℕ → A) (one : is_block (byte_at front at) ≡ false → f (front ++ more) ≡ f front) (many : is_block (byte_at front at) ≡ true → f (front ++ more) ≡ f front) where
    either : f (front ++ more) ≡ f front
    either = by (is_block (byte_at front at)) refl
      where
        by : (k : Bool) → is_block (byte_at front at) ≡ k → f (front ++ more) ≡ f front
        by true e = many e
        by false e = one e

  pub width_in_front : width_at (front ++ more) at ≡ width_at front at
  unfolding width_at
  width_in_front = either (λ l. width_at l at) (λ b. rw (byte_in_front, b)) (λ b. rw (byte_in_front, b, count_in_front b))

  pub given_in_front : file_command_at (front ++ more) at ≡ file_command_at front at
  unfolding file_command_at
  given_in_front =
      either (λ l. file_command_at l at) (λ b. rw (byte_in_front, b) (ap one (command_in_front b))) (λ b. rw (byte_in_front, b) (ap block (sets_in_front b)))

  longer : length front ≤ length (front ++ more)
  longer = omega (arith, length-append front more)

  not_cut : ltb (length (front ++ more)) (after_command (front ++ more) at) ≡ ltb (length front) (after_command front at)
  not_cut =
      le-ltb (length (front ++ more)) (after_command (front ++ more) at) (omega (arith, longer, width_in_front))
      ∙ sym (le-ltb (length front) (after_command front at) w)

  pub fault_in_front : (counts : Counts) (h : Context) → fault_at (front ++ more) at counts h ≡ fault_at front at counts h
  unfolding tests_at command_tests block_tests
  fault_in_front counts h =
      either (λ l. fault_at l at counts h) (λ b. rw (not_cut, byte_in_front, b, command_in_front b))
      (λ b.
      let k : at + 1 < length front = omega (arith, width_block front at b) in
      let counted : leb (length (front ++ more)) (at + 1) ≡ leb (length front) (at + 1) =
      lt-leb (length (front ++ more)) (at + 1) (omega (arith, longer)) ∙ sym (lt-leb (length front) (at + 1) k) in
      rw (not_cut, counted, sets_in_front b, byte_in_front, b, count_in_front b))

-- a command that the front does not hold ends beyond it, whatever follows
pub not_held : (front more : List ℕ) (at : ℕ) → length front < after_command front at → length front < after_command (front ++ more) at
not_held front more at l = by (dec_le (suc at) (length front)) (dec_le (suc (at + 1)) (length front))
  where
    one_byte : at < length front → byte_at (front ++ more) at ≡ byte_at front at
    one_byte w = get_or-append front more 0 at w

    known_byte : at < length front → (k : Bool) → is_block (byte_at front at) ≡ k → Dec (at + 1 < length front) → length front < after_command (front ++ more) at
    known_byte w false b d =
        omega (arith, width_one front at b, width_one (front ++ more) at (ap is_block (one_byte w) ∙ b), ap operands_width (one_byte w))
    known_byte w true b (yes d) =
        omega (arith, width_block front at b, width_block (front ++ more) at (ap is_block (one_byte w) ∙ b), get_or-append front more 0 (at + 1) d)
    known_byte w true b (no d) = omega (arith, width_block (front ++ more) at (ap is_block (one_byte w) ∙ b))

    by : Dec (at < length front) → Dec (at + 1 < length front) → length front < after_command (front ++ more) at
    by (yes w) d = known_byte w (is_block (byte_at front at)) refl d
    by (no w) d = omega (arith, width_some (front ++ more) at)
