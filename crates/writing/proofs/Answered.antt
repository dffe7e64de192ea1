-- The answer and the slice after a write, by cases: out of range, too short, written. What follows for every write: only the bytes
-- reported change, and nothing does in a refusal. Assumes nothing.
use mathlib.Core.Bool.{Bool, true, false, cond}
use mathlib.Core.List.{List, ◌++◌}
use mathlib.Core.Option.{Option, none, some}
use mathlib.Core.Path.{◌≡◌, refl}
use Prim.Native.Nat.{ℕ, suc, ◌+◌, ◌≤◌, ◌<◌}
use native.Mathlib.Omega.{arith}
use lib.ListN.{length, take, drop, length-append, length-drop}
use lib.Seq.{take_at, drop_at}
use lib.Dec.{leb}
use borrow.Author.Tests.{le-leb, lt-leb, leb-true}
use Rattle.layout.specs.Forms.{width}
use Rattle.layout.specs.Layouts.{forms_of, forms_in, width_of_all, operands_width}
use Rattle.format.specs.declared.Command.{Command}
use Rattle.format.specs.declared.Command.TheVariants.{Finish as finish, Settings as settings, Joint as joint, Column as column, Beam as beam, Hingeless as hingeless, WallBase as wall_base, Storey as storey, Soil as soil, Footing as footing, Detail as detail, Basement as basement, Building as building}
use Rattle.format.specs.Commands.{byte_of}
use Rattle.format.proofs.RangeTest.{and_first}
use Rattle.blocks.specs.Sets.{count_in_range, all_in_range}
use Rattle.blocks.specs.FileCommands.{FileCommand, one, block, width_of}
use Rattle.blocks.proofs.Sets.{count_range}
use Rattle.numbers.specs.BigEndian.{big_endian}
use Rattle.writing.specs.Bytes.{operand_bytes, bytes_of, file_bytes_of}
use Rattle.writing.specs.Answers.{WriteAnswer, wrote, refused_with, file_in_range, write_file_of, file_bytes_after, write_given, bytes_given}
use Rattle.writing.proofs.SetBytes.{sets_width}

-- a command has one byte more than its operands
pub bytes_width : (c : Command) → length (bytes_of c) ≡ 1 + operands_width (byte_of c)
unfolding bytes_of operand_bytes big_endian operands_width width_of_all width forms_of forms_in
bytes_width finish = refl
bytes_width (settings s) = refl
bytes_width (joint id j) = refl
bytes_width (column c) = refl
bytes_width (beam b) = refl
bytes_width (hingeless id1 id2 m) = refl
bytes_width (wall_base b) = refl
bytes_width (storey s) = refl
bytes_width (soil s) = refl
bytes_width (footing f) = refl
bytes_width (detail d) = refl
bytes_width (basement id m) = refl
bytes_width building = refl

-- and no more than a footing's 58
most : (c : Command) → leb (length (bytes_of c)) 58 ≡ true
unfolding bytes_of operand_bytes big_endian width forms_of forms_in
most finish = refl
most (settings s) = refl
most (joint id j) = refl
most (column c) = refl
most (beam b) = refl
most (hingeless id1 id2 m) = refl
most (wall_base b) = refl
most (storey s) = refl
most (soil s) = refl
most (footing f) = refl
most (detail d) = refl
most (basement id m) = refl
most building = refl

pub bytes_most : (c : Command) → length (bytes_of c) ≤ 58
bytes_most c = leb-true (length (bytes_of c)) 58 (most c)

-- ---- the commands of a file

pub file_bytes_width : (c : FileCommand) → length (file_bytes_of c) ≡ width_of c
file_bytes_width (one c) = bytes_width c
file_bytes_width (block ss) = omega (arith, sets_width ss)

-- a block that is written has no more than 1,538 bytes, and no other command more than a footing's
pub file_bytes_most : (c : FileCommand) → file_in_range c ≡ true → length (file_bytes_of c) ≤ 1538
file_bytes_most (one c) r = omega (arith, bytes_most c)
file_bytes_most (block ss) r =
    omega (arith, sets_width ss, (count_range (length ss) (and_first (count_in_range (length ss)) (all_in_range ss) r)).1)

-- ---- by cases

module _ (c : FileCommand) where
  module _ (r : file_in_range c ≡ false) where
    pub answer_5 : (room : ℕ) → write_file_of c room ≡ refused_with 5
    unfolding write_file_of
    answer_5 room = rw r

    pub slice_5 : (before : List ℕ) → file_bytes_after c before ≡ before
    unfolding file_bytes_after
    slice_5 before = rw r

  module _ (r : file_in_range c ≡ true) where
    pub answer_11 : (room : ℕ) → room < length (file_bytes_of c) → write_file_of c room ≡ refused_with 11
    unfolding write_file_of
    answer_11 room h = rw (r, lt-leb (length (file_bytes_of c)) room h)

    pub slice_11 : (before : List ℕ) → length before < length (file_bytes_of c) → file_bytes_after c before ≡ before
    unfolding file_bytes_after
    slice_11 before h = rw (r, lt-leb (length (file_bytes_of c)) (length before) h)

    pub answer_written : (room : ℕ) → length (file_bytes_of c) ≤ room → write_file_of c room ≡ wrote (length (file_bytes_of c))
    unfolding write_file_of
    answer_written room h = rw (r, le-leb (length (file_bytes_of c)) room h)

    pub slice_written : (before : List ℕ) → length (file_bytes_of c) ≤ length before → file_bytes_after c before ≡ file_bytes_of c ++ drop (length (file_bytes_of c)) before
    unfolding file_bytes_after
    slice_written before h = rw (r, le-leb (length (file_bytes_of c)) (length before) h)

-- ---- every write, accepted or refused

-- a refusal has a number
pub numbered : {n : ℕ} → suc n ≡ 0 → ⊥
numbered z = omega arith

-- what holds in each of the three cases holds
by_cases : (c : FileCommand) (before : List ℕ) (P : WriteAnswer → List ℕ → Type 0) →
    P (refused_with 5) before →
    P (refused_with 11) before →
    (length (file_bytes_of c) ≤ length before → P (wrote (length (file_bytes_of c))) (file_bytes_of c ++ drop (length (file_bytes_of c)) before)) →
    P (write_file_of c (length before)) (file_bytes_after c before)
unfolding write_file_of file_bytes_after
by_cases c before P p5 p11 p = go (file_in_range c) (leb (length (file_bytes_of c)) (length before)) refl
  where
    go : (r l : Bool) → leb (length (file_bytes_of c)) (length before) ≡ l →
        P (cond r (cond l (wrote (length (file_bytes_of c))) (refused_with 11)) (refused_with 5)) (cond r (cond l (file_bytes_of c ++ drop (length (file_bytes_of c)) before) before) before)
    go false l e = p5
    go true false e = p11
    go true true e = p (leb-true (length (file_bytes_of c)) (length before) e)

module _ (c : FileCommand) (before : List ℕ) where
  abbrev answer : WriteAnswer
  answer = write_file_of c (length before)

  abbrev after : List ℕ
  after = file_bytes_after c before

  -- the bytes behind those reported stay, and so does their number
  pub later_kept : drop answer.bytes after ≡ drop answer.bytes before
  later_kept =
      by_cases c before (λ a bytes. drop a.bytes bytes ≡ drop a.bytes before) refl refl
      (λ h. drop_at (file_bytes_of c) (drop (length (file_bytes_of c)) before) (length (file_bytes_of c)) refl)

  pub length_kept : length after ≡ length before
  length_kept =
      by_cases c before (λ a bytes. length bytes ≡ length before) refl refl
      (λ h. rw (length-append (file_bytes_of c) (drop (length (file_bytes_of c)) before), length-drop (length (file_bytes_of c)) before) (omega arith))

  -- those reported are the command's
  pub reported : answer.number ≡ 0 → (answer.bytes ≡ length (file_bytes_of c)) × (take answer.bytes after ≡ file_bytes_of c)
  reported =
      by_cases c before (λ a bytes. a.number ≡ 0 → (a.bytes ≡ length (file_bytes_of c)) × (take a.bytes bytes ≡ file_bytes_of c)) (λ z. absurd (numbered z)) (λ z. absurd (numbered z))
      (λ h z. (refl, take_at (file_bytes_of c) (drop (length (file_bytes_of c)) before) (length (file_bytes_of c)) refl))

  -- a refused write reports 0 and changes nothing
  pub refused_kept : (answer.number ≡ 0 → ⊥) → (answer.bytes ≡ 0) × (after ≡ before)
  refused_kept =
      by_cases c before (λ a bytes. (a.number ≡ 0 → ⊥) → (a.bytes ≡ 0) × (bytes ≡ before)) (λ n. (refl, refl)) (λ n. (refl, refl))
      (λ h n. absurd (n refl))

  -- no offset is stated
  pub no_offset : answer.offset ≡ 0
  no_offset = by_cases c before (λ a bytes. a.offset ≡ 0) refl refl (λ h. refl)

-- ---- the same where the values given may make no command

module _ (before : List ℕ) where
  pub given_later_kept : (g : Option FileCommand) → drop (write_given g (length before)).bytes (bytes_given g before) ≡ drop (write_given g (length before)).bytes before
  given_later_kept none = refl
  given_later_kept (some c) = later_kept c before

  pub given_length_kept : (g : Option FileCommand) → length (bytes_given g before) ≡ length before
  given_length_kept none = refl
  given_length_kept (some c) = length_kept c before

  pub given_refused_kept : (g : Option FileCommand) → ((write_given g (length before)).number ≡ 0 → ⊥) → ((write_given g (length before)).bytes ≡ 0) × (bytes_given g before ≡ before)
  given_refused_kept none = λ n. (refl, refl)
  given_refused_kept (some c) = refused_kept c before

  pub given_no_offset : (g : Option FileCommand) → (write_given g (length before)).offset ≡ 0
  given_no_offset none = refl
  given_no_offset (some c) = no_offset c before
