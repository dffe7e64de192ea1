-- Commands other than the end, blocks among them, written one after the other into a slice with room for them, and then the end, are
-- read back as those commands with their offsets. 02, No. 2 and No. 7. Assumes nothing.
use mathlib.Core.Bool.{true}
use mathlib.Core.List.{List, [], ◌∷◌, ◌++◌, append_assoc, append-nil}
use mathlib.Core.Path.{◌≡◌, refl}
use Prim.Native.Nat.{ℕ, zero, suc, ◌+◌, ◌≤◌, ◌<◌}
use native.Mathlib.Nat.{not-suc-le-zero}
use native.Mathlib.Omega.{arith}
use lib.ListN.{length, drop, length-append, length-drop}
use lib.Seq.{take_at, drop_at, drop-drop}
use borrow.Author.Tests.{ne_eqb}
use Rattle.layout.specs.Layouts.{forms_of, forms_in}
use Rattle.format.specs.declared.Command.TheVariants.{Finish as finish}
use Rattle.blocks.specs.FileCommands.{FileCommand, one, file_byte_of, width_of}
use Rattle.writing.specs.Bytes.{operand_bytes, bytes_of, file_bytes_of}
use Rattle.writing.specs.Answers.{file_in_range}
use Rattle.writing.specs.Files.{AllWritable, all_bytes, written_in_turn, with_offsets, read_from}
use Rattle.format.proofs.RangeTest.{end_in_range}
use Rattle.writing.proofs.Answered.{file_bytes_width, answer_written, slice_written}
use Rattle.writing.proofs.BlockReadBack.{byte_there, width_there, read_back}

-- ---- written

-- each of these commands is in range
abbrev pub AllInRange : List FileCommand → Type 0
AllInRange [] = Unit {0}
AllInRange (c ∷ cs) = (file_in_range c ≡ true) × AllInRange cs

pub written_bytes : (cs : List FileCommand) (before : List ℕ) → AllInRange cs → length (all_bytes cs) ≤ length before → written_in_turn cs before ≡ all_bytes cs ++ drop (length (all_bytes cs)) before
unfolding all_bytes written_in_turn
written_bytes [] before r h = refl
written_bytes (c ∷ cs) before r h =
    let w = length (file_bytes_of c) in
    let rest = drop w before in
    let all : length (file_bytes_of c ++ all_bytes cs) ≡ w + length (all_bytes cs) = length-append (file_bytes_of c) (all_bytes cs) in
    let here : w ≤ length before = omega arith in
    let room : length (all_bytes cs) ≤ length rest = rw (length-drop w before) (omega arith) in
    rw (
      answer_written c r.0 (length before) here,
      slice_written c r.0 before here,
      take_at (file_bytes_of c) rest w refl,
      drop_at (file_bytes_of c) rest w refl,
      written_bytes cs rest r.1 room,
      drop-drop (length (all_bytes cs)) w before,
      all,
      append_assoc (file_bytes_of c) (all_bytes cs) (drop (w + length (all_bytes cs)) before),
    )

-- ---- read

pub end_byte : bytes_of finish ≡ 0 ∷ []
unfolding bytes_of operand_bytes forms_of forms_in
end_byte = refl

pub commands_read : (front : List ℕ) (cs : List FileCommand) (rest : List ℕ) → AllWritable cs → (n : ℕ) → length cs < n → read_from n (front ++ (all_bytes cs ++ (bytes_of finish ++ rest))) (length front) ≡ with_offsets (length front) cs
unfolding all_bytes read_from
commands_read front cs rest w zero h = absurd (not-suc-le-zero h)
commands_read front [] rest w (suc n) h = rw (byte_there front rest (one finish))
commands_read front (c ∷ cs) rest w (suc n) h =
    let later = all_bytes cs ++ (bytes_of finish ++ rest) in
    let there : length (front ++ file_bytes_of c) ≡ length front + length (file_bytes_of c) = length-append front (file_bytes_of c) in
    let next : length front + width_of c ≡ length (front ++ file_bytes_of c) = omega (arith, file_bytes_width c) in
    rw (
      append_assoc (file_bytes_of c) (all_bytes cs) (bytes_of finish ++ rest),
      byte_there front later c,
      ne_eqb (file_byte_of c) 0 w.0.other,
      read_back front later c w.0.types w.0.range,
      width_there front later c,
      next,
      ← append_assoc front (file_bytes_of c) later,
      commands_read (front ++ file_bytes_of c) cs rest w.1 n (omega arith),
      there,
    )

-- ---- both

pub all_in_range_lem : (cs : List FileCommand) → AllWritable cs → AllInRange (cs ++ one finish ∷ [])
all_in_range_lem [] w = (end_in_range, tt)
all_in_range_lem (c ∷ cs) w = (w.0.range, all_in_range_lem cs w.1)

pub all_and_end : (cs : List FileCommand) → all_bytes (cs ++ one finish ∷ []) ≡ all_bytes cs ++ bytes_of finish
unfolding all_bytes
all_and_end [] = append-nil (bytes_of finish)
all_and_end (c ∷ cs) = rw (all_and_end cs, append_assoc (file_bytes_of c) (all_bytes cs) (bytes_of finish))

-- what a customer writes is what is read, at any later bytes of the slice
pub file_read_back : (cs : List FileCommand) (before : List ℕ) → AllWritable cs → length (all_bytes (cs ++ one finish ∷ [])) ≤ length before → (n : ℕ) → length cs < n → read_from n (written_in_turn (cs ++ one finish ∷ []) before) 0 ≡ with_offsets 0 cs
file_read_back cs before w room n h =
    rw (
      written_bytes (cs ++ one finish ∷ []) before (all_in_range_lem cs w) room,
      all_and_end cs,
      append_assoc (all_bytes cs) (bytes_of finish) (drop (length (all_bytes cs ++ bytes_of finish)) before),
    )
    (commands_read [] cs (drop (length (all_bytes cs ++ bytes_of finish)) before) w n h)
