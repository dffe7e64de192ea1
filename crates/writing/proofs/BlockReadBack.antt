-- Blocks, and so the commands of a file, in both directions: one that is written is read back with the same values, whatever stands
-- before and behind it; one that is read is written in the bytes that stand there. 02, No. 2 and No. 7. Assumes nothing.
use mathlib.Core.Bool.{Bool, true, false, cond}
use mathlib.Core.List.{List, [], ◌∷◌, ◌++◌, append_assoc}
use mathlib.Core.Path.{◌≡◌, refl, ap, ◌∙◌}
use Prim.Native.Nat.{ℕ, zero, suc, ◌+◌, ◌*◌, ◌≤◌}
use native.Mathlib.Nat.{add-zero}
use native.Mathlib.Numerals.{add-one}
use native.Mathlib.Omega.{arith}
use lib.ListN.{length, take, drop, length-append, length-drop}
use lib.Seq.{drop-append-add, get_or-append-add, drop-cons, drop-drop, take-add}
use borrow.Author.Tests.{eqb-true}
use Rattle.layout.specs.Layouts.{known, forms_of, width_of_all, operands_width}
use Rattle.layout.specs.Operands.{byte_at}
use Rattle.layout.proofs.Numbers.{Bytes, bytes_drop}
use Rattle.layout.proofs.OperandsRead.{at as value_at}
use Rattle.layout.proofs.Widths.{widths}
use Rattle.walls.specs.declared.Storey.{Storey}
use Rattle.format.specs.declared.Command.TheVariants.{Storey as storey}
use Rattle.format.specs.Commands.{operands_of, storey_of, in_range}
use Rattle.format.specs.Reading.{command_at}
use Rattle.format.proofs.RangeTest.{and_second}
use Rattle.format.proofs.ReadTypes as types
use Rattle.blocks.specs.Sets.{is_block, count_at, count_in_range, storey_at, storeys_at, sets_of, all_in_range}
use Rattle.blocks.specs.FileCommands.{FileCommand, one, block, file_byte_of, file_command_at, width_of, width_at}
use Rattle.blocks.proofs.Sets.{storeys_length, storey_scanned, each_in_range}
use Rattle.blocks.proofs.FileCommands.{no_block, KnownAt}
use Rattle.writing.specs.Bytes.{set_bytes, file_bytes_of}
use Rattle.writing.specs.Answers.{file_in_range}
use Rattle.writing.specs.Files.{OfFileTypes}
use Rattle.writing.proofs.SetBytes.{one_set, set_width}
use Rattle.writing.proofs.OperandBytes.{operands_back, operands_again}
use Rattle.writing.proofs.ReadBack as command

-- ---- sets written, then read

-- a storey is that of its operands
storey_of_lem : (s t : Storey) → operands_of (storey s) ≡ operands_of (storey t) → s ≡ t
storey_of_lem s t e = ap (λ (vs : List ℕ). storey_of (value_at vs)) e

pub set_back : (front : List ℕ) (s : Storey) (rest : List ℕ) → in_range (storey s) ≡ true → storey_at (front ++ (one_set s ++ rest)) (length front) ≡ s
set_back front s rest r =
    let file = front ++ (one_set s ++ rest) in
    let there : drop (length front) file ≡ one_set s ++ rest = rw (← add-zero (length front)) (drop-append-add front (one_set s ++ rest) 0) in
    storey_of_lem (storey_at file (length front)) s
    ((storey_scanned file (length front)).operands ∙ rw there (operands_back (forms_of 7) (operands_of (storey s)) rest (command.fits (storey s) tt r)))

pub sets_back : (front : List ℕ) (ss : List Storey) (rest : List ℕ) → all_in_range ss ≡ true → storeys_at (length ss) (front ++ (set_bytes ss ++ rest)) (length front) ≡ ss
unfolding storeys_at set_bytes
sets_back front [] rest r = refl
sets_back front (s ∷ ss) rest r =
    let e = each_in_range s ss r in
    let next : length front + 24 ≡ length (front ++ one_set s) = omega (arith, length-append front (one_set s), set_width s) in
    rw (
      append_assoc (one_set s) (set_bytes ss) rest,
      set_back front s (set_bytes ss ++ rest) e.0,
      next,
      ← append_assoc front (one_set s) (set_bytes ss ++ rest),
      sets_back (front ++ one_set s) ss rest e.1,
    )

-- ---- a command of a file written, then read

module _ (front : List ℕ) (rest : List ℕ) where
  -- a file with the command behind what stands in front of it
  abbrev file : FileCommand → List ℕ
  file c = front ++ (file_bytes_of c ++ rest)

  pub byte_there : (c : FileCommand) → byte_at (file c) (length front) ≡ file_byte_of c
  byte_there (one c) = command.byte_there front c rest
  byte_there (block ss) = rw (← add-zero (length front)) (get_or-append-add front (file_bytes_of (block ss) ++ rest) 0 0)

  count_there : (ss : List Storey) → count_at (file (block ss)) (length front) ≡ length ss
  count_there ss = get_or-append-add front (file_bytes_of (block ss) ++ rest) 1 0

  pub width_there : (c : FileCommand) → width_at (file c) (length front) ≡ width_of c
  unfolding width_at
  width_there (one c) = rw (byte_there (one c), no_block c)
  width_there (block ss) = rw (byte_there (block ss), count_there ss)

  sets_there : (ss : List Storey) → all_in_range ss ≡ true → storeys_at (length ss) (file (block ss)) (length front + 2) ≡ ss
  sets_there ss r =
      let before = front ++ (11 ∷ length ss ∷ []) in
      let place : length front + 2 ≡ length before = omega (arith, length-append front (11 ∷ length ss ∷ [])) in
      rw (place, ← append_assoc front (11 ∷ length ss ∷ []) (set_bytes ss ++ rest)) (sets_back before ss rest r)

  -- a written command read back gives the same values
  pub read_back : (c : FileCommand) → OfFileTypes c → file_in_range c ≡ true → file_command_at (file c) (length front) ≡ c
  unfolding file_command_at
  read_back (one c) t r = rw (byte_there (one c), no_block c) (ap one (command.read_back front c rest t r))
  read_back (block ss) t r =
      rw (byte_there (block ss), count_there ss, sets_there ss (and_second (count_in_range (length ss)) (all_in_range ss) r))

-- ---- read, then written

module _ (job : List ℕ) (b : Bytes job) where
  -- and values of the code's types
  pub types_read : (start : ℕ) → OfFileTypes (file_command_at job start)
  unfolding file_command_at
  types_read start = by (is_block (byte_at job start))
    where
      by : (t : Bool) → OfFileTypes (cond t (block (sets_of job start)) (one (command_at job start)))
      by true = tt
      by false = types.types_read job start b

  set_again : (at : ℕ) → at + 24 ≤ length job → one_set (storey_at job at) ≡ take 24 (drop at job)
  unfolding operands_width
  set_again at h =
      let w : width_of_all (forms_of 7) ≡ 24 = widths.storey in
      let room : width_of_all (forms_of 7) ≤ length (drop at job) = rw (length-drop at job) (omega arith) in
      rw (storey_scanned job at).operands (operands_again (forms_of 7) (drop at job) room (bytes_drop at job b)) ∙ ap (λ (n : ℕ). take n (drop at job)) w

  pub sets_again : (n at : ℕ) → at + 24 * n ≤ length job → set_bytes (storeys_at n job at) ≡ take (24 * n) (drop at job)
  unfolding storeys_at set_bytes
  sets_again zero at h = refl
  sets_again (suc n) at h =
      let more : 24 * suc n ≡ 24 + 24 * n = omega arith in
      rw (set_again at (omega arith), sets_again n (at + 24) (omega arith), more, take-add 24 (24 * n) (drop at job), drop-drop 24 at job)

  module _ (start : ℕ) (whole : start + width_at job start ≤ length job) where
    one_again : is_block (byte_at job start) ≡ false → known (byte_at job start) ≡ true → file_bytes_of (file_command_at job start) ≡ take (width_at job start) (drop start job)
    unfolding file_command_at width_at
    one_again e k =
        let w : width_at job start ≡ 1 + operands_width (byte_at job start) = rw e in
        let inside : start + 1 + operands_width (byte_at job start) ≤ length job = omega arith in
        rw e (command.written_again job start b k inside)

    block_again : is_block (byte_at job start) ≡ true → file_bytes_of (file_command_at job start) ≡ take (width_at job start) (drop start job)
    unfolding file_command_at width_at
    block_again e =
        let n = count_at job start in
        let w : width_at job start ≡ 2 + 24 * n = rw e in
        let first : drop start job ≡ byte_at job start ∷ drop (start + 1) job = rw add-one (drop-cons job start 0 (omega arith)) in
        let behind : start + 2 ≡ suc (start + 1) = omega arith in
        let second : drop (start + 1) job ≡ n ∷ drop (start + 2) job = rw behind (drop-cons job (start + 1) 0 (omega arith)) in
        let more : 2 + 24 * n ≡ suc (suc (24 * n)) = omega arith in
        rw e (rw (storeys_length n job (start + 2), sets_again n (start + 2) (omega arith), first, second, eqb-true (byte_at job start) 11 e, more))

    -- a command of a file that is read is written in the bytes that stand there
    pub written_again : KnownAt job start → file_bytes_of (file_command_at job start) ≡ take (width_at job start) (drop start job)
    written_again k = by (is_block (byte_at job start)) refl
      where
        by : (t : Bool) → is_block (byte_at job start) ≡ t → file_bytes_of (file_command_at job start) ≡ take (width_at job start) (drop start job)
        by true e = block_again e
        by false e = one_again e (k e)
