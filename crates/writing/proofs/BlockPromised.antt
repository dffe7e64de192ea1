-- What the write of a block promises follows in each of its cases: the count is out of range, the words are too few, or they make a
-- block, of which what Promised.antt says holds. Assumes nothing.
use mathlib.Core.Bool.{Bool, true, false, ◌&&◌}
use mathlib.Core.List.{List, [], ◌∷◌}
use mathlib.Core.Path.{◌≡◌, refl, sym, ap, ◌∙◌}
use Prim.Native.Nat.{ℕ, ◌+◌, ◌*◌, ◌%◌, ◌≤◌, ◌<◌}
use native.Mathlib.Nat.{div-one, mod-eq_of_lt}
use native.Mathlib.Omega.{arith}
use lib.Dec.{leb}
use lib.ListN.{length, set}
use borrow.Author.Tests.{le-leb, lt-leb, leb-true, leb-false}
use Rattle.slices.specs.Written.{Put}
use Rattle.slices.proofs.Writing.{written_byte, behind}
use Rattle.blocks.specs.Sets.{count_in_range, all_in_range}
use Rattle.blocks.specs.FileCommands.{file_command_at}
use Rattle.blocks.proofs.Sets.{count_range}
use Rattle.numbers.specs.BigEndian.{big_endian}
use Rattle.std.specs.Prelude.{Result, Ok, Err}
use Rattle.writing.specs.declared.WriteError.{WriteError}
use Rattle.writing.specs.declared.WriteError.TheVariants.{OutOfRange, TooShort}
use Rattle.writing.specs.Bytes.{set_bytes, file_bytes_of}
use Rattle.writing.specs.Answers.{answer_of, file_in_range, WritesFileCommand}
use Rattle.writing.specs.BlockGiven.{storeys_of_words, block_of, block_given, write_block_of, block_bytes_after}
use Rattle.writing.proofs.SetBytes.{sets_width}
use Rattle.writing.proofs.Answered.{numbered}
use Rattle.writing.proofs.GivenSets.{given_length}
use Rattle.writing.proofs.Promised as command

-- a number below 256 in one byte
one_byte : (v : ℕ) → v < 256 → big_endian 1 v ≡ v ∷ []
unfolding big_endian
one_byte v h = ap (λ (n : ℕ). n % 256 ∷ []) (div-one v) ∙ ap (λ (n : ℕ). n ∷ []) (mod-eq_of_lt h)

module _ (count : ℕ) (words before : List ℕ) where
  -- the promise of `write_block`
  abbrev pub PromisesBlock : Result ℕ WriteError → List ℕ → Type 0
  PromisesBlock r after =
      (answer_of r ≡ write_block_of count words (length before)) × ((after ≡ block_bytes_after count words before) × ((answer_of r).number ≡ 0 → file_command_at after 0 ≡ block_of count words))

  -- too few words make no block
  pub few : length words < 6 * count → PromisesBlock (Err OutOfRange) before
  unfolding block_given
  few h = rw (lt-leb (6 * count) (length words) h) (refl, (refl, λ z. absurd (numbered z)))

  -- enough make one
  enough : {r : Result ℕ WriteError} {after : List ℕ} → 6 * count ≤ length words → WritesFileCommand (block_of count words) before r after → PromisesBlock r after
  unfolding block_given
  enough h p = rw (le-leb (6 * count) (length words) h) (p.answers, (p.bytes, p.back))

  range_is : file_in_range (block_of count words) ≡ (count_in_range count && all_in_range (storeys_of_words count words 0))
  range_is = ap (λ (n : ℕ). count_in_range n && all_in_range (storeys_of_words count words 0)) (given_length count words 0)

  -- 5 for the count, however many words there are
  pub bad_count : {t : Bool} → t ≡ count_in_range count → t ≡ false → PromisesBlock (Err OutOfRange) before
  bad_count {t} e n = by (leb (6 * count) (length words)) refl
    where
      outside : file_in_range (block_of count words) ≡ false
      outside = range_is ∙ rw (← e, n)

      by : (l : Bool) → leb (6 * count) (length words) ≡ l → PromisesBlock (Err OutOfRange) before
      by true q = enough (leb-true (6 * count) (length words) q) (command.outside (block_of count words) before (sym outside) refl)
      by false q = few (leb-false (6 * count) (length words) q)

  module _ {t : Bool} (e : t ≡ count_in_range count) (n : t ≡ true) (room : 6 * count ≤ length words) where
    good : count_in_range count ≡ true
    good = sym e ∙ n

    sets_range : {u : Bool} → u ≡ all_in_range (storeys_of_words count words 0) → u ≡ file_in_range (block_of count words)
    sets_range h = h ∙ sym (range_is ∙ rw good)

    width_is : length (file_bytes_of (block_of count words)) ≡ 2 + 24 * count
    width_is = omega (arith, sets_width (storeys_of_words count words 0), given_length count words 0)

    -- 5 for a set
    pub bad_set : {u : Bool} → u ≡ all_in_range (storeys_of_words count words 0) → u ≡ false → PromisesBlock (Err OutOfRange) before
    bad_set h m = enough room (command.outside (block_of count words) before (sets_range h) m)

    module _ {u : Bool} (h : u ≡ all_in_range (storeys_of_words count words 0)) (m : u ≡ true) where
      -- 11
      pub short : length before < 2 + 24 * count → PromisesBlock (Err TooShort) before
      short l = enough room (command.short (block_of count words) before (sets_range h) m (omega (arith, width_is)))

      -- written
      pub done : {second after : List ℕ} → 2 + 24 * count ≤ length before → Put (set before 0 11) 1 (big_endian 1 count) second → Put second 2 (set_bytes (storeys_of_words count words 0)) after → PromisesBlock (Ok (2 + 24 * count)) after
      done {second} {after} l q s =
          let sets = storeys_of_words count words 0 in
          let small : count < 256 = omega (arith, (count_range count good).1) in
          let head : Put before 0 (11 ∷ []) (set before 0 11) = record { bytes = written_byte before 0 11 (omega arith) } in
          let number : Put (set before 0 11) 1 (length sets ∷ []) second = rw (given_length count words 0, ← one_byte count small) q in
          let whole : Put before 0 (file_bytes_of (block_of count words)) after = behind (behind head number refl (omega arith)) s refl (omega arith) in
          rw (← width_is) (enough room (command.done (block_of count words) before (sets_range h) m tt (omega (arith, width_is)) whole))
