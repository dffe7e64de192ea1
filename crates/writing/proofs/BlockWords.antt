-- Every block can be given as words, six a set, and words behind them are not looked at. 02, No. 7. Assumes nothing.
use mathlib.Core.List.{List, [], ◌∷◌, ◌++◌, append_assoc}
use mathlib.Core.Option.{Option, some}
use mathlib.Core.Path.{◌≡◌, refl, ap}
use Prim.Native.Nat.{ℕ, zero, suc, ◌+◌, ◌*◌, ◌≤◌, ◌<◌}
use native.Mathlib.Omega.{arith}
use lib.ListN.{length, get_or, length-append, get_or-append}
use lib.Seq.{get_or-append-add}
use borrow.Author.Tests.{le-leb}
use Rattle.walls.specs.declared.Storey.{Storey}
use Rattle.format.specs.declared.Command.TheVariants.{Storey as storey}
use Rattle.format.specs.Commands.{operands_of}
use Rattle.blocks.specs.FileCommands.{FileCommand, block}
use Rattle.writing.specs.Answers.{write_file_of, file_bytes_after, write_given, bytes_given}
use Rattle.writing.specs.BlockGiven.{storey_of_words, storeys_of_words, block_given, write_block_of, block_bytes_after}

-- ---- further words

word_kept : (words more : List ℕ) (at i : ℕ) → at + 6 ≤ length words → i < 6 → get_or (words ++ more) (at + i) 0 ≡ get_or words (at + i) 0
word_kept words more at i h l = get_or-append words more 0 (at + i) (omega arith)

storey_kept : (words more : List ℕ) (at : ℕ) → at + 6 ≤ length words → storey_of_words (words ++ more) at ≡ storey_of_words words at
unfolding storey_of_words
storey_kept words more at h =
    let same : (i : ℕ) → i < 6 → get_or (words ++ more) (at + i) 0 ≡ get_or words (at + i) 0 = λ i l. word_kept words more at i h l in
    rw (same 0 (omega arith), same 1 (omega arith), same 2 (omega arith), same 3 (omega arith), same 4 (omega arith), same 5 (omega arith))

pub storeys_kept : (n : ℕ) (words more : List ℕ) (at : ℕ) → at + 6 * n ≤ length words → storeys_of_words n (words ++ more) at ≡ storeys_of_words n words at
unfolding storeys_of_words
storeys_kept zero words more at h = refl
storeys_kept (suc n) words more at h = rw (storey_kept words more at (omega arith), storeys_kept n words more (at + 6) (omega arith))

-- words behind those of the sets change nothing
pub further_words : (count : ℕ) (words more : List ℕ) → 6 * count ≤ length words → block_given count (words ++ more) ≡ block_given count words
unfolding block_given
further_words count words more h =
    let both : 6 * count ≤ length (words ++ more) = omega (arith, length-append words more) in
    rw (le-leb (6 * count) (length (words ++ more)) both, le-leb (6 * count) (length words) h, storeys_kept count words more 0 (omega arith))

-- ---- the words of a block

abbrev pub words_of : List Storey → List ℕ
words_of [] = []
words_of (s ∷ ss) = operands_of (storey s) ++ words_of ss

words_length : (ss : List Storey) → length (words_of ss) ≡ 6 * length ss
words_length [] = refl
words_length (s ∷ ss) = omega (arith, words_length ss)

storey_back : (front : List ℕ) (s : Storey) (rest : List ℕ) → storey_of_words (front ++ (operands_of (storey s) ++ rest)) (length front) ≡ s
unfolding storey_of_words
storey_back front s rest =
    let vs = operands_of (storey s) ++ rest in
    let there : (i : ℕ) → get_or (front ++ vs) (length front + i) 0 ≡ get_or vs i 0 = λ i. get_or-append-add front vs i 0 in
    rw (there 0, there 1, there 2, there 3, there 4, there 5)

storeys_back : (front : List ℕ) (ss : List Storey) → storeys_of_words (length ss) (front ++ words_of ss) (length front) ≡ ss
unfolding storeys_of_words
storeys_back front [] = refl
storeys_back front (s ∷ ss) =
    let next : length front + 6 ≡ length (front ++ operands_of (storey s)) = omega (arith, length-append front (operands_of (storey s))) in
    rw (storey_back front s (words_of ss), next, ← append_assoc front (operands_of (storey s)) (words_of ss), storeys_back (front ++ operands_of (storey s)) ss)

-- given as its words, it is the block
pub words_given : (ss : List Storey) → block_given (length ss) (words_of ss) ≡ some (block ss)
unfolding block_given
words_given ss = rw (le-leb (6 * length ss) (length (words_of ss)) (omega (arith, words_length ss)), storeys_back [] ss)

-- so the call writes every block
pub words_answer : (ss : List Storey) (room : ℕ) → write_block_of (length ss) (words_of ss) room ≡ write_file_of (block ss) room
words_answer ss room = ap (λ (g : Option FileCommand). write_given g room) (words_given ss)

pub words_slice : (ss : List Storey) (before : List ℕ) → block_bytes_after (length ss) (words_of ss) before ≡ file_bytes_after (block ss) before
words_slice ss before = ap (λ (g : Option FileCommand). bytes_given g before) (words_given ss)
