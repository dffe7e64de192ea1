-- A block given as words, and what its write answers. 02, No. 7: a block has "a count (u8, 1 to 64) and then that many sets of storey
-- operands". The words are six a set, in the file's order. A count out of range, fewer words than six a set and a set out of range are
-- refusal 5; further words are not looked at.
use Rattle.std.specs.Prelude.{cond, List, [], ◌∷◌, ℕ, zero, suc, ◌+◌, ◌*◌, leb, length, get_or}
use Rattle.std.proofs.Math.Option.{Option, none, some}
use Rattle.walls.specs.declared.Storey.{Storey}
use Rattle.format.specs.Commands.{storey_of}
use Rattle.blocks.specs.FileCommands.{FileCommand, block}
use Rattle.writing.specs.Answers.{WriteAnswer, write_given, bytes_given}

-- the storey of the six words from a position on, and so many of them, one after the other
unfoldable pub storey_of_words : List ℕ → ℕ → Storey
storey_of_words words at = storey_of (λ i. get_or words (at + i) 0)

unfoldable pub storeys_of_words : ℕ → List ℕ → ℕ → List Storey
unfolding storey_of_words
storeys_of_words zero words at = []
storeys_of_words (suc n) words at = storey_of_words words at ∷ storeys_of_words n words (at + 6)

-- the block of so many sets, where the words suffice for them
abbrev pub block_of : ℕ → List ℕ → FileCommand
block_of count words = block (storeys_of_words count words 0)

unfoldable pub block_given : ℕ → List ℕ → Option FileCommand
block_given count words = cond (leb (6 * count) (length words)) (some (block_of count words)) none

-- what its write answers on a slice of so many bytes, and what the slice holds then
abbrev pub write_block_of : ℕ → List ℕ → ℕ → WriteAnswer
write_block_of count words room = write_given (block_given count words) room

abbrev pub block_bytes_after : ℕ → List ℕ → List ℕ → List ℕ
block_bytes_after count words before = bytes_given (block_given count words) before
