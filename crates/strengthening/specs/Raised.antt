-- Two jobs that are alike but for one strength, which is greater in the second, and what is promised of the words that `run` writes for
-- both. 02, No. 11: "all rows are alike but that one. There the demand is equal, and a passed shear stays passed."
use Rattle.std.specs.Prelude.{◌≡◌, ◌⊎◌, List, ◌++◌, ℕ, ◌+◌, ◌≤◌, ◌<◌, ℤ, pos, ◌+ℤ◌, length, get_or, take, drop}
use Rattle.layout.specs.Layouts.{forms_of}
use Rattle.layout.specs.Operands.{offset_of, operand, byte_at}
use Rattle.numbers.specs.BigEndian.{big_endian}
use Rattle.claims.specs.Claims.{BitClear}
use Rattle.job.specs.Answers.{size_of}
use Rattle.capacity.specs.Calls.{run_of, rows_after}
use Rattle.capacity.specs.Buildings.{words_read}

-- ---- a strength

-- which operand it is, counted from 0, of a command with this byte whose operands begin at an offset; which word of the command's row; and
-- the bit of its check in the verdict
pub record Strength : Type 0 where
  pub byte : ℕ
  pub from : ℕ
  pub index : ℕ
  pub word : ℕ
  pub bit : ℕ

-- the offset of its first byte, and the number that stands there; it has four bytes
abbrev pub begins : Strength → ℕ
begins s = s.from + offset_of (forms_of s.byte) s.index

abbrev pub value : List ℕ → Strength → ℕ
value job s = operand s.byte job s.from s.index

-- ---- the two jobs

-- they have as many bytes, and are alike in each but the four of the strength, which is greater in the second
pub record Raised (first second : List ℕ) (s : Strength) : Type 0 where
  pub as_long : length second ≡ length first
  pub alike : (k : ℕ) → (k < begins s) ⊎ (begins s + 4 ≤ k) → byte_at second k ≡ byte_at first k
  pub greater : value first s < value second s

-- the first job with another number written over those four, the most significant byte first
abbrev pub overwritten : List ℕ → Strength → ℕ → List ℕ
overwritten job s n = take (begins s) job ++ (big_endian 4 n ++ drop (begins s + 4) job)

-- ---- their rows, each of eight words

abbrev pub word_of : List ℤ → ℕ → ℤ
word_of row w = get_or row w (pos 0)

-- between the first row and the second nothing differs but the word that is the strength, and the bit of its check
pub record Stronger (first second : List ℤ) (word bit : ℕ) : Type 0 where
  -- the offset, the byte, the demand, and the words that tell where q governs (No. 5): every word but the strength and the verdict
  pub equal : (w : ℕ) → w < 7 → ¬ (w ≡ word) → word_of second w ≡ word_of first w
  -- a check that passed stays passed
  pub passed : BitClear bit (word_of first 7) → BitClear bit (word_of second 7)
  -- the verdict stays, or the bit goes from set to clear and no other moves
  pub verdict : (word_of second 7 ≡ word_of first 7) ⊎ ((¬ BitClear bit (word_of first 7)) × BitClear bit (word_of second 7) × (word_of first 7 ≡ word_of second 7 +ℤ pos bit))

-- ---- their runs, each on a slice of its own

-- as many rows, and of the numbers of the runs (No. 8) none has grown
pub record Totals (first second : List ℕ) (lent other : List ℤ) : Type 0 where
  pub as_many : size_of second ≡ size_of first
  pub failed : (run_of second (length other)).failed ≤ (run_of first (length lent)).failed
  pub checks : (run_of second (length other)).checks ≤ (run_of first (length lent)).checks

-- of so many rows all are alike in all eight words but row n, which tells of the strength
pub record OneStronger (first second : List ℕ) (lent other : List ℤ) (rows n : ℕ) (s : Strength) : Type 0 where
  pub others : (k : ℕ) → k < rows → ¬ (k ≡ n) → words_read (rows_after second other) k ≡ words_read (rows_after first lent) k
  pub row : Stronger (words_read (rows_after first lent) n) (words_read (rows_after second other) n) s.word s.bit
  pub strength_first : word_of (words_read (rows_after first lent) n) s.word ≡ pos (value first s)
  pub strength_second : word_of (words_read (rows_after second other) n) s.word ≡ pos (value second s)
  pub totals : Totals first second lent other
