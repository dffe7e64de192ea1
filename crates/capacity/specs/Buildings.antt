-- Several buildings in a file. 02, No. 10: "In an accepted file each building gives the rows it would give in a file of its own, offsets
-- moved by that of its settings." For every accepted file, over its bytes and the words that `run` writes (proofs/Buildings.antt,
-- `buildings_alone`). A block's rows have the offsets of its sets, and move with them.
use Rattle.std.specs.Prelude.{◌≡◌, cond, List, [], ◌∷◌, ◌++◌, ℕ, ◌+◌, ◌-◌, ◌*◌, ◌≤◌, ◌<◌, ℤ, pos, ◌+ℤ◌, length, take, drop, slice_range}
use Rattle.blocks.specs.FileCommands.{file_byte_of}
use Rattle.job.specs.Faults.{is_building}
use Rattle.job.specs.Answers.{rows_answer, size_of}
use Rattle.job.specs.Placed.{Entry, accepted, listed}
use Rattle.capacity.specs.Calls.{rows_after}

-- ---- the buildings of a file, and the file of each

-- from the first byte of its settings to before the next command 0D, or to before the end
pub record Building : Type 0 where
  pub from : ℕ
  pub to : ℕ

-- the offsets of the commands 0D; a byte 0D among operands is none
abbrev pub begun_at : List Entry → List ℕ
begun_at [] = []
begun_at (e ∷ es) = cond (is_building (file_byte_of e.given)) (e.offset ∷ begun_at es) (begun_at es)

-- cut at these: one building begins at an offset and goes up to the first of them, each other one begins behind one; the last goes up to
-- the end
abbrev pub cut_at : ℕ → List ℕ → ℕ → List Building
cut_at from [] end = record { from = from; to = end } ∷ []
cut_at from (at ∷ ats) end = record { from = from; to = at } ∷ cut_at (at + 1) ats end

-- of a file with these commands; its end is its last byte
abbrev pub buildings_of : List ℕ → List Entry → List Building
buildings_of file es = cut_at 0 (begun_at es) (length file - 1)

-- a building's own file: its bytes, and an end
abbrev pub own_file : List ℕ → Building → List ℕ
own_file file b = slice_range file b.from b.to ++ 0 ∷ []

-- ---- their rows

-- the eight words of row n of a slice
abbrev pub words_read : List ℤ → ℕ → List ℤ
words_read words n = take 8 (drop (8 * n) words)

-- a row whose offset, word 0, is so many bytes further
abbrev pub moved : ℕ → List ℤ → List ℤ
moved bytes [] = []
moved bytes (offset ∷ words) = (offset +ℤ pos bytes) ∷ words

-- a building behind n rows of the file, of which run was lent `lent`
pub record Alone (file : List ℕ) (lent : List ℤ) (n : ℕ) (b : Building) : Type 0 where
  -- its own file is accepted, with so many rows
  pub rows : ℕ
  pub is_accepted : size_of (own_file file b) ≡ rows_answer rows
  -- row i of its own file, moved by the offset of its settings, is row n + i of the file
  pub rows_are : (alone : List ℤ) → 8 * rows ≤ length alone → (i : ℕ) → i < rows →
      words_read (rows_after file lent) (n + i) ≡ moved b.from (words_read (rows_after (own_file file b) alone) i)

-- each of these buildings, behind n rows, and the file has no row behind theirs
abbrev pub EachAlone : List ℕ → List ℤ → ℕ → List Building → Type 0
EachAlone file lent n [] = size_of file ≡ rows_answer n
EachAlone file lent n (b ∷ bs) = (a : Alone file lent n b) × EachAlone file lent (n + a.rows) bs

-- every accepted file has 16 buildings at most, and its rows are theirs, in order
pub record BuildingsAlone (file : List ℕ) (es : List Entry) : Type 0 where
  pub few : length (buildings_of file es) ≤ 16
  pub each : (lent : List ℤ) (rows : ℕ) → size_of file ≡ rows_answer rows → 8 * rows ≤ length lent → EachAlone file lent 0 (buildings_of file es)

abbrev pub AllBuildingsAlone : List ℕ → Type 0
AllBuildingsAlone file = (es : List Entry) → listed file ≡ accepted es → BuildingsAlone file es
