-- A block stands for its storeys. 02, No. 7: "Its rows are those of the same storeys given singly, word 1 being 07, except that word 0
-- is the offset of each set's first byte." A file is given by its commands, written one after the other, with its end; every accepted
-- job is such a file (proofs/WrittenAgain.antt, `job_again`). And what demand 3 claims of a storey holds for those of a block.
use Rattle.std.specs.Prelude.{◌≡◌, List, [], ◌∷◌, ◌++◌, map, ℕ, ◌+◌, ◌*◌, ◌≤◌, ℤ, length, drop, Some}
use Rattle.coefficient.specs.declared.Settings.{Settings}
use Rattle.claims.specs.Claims.{Hold}
use Rattle.walls.specs.declared.WallBase.{WallBase}
use Rattle.walls.specs.declared.Storey.{Storey}
use Rattle.walls.specs.Storey.{storey_claims}
use Rattle.format.specs.declared.Command.TheVariants.{Finish as finish}
use Rattle.blocks.specs.FileCommands.{FileCommand, one, block, singly}
use Rattle.writing.specs.Files.{AllWritable, all_bytes}
use Rattle.context.specs.Context.{Context}
use Rattle.job.specs.Placed.{Placed, Entry, placed_all, accepted, listed, placed, all_rows}
use Rattle.capacity.specs.Calls.{rows_after}
use Rattle.capacity.specs.DemandThree.{row_read}

-- a file of these commands
abbrev pub file_of : List FileCommand → List ℕ
file_of cs = all_bytes (cs ++ one finish ∷ [])

-- the words of rows, word 0 aside
abbrev pub without_offsets : List (List ℤ) → List (List ℤ)
without_offsets rows = map (λ row. drop 1 row) rows

-- a job that is accepted has these rows, word 0 aside
pub record Accepts (job : List ℕ) (rows : List (List ℤ)) : Type 0 where
  pub commands : List Placed
  pub is_accepted : placed job ≡ accepted commands
  pub rows_are : without_offsets (all_rows commands) ≡ rows

-- for any storeys that a block can hold, and any commands before and behind them: the file with the block is accepted exactly where
-- the file with the storeys singly is, and the rows of all commands are the same, word 0 aside
pub record BlockStands (cs : List FileCommand) (ss : List Storey) (ds : List FileCommand) : Type 0 where
  pub singly_too : (rows : List (List ℤ)) → Accepts (file_of (cs ++ block ss ∷ ds)) rows → Accepts (file_of (cs ++ (singly ss ++ ds))) rows
  pub block_too : (rows : List (List ℤ)) → Accepts (file_of (cs ++ (singly ss ++ ds))) rows → Accepts (file_of (cs ++ block ss ∷ ds)) rows

abbrev pub BlocksStand : Type 0
BlocksStand =
    (cs : List FileCommand) (ss : List Storey) (ds : List FileCommand) → AllWritable cs → AllWritable (block ss ∷ []) → AllWritable ds → BlockStands cs ss ds

-- ---- the bounds

-- a storey's claims hold of row n of the slice, by the settings and the wall base of this context
pub record StoreyHeld (words : List ℤ) (n : ℕ) (h : Context) (s : Storey) : Type 0 where
  pub settings : Settings
  pub base : WallBase
  pub settings_hold : h.settings ≡ Some settings
  pub base_holds : h.wall ≡ Some base
  pub claims : Hold (storey_claims settings.behaviour base s (row_read words n))

-- 02, No. 7: "Bounds for storeys extend to blocks of every count." In every accepted job, for every block and every storey of it: what
-- demand 3 claims of a storey holds of its row, read off the words that run writes, by what holds at the block. The row is that of the
-- storey's place in the block, behind the rows of the commands before the block.
abbrev pub BlocksHeld : List ℕ → Type 0
BlocksHeld job =
    (es : List Entry) → listed job ≡ accepted es → (before : List Entry) (x : Entry) (after : List Entry) → es ≡ before ++ x ∷ after →
    (first : List Storey) (s : Storey) (rest : List Storey) → x.given ≡ block (first ++ s ∷ rest) →
    (m : List ℤ) → 8 * length (all_rows (placed_all es)) ≤ length m → StoreyHeld (rows_after job m) (length (all_rows (placed_all before)) + length first) x.context s
