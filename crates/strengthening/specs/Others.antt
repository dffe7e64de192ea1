-- The same of the other operands that are strengths and nothing else: VR of a wall base; VR and MS of a storey, by itself or in a block; VR
-- and MR of a basement member; and P of a footing, which is part of R where the contact is declared. 02, No. 11 asks for columns, beams and
-- members without hinges; this goes beyond it, with a statement for each (proofs/Others.antt: `bases_strengthened`, `storeys_strengthened`,
-- `basements_strengthened`; proofs/Footings.antt: `footings_strengthened`). A resistance from which a demand is made (R of a column or beam,
-- RB and RC of a joint, MR of a wall base or a footing) is none of them.
use Rattle.std.specs.Prelude.{◌≡◌, List, ◌∷◌, ◌++◌, ℕ, ◌+◌, ◌*◌, ◌≤◌, ◌<◌, ℤ, length, ◌≤ℤ◌}
use Rattle.walls.specs.declared.WallBase.{WallBase}
use Rattle.walls.specs.declared.Storey.{Storey}
use Rattle.basement.specs.declared.Basement.{Basement}
use Rattle.footing.specs.declared.Footing.{Footing}
use Rattle.format.specs.declared.Command.TheVariants.{WallBase as wall_base, Storey as storey, Basement as basement, Footing as footing}
use Rattle.blocks.specs.FileCommands.{FileCommand, one, block}
use Rattle.job.specs.Answers.{size_of}
use Rattle.job.specs.Placed.{Entry, placed_all, accepted, listed, all_rows}
use Rattle.capacity.specs.Calls.{rows_after}
use Rattle.capacity.specs.Buildings.{words_read}
use Rattle.strengthening.specs.Raised.{Strength, value, Raised, word_of, Stronger, Totals, OneStronger}

-- a command of the file of an accepted job
pub record Among (job : List ℕ) (before : List Entry) (x : Entry) : Type 0 where
  pub commands : List Entry
  pub is_accepted : listed job ≡ accepted commands
  pub after : List Entry
  pub place : commands ≡ before ++ x ∷ after

-- the rows of commands
abbrev pub rows_count : List Entry → ℕ
rows_count es = length (all_rows (placed_all es))

-- what two runs show of a strength: of two jobs, each on a slice, with so many rows, at row n
abbrev pub Shows : Type 1
Shows = List ℕ → List ℕ → List ℤ → List ℤ → ℕ → ℕ → Strength → Type 0

-- what is promised of two jobs of which the first is accepted with so many rows, and row n tells of the strength
pub record Strengthened (shows : Shows) (first second : List ℕ) (rows n : ℕ) (s : Strength) : Type 0 where
  -- where the second job is accepted too, the runs show it, each on any slice with room
  pub runs :
      (others : List Entry) → listed second ≡ accepted others → (lent other : List ℤ) → 8 * rows ≤ length lent → 8 * rows ≤ length other →
      shows first second lent other rows n s
  -- and it is accepted where the greater strength is within the greatest force or moment
  pub still_accepted : value second s ≤ 100000000 → size_of second ≡ size_of first

-- it is so where a command c of the first job's file has a greater strength in the second; where the strength stands follows from the
-- command's offset, and of the command's own rows the one counted `own` from 0 tells of it
abbrev pub Strengthens : Shows → List ℕ → List ℕ → (c : FileCommand) (own : ℕ) → (strength_at : ℕ → Strength) → Type 0
Strengthens shows first second c own strength_at =
    (before : List Entry) (x : Entry) (among : Among first before x) → x.given ≡ c → Raised first second (strength_at x.offset) →
    Strengthened shows first second (rows_count among.commands) (rows_count before + own) (strength_at x.offset)

-- ---- wall bases

-- no storey of the wall takes VR of its base
abbrev pub BasesStrengthened : List ℕ → List ℕ → Type 0
BasesStrengthened first second =
    (b : WallBase) → Strengthens OneStronger first second (one (wall_base b)) 0 (λ at. record { byte = 6; from = at + 1; index = 5; word = 3; bit = 1 })

-- ---- storeys

-- whose operands begin at an offset
abbrev pub VR_of_storey : ℕ → Strength
VR_of_storey from = record { byte = 7; from = from; index = 4; word = 3; bit = 1 }

abbrev pub MS_of_storey : ℕ → Strength
MS_of_storey from = record { byte = 7; from = from; index = 5; word = 5; bit = 2 }

-- of a storey by itself they begin behind its byte
pub record StoreysStrengthened (first second : List ℕ) : Type 0 where
  pub VR : (s : Storey) → Strengthens OneStronger first second (one (storey s)) 0 (λ at. VR_of_storey (at + 1))
  pub MS : (s : Storey) → Strengthens OneStronger first second (one (storey s)) 0 (λ at. MS_of_storey (at + 1))

-- of a storey in a block behind the block's byte, the count and the 24 bytes of each set before it
pub record BlocksStrengthened (first second : List ℕ) : Type 0 where
  pub VR : (ss : List Storey) (s : Storey) (rest : List Storey) → Strengthens OneStronger first second (block (ss ++ s ∷ rest)) (length ss) (λ at. VR_of_storey (at + 2 + 24 * length ss))
  pub MS : (ss : List Storey) (s : Storey) (rest : List Storey) → Strengthens OneStronger first second (block (ss ++ s ∷ rest)) (length ss) (λ at. MS_of_storey (at + 2 + 24 * length ss))

-- ---- basement members

-- VR stands in the shear row, MR in the moment row behind it
pub record BasementsStrengthened (first second : List ℕ) : Type 0 where
  pub VR : (id : ℕ) (m : Basement) → Strengthens OneStronger first second (one (basement id m)) 0 (λ at. record { byte = 12; from = at + 1; index = 6; word = 4; bit = 1 })
  pub MR : (id : ℕ) (m : Basement) → Strengthens OneStronger first second (one (basement id m)) 1 (λ at. record { byte = 12; from = at + 1; index = 7; word = 4; bit = 2 })

-- ---- footings

-- P is part of R, word 6, and bit 8 is that of its check
abbrev pub P_of_footing : ℕ → Strength
P_of_footing at = record { byte = 9; from = at + 1; index = 13; word = 6; bit = 8 }

-- between the two rows of one direction nothing differs but R, which does not fall, and its bit, which may go from set to clear
pub record Resists (first second : List ℤ) (s : Strength) : Type 0 where
  pub row : Stronger first second s.word s.bit
  pub resistance : word_of first s.word ≤ℤ word_of second s.word

-- of so many rows all are alike in all eight words but rows n and n + 1, of both directions
pub record TwoStronger (first second : List ℕ) (lent other : List ℤ) (rows n : ℕ) (s : Strength) : Type 0 where
  pub others : (k : ℕ) → k < rows → ¬ (k ≡ n) → ¬ (k ≡ n + 1) → words_read (rows_after second other) k ≡ words_read (rows_after first lent) k
  pub plus : Resists (words_read (rows_after first lent) n) (words_read (rows_after second other) n) s
  pub minus : Resists (words_read (rows_after first lent) (n + 1)) (words_read (rows_after second other) (n + 1)) s
  pub totals : Totals first second lent other

abbrev pub FootingsStrengthened : List ℕ → List ℕ → Type 0
FootingsStrengthened first second = (f : Footing) → Strengthens TwoStronger first second (one (footing f)) 0 P_of_footing
