-- Strengthening can be relied on. 02, No. 11: "when two accepted jobs are alike in every byte except that one column, beam or member
-- without hinges has a greater VR in the second, all rows are alike but that one. There the demand is equal, and a passed shear stays
-- passed." For all pairs of such jobs, over their bytes and the words that `run` writes for both (proofs/Members.antt,
-- `members_strengthened`, `members_accepted`, `members_raised`).
use Rattle.std.specs.Prelude.{◌≡◌, Option, Some, None, List, ◌∷◌, ◌++◌, ℕ, ◌+◌, ◌*◌, ◌≤◌, ◌<◌, ℤ, length}
use Rattle.format.specs.declared.Command.{Command}
use Rattle.format.specs.declared.Command.TheVariants.{Column as column, Beam as beam, Hingeless as hingeless}
use Rattle.job.specs.Answers.{size_of}
use Rattle.job.specs.Placed.{Placed, accepted, placed, all_rows}
use Rattle.strengthening.specs.Raised.{Strength, value, Raised, overwritten, OneStronger}

-- VR of a column, a beam and a member without hinges, whose byte stands at an offset: its operands begin behind the byte
abbrev pub VR_of : Command → ℕ → Option Strength
VR_of (column c) at = Some (record { byte = 3; from = at + 1; index = 6; word = 3; bit = 1 })
VR_of (beam b) at = Some (record { byte = 4; from = at + 1; index = 7; word = 4; bit = 1 })
VR_of (hingeless id1 id2 m) at = Some (record { byte = 5; from = at + 1; index = 6; word = 4; bit = 1 })
VR_of _ at = None

-- a member of an accepted job, with its VR, among the commands of the job
pub record Member (job : List ℕ) (VR : Strength) : Type 0 where
  pub commands : List Placed
  pub is_accepted : placed job ≡ accepted commands
  pub earlier : List Placed
  pub this : Placed
  pub later : List Placed
  pub place : commands ≡ earlier ++ this ∷ later
  pub its_VR : VR_of this.command this.offset ≡ Some VR

-- the second job is accepted too, and each is run on any slice with room for the rows; the member's row follows the rows of the commands
-- before it
abbrev pub MembersStrengthened : List ℕ → List ℕ → Type 0
MembersStrengthened first second =
    (VR : Strength) (m : Member first VR) (others : List Placed) → placed second ≡ accepted others → Raised first second VR →
    (lent other : List ℤ) → 8 * length (all_rows m.commands) ≤ length lent → 8 * length (all_rows m.commands) ≤ length other →
    OneStronger first second lent other (length (all_rows m.commands)) (length (all_rows m.earlier)) VR

-- ---- beyond the request

-- where the greater VR is within the greatest force, the second job is accepted, with as many rows
abbrev pub StillAccepted : List ℕ → List ℕ → Type 0
StillAccepted first second = (VR : Strength) → Member first VR → Raised first second VR → value second VR ≤ 100000000 → size_of second ≡ size_of first

-- and every such VR can be written over the first
pub record IsRaised (first : List ℕ) (VR : Strength) (n : ℕ) : Type 0 where
  pub raised : Raised first (overwritten first VR n) VR
  pub written : value (overwritten first VR n) VR ≡ n
  pub still_accepted : size_of (overwritten first VR n) ≡ size_of first

abbrev pub CanBeRaised : List ℕ → Type 0
CanBeRaised first = (VR : Strength) → Member first VR → (n : ℕ) → value first VR < n → n ≤ 100000000 → IsRaised first VR n
