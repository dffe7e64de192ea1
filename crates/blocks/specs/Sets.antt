-- A block of storeys. 02, No. 7: "New command 0B has a count (u8, 1 to 64) and then that many sets of storey operands, 24 bytes each."
use Rattle.std.specs.Prelude.{Bool, true, ◌&&◌, cond, List, [], ◌∷◌, ℕ, zero, suc, ◌+◌, ◌/◌, eqb, length, Option, Some, None}
use Rattle.quantity.specs.Range.{within}
use Rattle.layout.specs.Forms.{to}
use Rattle.layout.specs.Operands.{operand, byte_at}
use Rattle.walls.specs.declared.Storey.{Storey}
use Rattle.format.specs.Commands.{storey_of, in_range, operand_at_fault}
use Rattle.format.specs.declared.Command.TheVariants.{Storey as storey}

-- the byte is that of a block
abbrev pub is_block : ℕ → Bool
is_block byte = eqb byte 11

-- the count of the block at an offset, the byte behind its own
abbrev pub count_at : List ℕ → ℕ → ℕ
count_at job at = byte_at job (at + 1)

unfoldable pub count_in_range : ℕ → Bool
unfolding within
count_in_range count = within (to 1 64) count

-- the storey whose operands start at an offset, and so many of them, one set after the other
unfoldable pub storey_at : List ℕ → ℕ → Storey
unfolding operand
storey_at job at = storey_of (operand 7 job at)

unfoldable pub storeys_at : ℕ → List ℕ → ℕ → List Storey
unfolding storey_at
storeys_at zero job at = []
storeys_at (suc n) job at = storey_at job at ∷ storeys_at n job (at + 24)

-- the storeys of the block at an offset
abbrev pub sets_of : List ℕ → ℕ → List Storey
sets_of job at = storeys_at (count_at job at) job (at + 2)

-- the storeys of sets that stand one after the other, of their bytes alone
abbrev pub storeys_in : List ℕ → List Storey
storeys_in sets = storeys_at (length sets / 24) sets 0

-- each set in range: each operand in its own range, and J ≤ J0
unfoldable pub all_in_range : List Storey → Bool
unfolding in_range
all_in_range [] = true
all_in_range (s ∷ ss) = in_range (storey s) && all_in_range ss

-- the operand at fault among these sets, six a set, counted from 0: that of the first set out of range
unfoldable pub set_at_fault : List Storey → ℕ
unfolding in_range operand_at_fault
set_at_fault [] = 0
set_at_fault (s ∷ ss) = cond (in_range (storey s)) (6 + set_at_fault ss) (operand_at_fault (storey s))

-- the same counted from 1; none where every set is in range
unfoldable pub operand_named : List Storey → Option ℕ
unfolding all_in_range set_at_fault
operand_named ss = cond (all_in_range ss) None (Some (1 + set_at_fault ss))
