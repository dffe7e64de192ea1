-- The bytes of a block's sets: 24 a set, and those of one set more behind them. Assumes nothing.
use mathlib.Core.List.{List, [], ◌∷◌, ◌++◌, append_assoc, append-nil}
use mathlib.Core.Path.{◌≡◌, refl}
use Prim.Native.Nat.{ℕ, ◌*◌}
use native.Mathlib.Omega.{arith}
use lib.ListN.{length, length-append}
use Rattle.layout.specs.Forms.{width}
use Rattle.layout.specs.Layouts.{forms_of, forms_in}
use Rattle.walls.specs.declared.Storey.{Storey}
use Rattle.format.specs.declared.Command.TheVariants.{Storey as storey}
use Rattle.format.specs.Commands.{operands_of}
use Rattle.numbers.specs.BigEndian.{big_endian}
use Rattle.writing.specs.Bytes.{operand_bytes, set_bytes}

-- the bytes of one set
abbrev pub one_set : Storey → List ℕ
one_set s = operand_bytes (forms_of 7) (operands_of (storey s))

pub set_width : (s : Storey) → length (one_set s) ≡ 24
unfolding operand_bytes big_endian width forms_of forms_in
set_width s = refl

pub sets_width : (ss : List Storey) → length (set_bytes ss) ≡ 24 * length ss
unfolding set_bytes
sets_width [] = refl
sets_width (s ∷ ss) = omega (arith, length-append (one_set s) (set_bytes ss), set_width s, sets_width ss)

pub sets_more : (ss : List Storey) (s : Storey) → set_bytes (ss ++ s ∷ []) ≡ set_bytes ss ++ one_set s
unfolding set_bytes
sets_more [] s = append-nil (one_set s)
sets_more (t ∷ ss) s = rw (sets_more ss s, append_assoc (one_set t) (set_bytes ss) (one_set s))
