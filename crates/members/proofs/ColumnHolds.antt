-- The claims of a column's row hold for all operands in range. Assumes nothing.
use mathlib.Core.Path.{refl, ap}
use mathlib.Core.List.{List, [], ◌∷◌}
use mathlib.Core.Bool.{false}
use Prim.Native.Nat.{ℕ}
use native.Mathlib.Omega.{arith}
use lib.Dec.{ltb}
use lib.IntN.{pos}
use Rattle.exact.specs.Fraction.{Proper, whole, up_f}
use Rattle.exact.specs.SignedFraction.{signed}
use Rattle.claims.specs.Exact.{value}
use Rattle.claims.specs.Claims.{Check, Hold, plain, operand, check}
use Rattle.claims.proofs.Rounded.{up_check}
use Rattle.members.specs.declared.Column.{Column}
use Rattle.members.specs.Column.{column_shear, column_row, column_claims, ColumnRange}
use Rattle.claims.proofs.Bits.{flags, holds, none_raised, one_raised, not_below_ℕ}
use Rattle.members.proofs.Steps.{smaller_proper}

pub column_holds : (q : ℕ) (c : Column) → ColumnRange q c → Hold (column_claims q c (column_row q c))
unfolding column_claims column_row
column_holds q c r =
    let x = column_shear q c in
    let n = c.strength in
    let p : Proper x = smaller_proper c.length 100 (omega (arith, r.length_least)) (omega arith) _ _ in
    let k : Check = check 1 (plain (pos (up_f x)) (value (signed x)) (whole 1)) (operand (pos n) n) in
    let t = ltb n (up_f x) in
    let ks : List Check = k ∷ [] in
    holds (column_claims q c (column_row q c)) (flags t false false false false false false false) (ap pos (omega arith)) tt (up_check 1 x n p, tt)
    (one_raised 1 k [] t refl tt (not_below_ℕ n (up_f x)))
    (none_raised 2 ks tt) (none_raised 4 ks tt) (none_raised 8 ks tt) (none_raised 32 ks tt)
