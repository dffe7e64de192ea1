-- How large the words of a row of a basement member are, for all operands in range. Assumes nothing.
use mathlib.Core.Bool.{◌||◌}
use Prim.Native.Nat.{ℕ, ◌≤◌}
use native.Mathlib.Omega.{arith}
use lib.IntN.{ℤ, pos, neg_ℤ}
use lib.Signed.{lt_z}
use Rattle.exact.specs.SignedFraction.{up_s, down_s}
use Rattle.claims.specs.Sizes.{Sized}
use Rattle.claims.proofs.Bits.{flag_le}
use Rattle.claims.proofs.Sizes.{sized}
use Rattle.coefficient.specs.declared.Quotient.{Quotient}
use Rattle.coefficient.specs.Coefficient.{fraction}
use Rattle.actions.specs.Ranges.{ActionRange}
use Rattle.actions.specs.declared.Sign.TheVariants.{Plus, Minus}
use Rattle.actions.proofs.Sums.{up_size_le, down_size_le}
use Rattle.basement.specs.Basement.{upper_value, lower_value, basement_row}

pub basement_sized : (bit : ℕ) (a : Quotient) (v : ℤ) (e s : ℕ) → bit ≤ 2 → ActionRange a v (pos e) → s ≤ 100000000 → Sized (basement_row bit (fraction a) v e s)
unfolding basement_row
basement_sized bit a v e s b r h =
    let upper = up_s (upper_value (fraction a) v e) in
    let lower = down_s (lower_value (fraction a) v e) in
    sized upper lower (pos s) (pos 0) (pos 0) _
    (omega (arith, up_size_le Plus a v (pos e) r)) (omega (arith, down_size_le Minus a v (pos e) r)) (omega arith) (omega arith) (omega arith)
    (omega (arith, b, flag_le bit (lt_z (pos s) upper || lt_z (pos s) (neg_ℤ lower))))
