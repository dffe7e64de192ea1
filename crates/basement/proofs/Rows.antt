-- The row that `basement_row` puts together is that of specs/, by the equations of each step, over plain numbers. Assumes nothing.
use mathlib.Core.Path.{◌≡◌}
use mathlib.Core.Bool.{◌||◌}
use Prim.Native.Nat.{ℕ}
use lib.IntN.{ℤ, pos, neg_ℤ}
use lib.Signed.{lt_z}
use Rattle.exact.specs.Fraction.{Fraction}
use Rattle.exact.specs.SignedFraction.{up_s, down_s}
use Rattle.claims.specs.declared.Row.{Row}
use Rattle.claims.specs.Verdict.{flag}
use Rattle.basement.specs.Basement.{upper_value, lower_value, basement_row}

pub basement_is : (bit : ℕ) (a : Fraction) (v : ℤ) (e s : ℕ) (upper lower verdict : ℤ) → upper ≡ up_s (upper_value a v e) → lower ≡ down_s (lower_value a v e) →
    verdict ≡ pos (flag bit (lt_z (pos s) upper || lt_z (pos s) (neg_ℤ lower))) →
    ◌≡◌ {A = Row} (record { word2 = upper; word3 = lower; word4 = pos s; word5 = pos 0; word6 = pos 0; verdict = verdict }) (basement_row bit a v e s)
unfolding basement_row
basement_is bit a v e s upper lower verdict u l f = rw (f, u, l)
