-- The design shear of a column is no smaller where VE and the resistances are no smaller: the exact one, and the one that `run` writes. 02,
-- No. 11. Assumes nothing.
use mathlib.Core.Path.{◌≡◌, sym, ap, ◌∙◌}
use mathlib.Core.Bool.{true}
use Prim.Native.Nat.{ℕ, ◌*◌, ◌≤◌, ◌<◌}
use native.Mathlib.Omega.{arith}
use lib.Signed.{◌≤ℤ◌}
use Rattle.exact.specs.Fraction.{ratio, smaller, ◌≤F◌}
use Rattle.exact.proofs.Multiply.{◌·◌}
use Rattle.exact.proofs.Rounding.{up_mono}
use Rattle.exact.proofs.Integers.{≤ℤ_in}
use Rattle.coefficient.proofs.Bounds.{smaller_either, smaller_≤_first, smaller_≤_second}
use Rattle.claims.specs.declared.Row.{Row}
use Rattle.members.specs.declared.Column.{Column}
use Rattle.members.specs.Column.{larger_sum, column_shear, column_row}
use Rattle.members.proofs.Steps.{smaller_proper}
use Rattle.members.proofs.Governs.{each_greater}
use Rattle.format.specs.Commands.{in_range}
use Rattle.format.specs.declared.Command.TheVariants.{Column as column}
use Rattle.format.proofs.CommandRanges.{column_in_range}
use Rattle.job.proofs.AcceptedLaws.{accepted_each}
use Rattle.capacity.specs.Governs.{RunRow}
use Rattle.capacity.proofs.Governs.{column_written}
use Rattle.strengthening.specs.Columns.{AtLeastAsGreat, ColumnsMonotone}

-- the smaller of two quotients grows with both numerators
smaller_grows : (n m l k h j : ℕ) → n ≤ m → k ≤ h → smaller (ratio n l) (ratio k j) ≤F smaller (ratio m l) (ratio h j)
smaller_grows n m l k h j a b =
    let z = smaller (ratio n l) (ratio k j) in
    smaller_either (ratio m l) (ratio h j) (λ w. z ≤F w) (omega (arith, smaller_≤_first (ratio n l) (ratio k j), a · z.den)) (omega (arith, smaller_≤_second (ratio n l) (ratio k j), b · z.den))

module _ (q : ℕ) (c d : Column) (g : AtLeastAsGreat c d) where
  exact : column_shear q c ≤F column_shear q d
  exact =
      let s = each_greater c d g.plus1 g.plus2 g.minus1 g.minus2 in
      rw g.length (smaller_grows (1400 * larger_sum c) (1400 * larger_sum d) c.length (q * c.shear) (q * d.shear) 100 (omega (arith, s)) (omega (arith, g.shear · q)))

  reported : 0 < c.length → (column_row q c).word2 ≤ℤ (column_row q d).word2
  unfolding column_row
  reported l =
      ≤ℤ_in _ _ (omega (arith, up_mono (column_shear q c) (column_shear q d) (smaller_proper c.length 100 l (omega arith) _ _) (smaller_proper d.length 100 (omega (arith, g.length, l)) (omega arith) _ _) exact))

-- a column of which run writes a row has a length
its_length : (c : Column) (q : ℕ) (r : Row) → RunRow (column c) q r → 0 < c.length
its_length c q r w =
    let range : in_range (column c) ≡ true = ap in_range (sym w.is_command) ∙ (accepted_each w.job w.commands w.is_accepted w.earlier w.this w.later w.place).1.range in
    omega (arith, (column_in_range c range).length_least)

pub columns_monotone : ColumnsMonotone
columns_monotone c d q r s v w g =
    record { reported = rw (column_written c q r v, column_written d q s w) (reported q c d g (its_length c q r v)); exact = exact q c d g }
