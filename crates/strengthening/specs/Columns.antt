-- A greater column has no smaller design shear. 02, No. 11: "for one column, when VE and all four resistances are at least as great and
-- the length and q are the same, the design shear is at least as great." Over the words that `run` writes, for columns of one job or of any
-- two, gj, gf and VR being any; and of the exact design shear (proofs/Columns.antt, `columns_monotone`).
use Rattle.std.specs.Prelude.{◌≡◌, ℕ, ◌≤◌, ◌≤ℤ◌}
use Rattle.exact.specs.Fraction.{◌≤F◌}
use Rattle.claims.specs.declared.Row.{Row}
use Rattle.members.specs.declared.Column.{Column}
use Rattle.members.specs.Column.{column_shear}
use Rattle.format.specs.declared.Command.TheVariants.{Column as column}
use Rattle.capacity.specs.Governs.{RunRow}

-- d has the length of c, and VE and the four resistances at least as great
pub record AtLeastAsGreat (c d : Column) : Type 0 where
  pub length : d.length ≡ c.length
  pub shear : c.shear ≤ d.shear
  pub plus1 : c.plus1 ≤ d.plus1
  pub plus2 : c.plus2 ≤ d.plus2
  pub minus1 : c.minus1 ≤ d.minus1
  pub minus2 : c.minus2 ≤ d.minus2

-- words 2 of their rows are the reported design shears
pub record NoSmaller (c d : Column) (q : ℕ) (r s : Row) : Type 0 where
  pub reported : r.word2 ≤ℤ s.word2
  pub exact : column_shear q c ≤F column_shear q d

abbrev pub ColumnsMonotone : Type 0
ColumnsMonotone = (c d : Column) (q : ℕ) (r s : Row) → RunRow (column c) q r → RunRow (column d) q s → AtLeastAsGreat c d → NoSmaller c d q r s
