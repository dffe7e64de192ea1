-- Where the cap governs a column and a beam. 02, No. 5: "Designers want to know if a larger section would raise the shear or if
-- the cap holds." A word of 1 says that no greater S changes the design shear; a word of 0 says that the design shear is that of
-- the resistances, and not that a greater S raises it.
use Rattle.std.specs.Prelude.{◌≡◌, ℕ, ◌≤◌, ℤ, pos}
use Rattle.exact.specs.Fraction.{Fraction, up_f, ◌<F◌, ◌≈F◌}
use Rattle.exact.specs.SignedFraction.{whole_s, signed, ◌+S◌, ◌-S◌, up_s, down_s}
use Rattle.coefficient.specs.Governs.{SmallerTells}
use Rattle.claims.specs.Told.{Tells}
use Rattle.members.specs.declared.Column.{Column}
use Rattle.members.specs.declared.Beam.{Beam}
use Rattle.members.specs.Column.{larger_sum, column_term, column_cap, column_row}
use Rattle.members.specs.Beam.{sum_plus, sum_minus, beam_term, beam_cap, beam_row}

-- ---- column

-- the same length and VE, and the larger of the two S at least as great; VR is any
pub record ColumnNotWeaker (c d : Column) : Type 0 where
  pub length : d.length ≡ c.length
  pub shear : d.shear ≡ c.shear
  pub sum : larger_sum c ≤ larger_sum d

pub record ColumnTells (q : ℕ) (c : Column) : Type 0 where
  -- word 6 is 1 exactly where q·VE/100 is strictly below 1400·S/length; then V is q·VE/100, else 1400·S/length, up
  pub tells : Tells (column_row q c).word6 (column_cap q c <F column_term c) (column_row q c).word2 (pos (up_f (column_cap q c))) (pos (up_f (column_term c)))
  -- where the two are the same number it is 0
  pub equal : column_term c ≈F column_cap q c → (column_row q c).word6 ≡ pos 0
  -- where it is 1, no greater S changes V or the word
  pub held : (column_row q c).word6 ≡ pos 1 → (d : Column) → ColumnNotWeaker c d → ((column_row q d).word2 ≡ (column_row q c).word2) × ((column_row q d).word6 ≡ pos 1)
  -- the same of the exact V, `column_shear`, the smaller of both
  pub exact : SmallerTells (column_term c) (column_cap q c)

-- ---- beam

-- the same length, V0 and VE; the resistances and VR are any
pub record SameSpan (b d : Beam) : Type 0 where
  pub length : d.length ≡ b.length
  pub nonseismic : d.nonseismic ≡ b.nonseismic
  pub shear : d.shear ≡ b.shear

-- V0 + D up, and V0 − D down
abbrev pub upper_of : Beam → Fraction → ℤ
upper_of b d = up_s (whole_s b.nonseismic +S signed d)

abbrev pub lower_of : Beam → Fraction → ℤ
lower_of b d = down_s (whole_s b.nonseismic -S signed d)

pub record BeamTells (q : ℕ) (b : Beam) : Type 0 where
  -- a word is 1 exactly where q·VE/120 is strictly below 1200·S/length of its direction; then D is q·VE/120, else 1200·S/length.
  -- Word 5 is of plus and the upper shear, word 6 of minus and the lower one.
  pub plus : Tells (beam_row q b).word5 (beam_cap q b <F beam_term (sum_plus b) b) (beam_row q b).word2 (upper_of b (beam_cap q b)) (upper_of b (beam_term (sum_plus b) b))
  pub minus : Tells (beam_row q b).word6 (beam_cap q b <F beam_term (sum_minus b) b) (beam_row q b).word3 (lower_of b (beam_cap q b)) (lower_of b (beam_term (sum_minus b) b))
  -- where the two are the same number it is 0
  pub plus_equal : beam_term (sum_plus b) b ≈F beam_cap q b → (beam_row q b).word5 ≡ pos 0
  pub minus_equal : beam_term (sum_minus b) b ≈F beam_cap q b → (beam_row q b).word6 ≡ pos 0
  -- where it is 1, no greater S of its direction changes its shear or the word, whatever the other direction has
  pub plus_held : (beam_row q b).word5 ≡ pos 1 → (d : Beam) → SameSpan b d → sum_plus b ≤ sum_plus d → ((beam_row q d).word2 ≡ (beam_row q b).word2) × ((beam_row q d).word5 ≡ pos 1)
  pub minus_held : (beam_row q b).word6 ≡ pos 1 → (d : Beam) → SameSpan b d → sum_minus b ≤ sum_minus d → ((beam_row q d).word3 ≡ (beam_row q b).word3) × ((beam_row q d).word6 ≡ pos 1)
  -- the same of the exact D of any direction, `beam_shear`, the smaller of both
  pub exact : (sum : ℕ) → SmallerTells (beam_term sum b) (beam_cap q b)
