-- The totals of small slices, by computation. Assumes nothing.
use mathlib.Core.Path.{◌≡◌, refl}
use mathlib.Core.List.{List, [], ◌∷◌, ◌++◌}
use Prim.Native.Nat.{ℕ}
use lib.Count.{ones_in, ones}
use lib.IntN.{ℤ, pos, negsuc}
use Rattle.totals.specs.declared.Totals.{Totals}
use Rattle.totals.specs.Rows.{verdict_at, row_failed, checks_of, verdict_sum, rows_failed, checks_failed}
use Rattle.totals.specs.Counted.{counted_in}

-- the checks in the verdicts 0, 1, 3 and 255
pub checks_of_0 : checks_of (pos 0) ≡ 0
unfolding ones_in ones checks_of
checks_of_0 = refl

pub checks_of_1 : checks_of (pos 1) ≡ 1
unfolding ones_in ones checks_of
checks_of_1 = refl

pub checks_of_3 : checks_of (pos 3) ≡ 2
unfolding ones_in ones checks_of
checks_of_3 = refl

pub checks_of_255 : checks_of (pos 255) ≡ 8
unfolding ones_in ones checks_of
checks_of_255 = refl

-- a row with a verdict; the other words count for nothing
unfoldable pub row_with : ℤ → List ℤ
row_with v = pos 7 ∷ pos 3 ∷ negsuc 4 ∷ pos 190000 ∷ pos 1 ∷ negsuc 0 ∷ pos 256 ∷ v ∷ []

abbrev totals : (rows failed checks : ℕ) → Totals
totals rows failed checks = record { rows = rows; failed = failed; checks = checks }

-- a row that passed, and one that failed by bits 1 and 4
pub two_rows : counted_in (row_with (pos 0) ++ row_with (pos 5)) 2 ≡ totals 2 1 2
unfolding ones_in ones checks_of row_with verdict_at row_failed verdict_sum rows_failed checks_failed
two_rows = refl

-- the first of them alone
pub first_row_alone : counted_in (row_with (pos 0) ++ row_with (pos 5)) 1 ≡ totals 1 0 0
unfolding ones_in ones checks_of row_with verdict_at row_failed verdict_sum rows_failed checks_failed
first_row_alone = refl

-- every check failed
pub all_checks : counted_in (row_with (pos 255)) 1 ≡ totals 1 1 8
unfolding ones_in ones checks_of row_with verdict_at row_failed verdict_sum rows_failed checks_failed
all_checks = refl

-- no row of an empty slice
pub no_rows : counted_in [] 0 ≡ totals 0 0 0
unfolding verdict_sum rows_failed checks_failed
no_rows = refl
