-- Two accepted jobs that differ in one row alone, which is stronger in the second: what the words of both runs show. Assumes nothing.
use mathlib.Core.Path.{◌≡◌, ap, ◌∙◌}
use mathlib.Core.List.{List, [], ◌∷◌}
use Prim.Native.Nat.{ℕ, ◌+◌}
use native.Mathlib.Omega.{arith}
use lib.Dec.{lit<}
use lib.IntN.{ℤ, pos}
use lib.ListN.{length}
use Rattle.claims.specs.declared.Row.{Row}
use Rattle.rows.specs.Rows.{words}
use Rattle.capacity.specs.Calls.{rows_after}
use Rattle.capacity.specs.Buildings.{words_read}
use Rattle.strengthening.specs.Raised.{Strength, value, word_of, OneStronger}
use Rattle.strengthening.proofs.RowRaised.{RowRaised}
use Rattle.strengthening.proofs.Runs.{Part, Room, rows, NoMore, beside, beside_part, own_first, own_second, totals_kept}

module _ (offset byte : ℕ) (row other : Row) {word bit : ℕ} (raised : RowRaised row other word bit) where
  pub no_more : NoMore (words offset byte row) (words offset byte other)
  no_more = record { failed = raised.failed; checks = raised.checks }

-- the row stands behind those in front, and its strength is an operand of each job
module _ {first second : List ℕ} {front behind : List (List ℤ)} (offset byte : ℕ) (row other : Row) (part : Part first second front (words offset byte row ∷ []) (words offset byte other ∷ []) behind) (s : Strength) (raised : RowRaised row other s.word s.bit) (old_is : word_of (words offset byte row) s.word ≡ pos (value first s)) (new_is : word_of (words offset byte other) s.word ≡ pos (value second s)) (n : ℕ) (place : length front ≡ n) {lent others : List ℤ} (room : Room (rows part) lent others) where
  here : n ≡ length front + 0
  here = omega (arith, place)

  first_row : words_read (rows_after first lent) n ≡ words offset byte row
  first_row = ap (words_read (rows_after first lent)) here ∙ own_first part room 0 (lit< tt)

  second_row : words_read (rows_after second others) n ≡ words offset byte other
  second_row = ap (words_read (rows_after second others)) here ∙ own_second part room 0 (lit< tt)

  pub one_stronger : OneStronger first second lent others (rows part) n s
  one_stronger =
      record {
        others = λ k l h. beside part room k l (rw place (beside_part n 1 k (λ a b. h (omega arith))));
        row = rw (first_row, second_row) (raised.stronger offset byte);
        strength_first = ap (λ (ws : List ℤ). word_of ws s.word) first_row ∙ old_is;
        strength_second = ap (λ (ws : List ℤ). word_of ws s.word) second_row ∙ new_is;
        totals = totals_kept part room (no_more offset byte row other raised, tt);
      }
