-- The steps of the count: what holds before each row, and at its end. Assumes nothing.
use mathlib.Core.Path.{◌≡◌, refl, ap, ◌∙◌}
use mathlib.Core.Bool.{true}
use mathlib.Core.List.{List, []}
use Prim.Native.Nat.{ℕ, ◌+◌, ◌*◌, ◌≤◌, ◌<◌, zero-le}
use native.Mathlib.Nat.{le_antisymm}
use native.Mathlib.Numerals.{add-one}
use native.Mathlib.Omega.{arith}
use lib.IntN.{ℤ, pos}
use lib.ListN.{length, get_or, drop}
use lib.Seq.{get_or-take, get_or-drop}
use Rattle.std.specs.Simd.{first_chunks}
use Rattle.slices.proofs.Rows.{length_chunks, chunk_at}
use Rattle.totals.specs.declared.Totals.{Totals}
use Rattle.totals.specs.Rows.{verdict_at, good_verdict, row_failed, checks_of, verdict_sum, rows_failed, checks_failed}
use Rattle.totals.specs.Counted.{counted_in, GoodRows}
use Rattle.totals.proofs.Verdicts.{checks_le}
use Rattle.totals.proofs.Sums.{rows_failed_le}

-- word 7 of the row that the loop has reached is that row's verdict, which is in its range
pub record Reached (words : List ℤ) (n i : ℕ) (word : ℤ) : Type 0 where
  pub within : i < n
  pub is : word ≡ verdict_at words i
  pub good : good_verdict (verdict_at words i) ≡ true

pub reached : (words : List ℤ) (n i : ℕ) (rows : List (List ℤ)) → rows ≡ first_chunks 8 n words → GoodRows words n → i < length rows → Reached words n i (get_or (get_or rows i []) 7 (pos 0))
unfolding verdict_at
reached words n i rows e good h =
    let within : i < n = omega (arith, ap length e, length_chunks 8 n words) in
    record {
      within = within;
      is =
          ap (λ r. get_or (get_or r i []) 7 (pos 0)) e ∙ ap (λ r. get_or r 7 (pos 0)) (chunk_at n i words [] within)
          ∙ get_or-take 8 (drop (8 * i) words) 7 (pos 0) (omega arith)
          ∙ get_or-drop (8 * i) words 7 (pos 0);
      good = good.good i within;
    }

abbrev pub with_rows : (n failed checks : ℕ) → Totals
with_rows n failed checks = record { rows = n; failed = failed; checks = checks }

module _ (rows : List ℤ) (n : ℕ) where
  -- the rows before `row` are counted
  pub record Counting (row failed checks : ℕ) : Type 0 where
    pub within : row ≤ n
    pub failed_so_far : failed ≡ rows_failed rows row
    pub checks_so_far : checks ≡ checks_failed rows row
    pub at_most_eight : checks ≤ 8 * row

  pub begun : Counting 0 0 0
  unfolding verdict_sum rows_failed checks_failed
  begun = record { within = zero-le; failed_so_far = refl; checks_so_far = refl; at_most_eight = zero-le }

  module _ {row failed checks : ℕ} (h : Counting row failed checks) where
    pub failed_le : failed ≤ row
    failed_le = omega (arith, h.failed_so_far, rows_failed_le rows row)

    pub turn : row < n → good_verdict (verdict_at rows row) ≡ true → Counting (row + 1) (failed + row_failed (verdict_at rows row)) (checks + checks_of (verdict_at rows row))
    unfolding verdict_sum rows_failed checks_failed
    turn l good =
        record {
          within = omega arith;
          failed_so_far = rw (add-one row) (ap (λ (k : ℕ). k + row_failed (verdict_at rows row)) h.failed_so_far);
          checks_so_far = rw (add-one row) (ap (λ (k : ℕ). k + checks_of (verdict_at rows row)) h.checks_so_far);
          at_most_eight = omega (arith, h.at_most_eight, checks_le (verdict_at rows row) good);
        }

    pub ended : n ≤ row → record { rows = n; failed = failed; checks = checks } ≡ counted_in rows n
    ended end = let r : row ≡ n = le_antisymm h.within end in rw (h.failed_so_far, h.checks_so_far, r)
