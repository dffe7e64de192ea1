-- How large the words of a row are: words 2 to 6 at most 99,999,999,999 in size, so that each has at most 11 digits, 12 characters with
-- a minus (02, No. 3); the verdict from 0 to 255, the sum of all its bits (01, "Rows and verdict bits"). Assumes nothing.
use Rattle.std.specs.Prelude.{List, [], ◌∷◌, ℕ, ◌≤◌, pos, nat_abs, ◌≤ℤ◌}
use Rattle.claims.specs.declared.Row.{Row}

abbrev pub greatest_size : ℕ
greatest_size = 99999999999

pub record Sized (r : Row) : Type 0 where
  pub word2 : nat_abs r.word2 ≤ greatest_size
  pub word3 : nat_abs r.word3 ≤ greatest_size
  pub word4 : nat_abs r.word4 ≤ greatest_size
  pub word5 : nat_abs r.word5 ≤ greatest_size
  pub word6 : nat_abs r.word6 ≤ greatest_size
  pub verdict_least : pos 0 ≤ℤ r.verdict
  pub verdict_greatest : r.verdict ≤ℤ pos 255

abbrev pub AllSized : List Row → Type 0
AllSized [] = Unit {0}
AllSized (r ∷ rs) = Sized r × AllSized rs
