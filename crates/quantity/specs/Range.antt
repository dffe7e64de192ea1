-- A range of whole numbers, both ends included, and the tests of a value against it. 01, "Job commands": "Ranges".
use Rattle.std.specs.Prelude.{Bool, ◌&&◌, ℕ, leb, ℤ, nat_abs}

pub record Range : Type 0 where
  pub least : ℕ
  pub greatest : ℕ

unfoldable pub within : Range → ℕ → Bool
within range x = leb range.least x && leb x range.greatest

-- a signed value: from minus the limit to the limit
unfoldable pub within_signed : ℕ → ℤ → Bool
within_signed limit x = leb (nat_abs x) limit
