-- The answer of take-down in the terms of 01, "Calls" and "Who can make a job fail": the refusal's number, its offset, and the value.
-- Assumes nothing.
use Rattle.std.specs.Prelude.{ℕ, Option, Some, None}

-- number 0: no refusal
pub record Answer : Type 0 where
  pub number : ℕ
  pub offset : ℕ
  pub value : ℕ

unfoldable pub accepted : ℕ → Answer
accepted v = record { number = 0; offset = 0; value = v }

-- "5 from take-down, kind or value out of range, offset and value 0"
unfoldable pub refused : Answer
refused = record { number = 5; offset = 0; value = 0 }

-- a value, or none where the kind or the value is out of range
unfoldable pub answer_of : Option ℕ → Answer
unfolding accepted refused
answer_of (Some v) = accepted v
answer_of None = refused
