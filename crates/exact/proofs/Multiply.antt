-- An order times a factor, in a form short enough for the list of `omega`. Assumes nothing.
use Prim.Native.Nat.{ℕ, ◌*◌, ◌≤◌}
use native.Mathlib.Nat.{mul-le-mul_right}

infixl 60 ◌·◌
-- h · k is the order h with both sides times k
pub ◌·◌ : {a b : ℕ} → a ≤ b → (k : ℕ) → a * k ≤ b * k
h · k = mul-le-mul_right k h
