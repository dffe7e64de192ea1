-- "Up" and "down" of 01, "Quantities": the quotient n/d rounded towards plus and towards minus infinity.
-- Each has two laws, in proofs/Rounding.antt: n ≤ up·d < n + d and down·d ≤ n < down·d + d.
use Rattle.std.specs.Prelude.{ℕ, ◌+◌, ◌-◌, ◌/◌, ℤ, pos, negsuc, neg_ℤ}

-- down, of naturals
unfoldable pub down : ℕ → ℕ → ℕ
down n d = n / d

-- up, of naturals
unfoldable pub up : ℕ → ℕ → ℕ
up n d = (n + (d - 1)) / d

-- down, of a signed n: −(a + 1)/d lies in the step that ends at −(a/d)
unfoldable pub down_ℤ : ℤ → ℕ → ℤ
down_ℤ (pos a) d = pos (a / d)
down_ℤ (negsuc a) d = negsuc (a / d)

-- up, of a signed n: minus the down of minus n
unfoldable pub up_ℤ : ℤ → ℕ → ℤ
unfolding down_ℤ
up_ℤ n d = neg_ℤ (down_ℤ (neg_ℤ n) d)
