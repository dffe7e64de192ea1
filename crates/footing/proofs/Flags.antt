-- Bits 0 and 1 are both set exactly where the flags leave 3 on division by 4, and the thrust that counts is at most P. Assumes nothing.
use mathlib.Core.Path.{◌≡◌}
use mathlib.Core.Bool.{Bool, true, false, cond, ◌&&◌, and-false}
use mathlib.Core.Logic.{◌⊎◌, inl, inr}
use Prim.Native.Nat.{ℕ, ◌/◌, ◌%◌, ◌≤◌, ◌<◌}
use native.Mathlib.Omega.{arith}
use borrow.Author.Tests.{ne_eqb, eq-eqb}
use Rattle.claims.proofs.Orders.{≤_or}
use Rattle.footing.specs.declared.Footing.{Footing}
use Rattle.footing.specs.Flags.{bit_set, contact, counted_thrust}

pub both_set : (n : ℕ) → n % 4 ≡ 3 → (bit_set 1 n && bit_set 2 n) ≡ true
both_set n h = rw (eq-eqb (n / 1 % 2) 1 (omega (arith, h)), eq-eqb (n / 2 % 2) 1 (omega (arith, h)))

pub not_both_set : (n : ℕ) → (n % 4 ≡ 3 → ⊥) → (bit_set 1 n && bit_set 2 n) ≡ false
not_both_set n h = by (≤_or 1 (n % 2))
  where
    by : (1 ≤ n % 2) ⊎ (n % 2 < 1) → (bit_set 1 n && bit_set 2 n) ≡ false
    by (inl l) = rw (ne_eqb (n / 2 % 2) 1 (λ e. h (omega (arith, e, l)))) (and-false (bit_set 1 n))
    by (inr l) = rw (ne_eqb (n / 1 % 2) 1 (λ e. omega (arith, e, l)))

pub thrust_le : (f : Footing) → counted_thrust f ≤ f.passive
thrust_le f = by (contact f)
  where
    by : (t : Bool) → cond t f.passive 0 ≤ f.passive
    by true = omega arith
    by false = omega arith
