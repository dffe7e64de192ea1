-- The size of a signed number without its sign, by the test of its sign. Assumes nothing.
use mathlib.Core.Path.{◌≡◌, subst}
use mathlib.Core.Bool.{true, false}
use Prim.Native.Nat.{ℕ, suc, ◌-◌, ◌^◌, ◌≤◌, ◌<◌}
use native.Mathlib.Omega.{arith}
use borrow.Author.Tests.{ltb-true}
use lib.Dec.{T}
use lib.IntN.{ℤ, pos, negsuc, nat_abs, ◌-ℤ◌}
use lib.Signed.{lt_z, non_neg}
use mir.Syntax.{w64}
use mir.Val.{SFits, Fits}
use Rattle.exact.proofs.Integers.{≡_in, -ℤ_law}

-- below zero: the size less one is −1 less the number
pub record Below (z : ℤ) : Type 0 where
  pub is : negsuc 0 -ℤ z ≡ pos (nat_abs z - 1)
  pub fits : SFits w64 (pos (nat_abs z - 1))
  pub some : 1 ≤ nat_abs z
  pub within : nat_abs z ≤ 2 ^ 63

pub below_zero : (z : ℤ) → SFits w64 z → lt_z z (pos 0) ≡ true → Below z
below_zero (pos n) f t = absurd (none n (ltb-true n 0 t))
  where
    none : (n : ℕ) → n < 0 → ⊥
    none n h = omega arith
below_zero (negsuc n) f t =
    let k = f.sfits in
    record {
      is = ≡_in (negsuc 0 -ℤ negsuc n) (pos (suc n - 1)) (omega (arith, -ℤ_law (negsuc 0) (negsuc n)));
      fits = record { sfits = omega arith };
      some = omega arith;
      within = omega arith;
    }

-- from zero up: the number as it stands
pub from_zero : (z : ℤ) → SFits w64 z → lt_z z (pos 0) ≡ false → T (non_neg z) × Fits w64 (nat_abs z)
from_zero (pos n) f t = (tt, record { fits = omega (arith, f.sfits) })
from_zero (negsuc n) f t = absurd (subst T t tt)
