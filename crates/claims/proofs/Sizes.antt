-- A row whose words 2 to 6 are bounded and whose verdict is a number up to 255 is of the sizes of specs/Sizes.antt; and such a
-- verdict is at most 255 in size. Assumes nothing.
use Prim.Native.Nat.{ℕ, ◌≤◌}
use native.Mathlib.Omega.{arith}
use lib.IntN.{ℤ, pos, negsuc, nat_abs}
use lib.Signed.{◌≤ℤ◌}
use Rattle.exact.proofs.Integers.{≤ℤ_in, ≤ℤ_out}
use Rattle.claims.specs.Sizes.{greatest_size, Sized}

pub sized : (w2 w3 w4 w5 w6 : ℤ) (v : ℕ) → nat_abs w2 ≤ greatest_size → nat_abs w3 ≤ greatest_size → nat_abs w4 ≤ greatest_size → nat_abs w5 ≤ greatest_size →
    nat_abs w6 ≤ greatest_size → v ≤ 255 → Sized (record { word2 = w2; word3 = w3; word4 = w4; word5 = w5; word6 = w6; verdict = pos v })
sized w2 w3 w4 w5 w6 v h2 h3 h4 h5 h6 h =
    record {
      word2 = h2;
      word3 = h3;
      word4 = h4;
      word5 = h5;
      word6 = h6;
      verdict_least = ≤ℤ_in (pos 0) (pos v) (omega arith);
      verdict_greatest = ≤ℤ_in (pos v) (pos 255) (omega arith);
    }

pub verdict_size : (v : ℤ) → pos 0 ≤ℤ v → v ≤ℤ pos 255 → nat_abs v ≤ 255
verdict_size (pos n) h k = omega (arith, ≤ℤ_out k)
verdict_size (negsuc n) h k = absurd h.le
