-- The claims of a detail's row hold: xu·mu is its own exact value. Assumes nothing.
use mathlib.Core.Logic.{inl}
use mathlib.Core.Path.{refl, ap}
use mathlib.Core.List.{List, [], ◌∷◌}
use mathlib.Core.Bool.{false, ◌&&◌}
use Prim.Native.Nat.{ℕ}
use native.Mathlib.Omega.{arith}
use lib.Dec.{ltb, eqb}
use lib.IntN.{pos}
use Rattle.exact.specs.Fraction.{whole}
use Rattle.exact.specs.SignedFraction.{whole_s}
use Rattle.claims.specs.Exact.{value}
use Rattle.claims.specs.Claims.{Check, CheckHolds, Hold, plain, operand, check}
use Rattle.claims.proofs.Rounded.{operand_strength}
use Rattle.members.specs.declared.Detail.{Detail}
use Rattle.members.specs.Detail.{detail_demand, detail_limit, detail_row, detail_claims, DetailRange}
use Rattle.claims.proofs.Bits.{flags, holds, none_raised, one_raised, not_below_ℕ}

-- a whole number that is its own exact value, against a strength
whole_check : (n s : ℕ) → CheckHolds (check 32 (plain (pos n) (value (whole_s (pos n))) (whole 0)) (operand (pos s) s))
whole_check n s =
    record {
      demand = record { proper = omega arith; proper_amount = omega arith; not_below = omega arith; excess = λ g. inl (λ y p k. k) };
      strength = operand_strength (pos s);
      safe = λ h. h;
      clear = λ h. omega arith;
    }

pub detail_holds : (d : Detail) → DetailRange d → Hold (detail_claims d (detail_row d))
unfolding detail_claims detail_row
detail_holds d r =
    let n = detail_demand d in
    let s = detail_limit d in
    let k : Check = check 32 (plain (pos n) (value (whole_s (pos n))) (whole 0)) (operand (pos s) s) in
    let t = ltb s n in
    let ks : List Check = k ∷ [] in
    holds (detail_claims d (detail_row d)) (flags false false false false false t (eqb d.place 2 && eqb d.lap 1) false) (ap pos (omega arith)) tt (whole_check n s, tt)
    (none_raised 1 ks tt) (none_raised 2 ks tt) (none_raised 4 ks tt) (none_raised 8 ks tt)
    (one_raised 32 k [] t refl tt (not_below_ℕ s n))
