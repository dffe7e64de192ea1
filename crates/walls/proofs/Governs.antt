-- What word 6 of a wall base tells: the laws of specs/Governs.antt, for all operands. Assumes nothing.
use mathlib.Core.Path.{◌≡◌, ap}
use mathlib.Core.Bool.{Bool}
use mathlib.Core.Logic.{◌⊎◌}
use Prim.Native.Nat.{ℕ}
use lib.IntN.{ℤ, pos}
use Rattle.exact.specs.Fraction.{Fraction, ◌<F◌}
use Rattle.coefficient.proofs.Governs.{coefficient_tells}
use Rattle.claims.specs.Verdict.{flag}
use Rattle.claims.proofs.Told.{tells, is_one, zero_of}
use Rattle.walls.specs.declared.WallBase.{WallBase}
use Rattle.walls.specs.Base.{wall_coefficient, wall_governed, base_row_from, base_row}
use Rattle.walls.specs.Governs.{wall_term, wall_cap, shear_of, BaseTells}

pub base_tells : (q : ℕ) (b : WallBase) → BaseTells q b
unfolding base_row base_row_from
base_tells q b =
    let t = coefficient_tells 130 b.resistance b.moment q in
    let g = wall_governed q b in
    let rounded : Fraction → ℤ = λ a. pos (shear_of b a) in
    record {
      tells =
          tells g ((b.moment ≡ 0) ⊎ (wall_cap q <F wall_term b)) (rounded (wall_coefficient q b)) (rounded (wall_cap q)) (rounded (wall_term b)) t.strictly.0 t.strictly.1
          (λ e. ap rounded (t.set e)) (λ e. ap rounded (t.clear e));
      equal = λ n e. zero_of g (t.equal n e);
      held = λ e d w.
          let k = t.greater (is_one g e) d.resistance w.resistance in
          rw (w.moment, w.shear) (ap rounded k.0, ap (λ (x : Bool). pos (flag 1 x)) k.1);
      exact = t;
    }
