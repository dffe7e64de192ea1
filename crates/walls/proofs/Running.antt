-- The running values of a wall: those of every base in range are in range, the rows made from them are the rows of their base, and
-- a storey's row is the same where they are. Assumes nothing.
use mathlib.Core.Path.{◌≡◌, refl, ap}
use Prim.Native.Nat.{ℕ, ◌*◌, ◌≤◌, ◌<◌}
use native.Mathlib.Omega.{arith}
use Rattle.exact.specs.Fraction.{Fraction, Proper, whole, up_f, ◌*F◌, ◌≈F◌}
use Rattle.exact.proofs.Rounding.{up_same}
use Rattle.coefficient.specs.declared.Limited.{Limited}
use Rattle.coefficient.specs.Coefficient.{fraction, CoefficientRange}
use Rattle.coefficient.proofs.Bounds.{product_le, coefficient_capped}
use Rattle.walls.specs.declared.Wall.{Wall}
use Rattle.walls.specs.declared.WallBase.{WallBase}
use Rattle.walls.specs.declared.Storey.{Storey}
use Rattle.walls.specs.Base.{wall_coefficient, wall_governed, base_shear, base_row_from, base_row, WallBaseRange}
use Rattle.walls.specs.Storey.{storey_row_from, storey_row}
use Rattle.walls.specs.Running.{wall_of, WallRange, SameValues}

-- ---- ranges

pub coefficient_range : (q : ℕ) (b : WallBase) → WallBaseRange q b → CoefficientRange 130 b.resistance b.moment q
coefficient_range q b r =
    record { overstrength = omega arith; resistance = r.resistance; seismic = r.moment; behaviour = r.behaviour }

pub base_shear_le : (q : ℕ) (b : WallBase) → WallBaseRange q b → base_shear q b ≤ 400000000
base_shear_le q b r = omega (arith, product_le 130 b.resistance b.moment q b.shear r.behaviour, r.shear)

pub wall_of_range : (q : ℕ) (b : WallBase) → WallBaseRange q b → WallRange (wall_of q b)
unfolding wall_of
wall_of_range q b r =
    record {
      coefficient = coefficient_capped _ refl (coefficient_range q b r);
      shear = base_shear_le q b r;
      resistance = r.resistance;
    }

-- ---- values and rows

-- the running values are those of the base, from the coefficient and its product
pub wall_is : (q : ℕ) (b : WallBase) (a : Limited) (v : ℕ) → fraction a.value ≡ wall_coefficient q b → a.governs ≡ wall_governed q b →
    v ≡ up_f (fraction a.value *F whole b.shear) →
    ◌≡◌ {A = Wall} (record { coefficient = a.value; shear = v; resistance = b.resistance; governs = a.governs }) (wall_of q b)
unfolding wall_of
wall_is q b a v e g f = rw (f, g) (ap made e)
  where
    made : Fraction → Wall
    made x =
        record {
          coefficient = record { num = x.num; den = x.den };
          shear = up_f (x *F whole b.shear);
          resistance = b.resistance;
          governs = wall_governed q b;
        }

pub base_row_of : (q : ℕ) (b : WallBase) → base_row_from (fraction (wall_of q b).coefficient) (wall_of q b).shear (wall_of q b).governs b ≡ base_row q b
unfolding wall_of base_row base_row_from
base_row_of q b = refl

pub storey_row_of : (q : ℕ) (b : WallBase) (s : Storey) →
    storey_row_from (fraction (wall_of q b).coefficient) (wall_of q b).shear (wall_of q b).resistance s ≡ storey_row q b s
unfolding wall_of storey_row storey_row_from
storey_row_of q b s = refl

-- ---- a storey's row comes from the running values and its operands alone

-- a·x up, from a as a number
product_same : (a b : Fraction) (x : ℕ) → Proper a → Proper b → a ≈F b → up_f (a *F whole x) ≡ up_f (b *F whole x)
product_same a b x p q h = up_same (a *F whole x) (b *F whole x) (omega arith) (omega arith) (omega (arith, ap (λ (n : ℕ). n * x) h))

-- 02, No. 4: "Words 2 to 7 of a storey come from these, MR and its operands alone"
pub same_storey_row : (w v : Wall) → 0 < w.coefficient.den → 0 < v.coefficient.den → SameValues w v → (s : Storey) →
    storey_row_from (fraction w.coefficient) w.shear w.resistance s ≡ storey_row_from (fraction v.coefficient) v.shear v.resistance s
unfolding storey_row_from
same_storey_row w v p q e s =
    let a = fraction w.coefficient in
    let b = fraction v.coefficient in
    rw (product_same a b s.shear p q e.coefficient, product_same a b s.moment p q e.coefficient, e.shear, e.resistance)
