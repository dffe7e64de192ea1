-- The smaller of two fractions, and the bounds of the coefficient for operands in range: a positive denominator, a numerator
-- up to 2·10¹⁰, a denominator up to 10¹⁰, never above q/100, and the bounds of its products. Assumes nothing.
use mathlib.Core.Path.{◌≡◌, refl, ap}
use mathlib.Core.Bool.{Bool, true, false, cond}
use Prim.Native.Nat.{ℕ, ◌*◌, ◌≤◌, ◌<◌}
use native.Mathlib.Omega.{arith}
use native.Mathlib.Nat.{mul-le-mul}
use lib.Dec.{eqb}
use borrow.Author.Tests.{leb-true, leb-false, eqb-false, le-leb, lt-leb, ne_eqb}
use Rattle.exact.specs.Fraction.{Fraction, Proper, whole, ratio, le_f, smaller, up_f, ◌≤F◌, ◌<F◌, ◌*F◌}
use Rattle.exact.proofs.Multiply.{◌·◌}
use Rattle.exact.proofs.Rounding.{up_le_of}
use Rattle.coefficient.specs.declared.Quotient.{Quotient}
use Rattle.coefficient.specs.Coefficient.{coefficient_of, fraction, CoefficientRange, ProductFits, Capped}

-- a claim of both is a claim of the smaller
pub smaller_either : (x y : Fraction) (P : Fraction → Type 0) → P x → P y → P (smaller x y)
unfolding smaller
smaller_either x y P a b = by (le_f x y)
  where
    by : (t : Bool) → P (cond t x y)
    by true = a
    by false = b

pub smaller_first : (x y : Fraction) → x ≤F y → smaller x y ≡ x
unfolding smaller
smaller_first x y h = rw (le-leb (x.num * y.den) (y.num * x.den) h)

pub smaller_second : (x y : Fraction) → y <F x → smaller x y ≡ y
unfolding smaller
smaller_second x y h = rw (lt-leb (x.num * y.den) (y.num * x.den) h)

-- it is at most either
pub smaller_≤_second : (x y : Fraction) → smaller x y ≤F y
unfolding smaller
smaller_≤_second x y = by (le_f x y) refl
  where
    by : (t : Bool) → le_f x y ≡ t → cond t x y ≤F y
    by true e = leb-true (x.num * y.den) (y.num * x.den) e
    by false e = omega arith

pub smaller_≤_first : (x y : Fraction) → smaller x y ≤F x
unfolding smaller
smaller_≤_first x y = by (le_f x y) refl
  where
    by : (t : Bool) → le_f x y ≡ t → cond t x y ≤F x
    by true e = omega arith
    by false e = omega (arith, leb-false (x.num * y.den) (y.num * x.den) e)

-- ---- the coefficient

pub coefficient_zero : (g R q : ℕ) → coefficient_of g R 0 q ≡ ratio q 100
unfolding coefficient_of
coefficient_zero g R q = refl

pub coefficient_else : (g R E q : ℕ) → (E ≡ 0 → ⊥) → coefficient_of g R E q ≡ smaller (ratio (g * R) (100 * E)) (ratio q 100)
unfolding coefficient_of
coefficient_else g R E q h = rw (ne_eqb E 0 h)

-- a claim of both forms is a claim of the coefficient
pub coefficient_either : (g R E q : ℕ) (P : Fraction → Type 0) → ((E ≡ 0 → ⊥) → P (ratio (g * R) (100 * E))) → P (ratio q 100) → P (coefficient_of g R E q)
unfolding coefficient_of
coefficient_either g R E q P a b = by (eqb E 0) refl
  where
    by : (t : Bool) → eqb E 0 ≡ t → P (cond t (ratio q 100) (smaller (ratio (g * R) (100 * E)) (ratio q 100)))
    by true e = b
    by false e = smaller_either (ratio (g * R) (100 * E)) (ratio q 100) P (a (eqb-false E 0 e)) b

pub proper : (g R E q : ℕ) → Proper (coefficient_of g R E q)
proper g R E q = coefficient_either g R E q Proper (λ h. omega arith) (omega arith)

-- a ≤ q/100
pub capped : (g R E q : ℕ) → coefficient_of g R E q ≤F ratio q 100
unfolding coefficient_of
capped g R E q = by (eqb E 0)
  where
    by : (t : Bool) → cond t (ratio q 100) (smaller (ratio (g * R) (100 * E)) (ratio q 100)) ≤F ratio q 100
    by true = omega arith
    by false = smaller_≤_second (ratio (g * R) (100 * E)) (ratio q 100)

pub num_le : (g R E q : ℕ) → CoefficientRange g R E q → (coefficient_of g R E q).num ≤ 20000000000
num_le g R E q h = coefficient_either g R E q (λ x. x.num ≤ 20000000000) (λ k. omega (arith, mul-le-mul h.overstrength h.resistance)) (omega (arith, h.behaviour))

pub den_le : (g R E q : ℕ) → CoefficientRange g R E q → (coefficient_of g R E q).den ≤ 10000000000
den_le g R E q h = coefficient_either g R E q (λ x. x.den ≤ 10000000000) (λ k. omega (arith, h.seismic)) (omega arith)

-- q is at most 400, so a is at most 4, and a·x up at most 4·x
pub cap_le : (g R E q : ℕ) → q ≤ 400 → (coefficient_of g R E q).num ≤ 4 * (coefficient_of g R E q).den
cap_le g R E q h = let a = coefficient_of g R E q in omega (arith, capped g R E q, h · a.den)

pub product_le : (g R E q x : ℕ) → q ≤ 400 → up_f (coefficient_of g R E q *F whole x) ≤ 4 * x
product_le g R E q x h =
    let a = coefficient_of g R E q in
    up_le_of (a.num * x) (a.den * 1) (4 * x) (omega (arith, proper g R E q)) (omega (arith, cap_le g R E q h · x))

-- a·x fits 64 bits
pub product_fits : (a : Quotient) (x : ℕ) → a.num ≤ 20000000000 → 0 < a.den → x ≤ 100000000 → ProductFits a x
product_fits a x n d h = record { fits = omega (arith, mul-le-mul n h); positive = d }

pub coefficient_fits : {g R E q x : ℕ} {a : Quotient} → fraction a ≡ coefficient_of g R E q → CoefficientRange g R E q → x ≤ 100000000 → ProductFits a x
coefficient_fits {g} {R} {E} {q} {x} {a} e r h =
    product_fits a x (omega (arith, ap (λ (f : Fraction). f.num) e, num_le g R E q r)) (omega (arith, ap (λ (f : Fraction). f.den) e, proper g R E q)) h

-- all these bounds of a coefficient
pub coefficient_capped : {g R E q : ℕ} (a : Quotient) → fraction a ≡ coefficient_of g R E q → CoefficientRange g R E q → Capped a
coefficient_capped {g} {R} {E} {q} a e r =
    let n = ap (λ (x : Fraction). x.num) e in
    let d = ap (λ (x : Fraction). x.den) e in
    record {
      positive = omega (arith, d, proper g R E q);
      num = omega (arith, n, num_le g R E q r);
      den = omega (arith, d, den_le g R E q r);
      cap = omega (arith, n, d, cap_le g R E q r.behaviour);
    }
