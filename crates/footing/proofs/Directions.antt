-- The coefficient of a footing in range, and what N at least 20,000 says of the unrounded N. Assumes nothing.
use mathlib.Core.Path.{◌≡◌, refl, sym, subst}
use mathlib.Core.Bool.{true}
use Prim.Native.Nat.{ℕ, ◌+◌, ◌*◌, ◌≤◌, ◌<◌}
use native.Mathlib.Omega.{arith}
use lib.Dec.{T}
use lib.IntN.{ℤ, pos, negsuc, sub_ℕ, nat_abs}
use lib.Signed.{le_z}
use borrow.Author.Tests.{leb-true}
use Rattle.exact.specs.Quotient.{up}
use Rattle.exact.specs.Fraction.{Fraction, Proper, up_f}
use Rattle.exact.specs.SignedFraction.{SignedFraction, ProperS, size, positive, down_s}
use Rattle.exact.proofs.Multiply.{◌·◌}
use Rattle.exact.proofs.Integers.{sub_ℕ_law}
use Rattle.exact.proofs.Rounding.{up_le_of, down_ℤ_le, down_ℤ_lt}
use Rattle.coefficient.specs.declared.Quotient.{Quotient}
use Rattle.coefficient.specs.declared.Settings.{Settings}
use Rattle.coefficient.specs.Coefficient.{fraction, CoefficientRange, Capped}
use Rattle.coefficient.proofs.Bounds.{coefficient_capped}
use Rattle.actions.specs.declared.Sign.{Sign}
use Rattle.actions.specs.Action.{action}
use Rattle.actions.specs.Ranges.{ActionRange}
use Rattle.actions.proofs.Sums.{size_le, down_size_le}
use Rattle.footing.specs.declared.Footing.{Footing}
use Rattle.footing.specs.Actions.{footing_coefficient}
use Rattle.footing.specs.Rows.{FootingRange}

pub coefficient_range : (s : Settings) (f : Footing) → FootingRange s f → CoefficientRange s.foundations f.resistance f.moment s.behaviour
coefficient_range s f r = record { overstrength = r.foundations; resistance = r.resistance; seismic = r.moment; behaviour = r.behaviour }

-- the coefficient of a footing in range
pub capped_coefficient : (s : Settings) (f : Footing) (a : Quotient) → FootingRange s f → fraction a ≡ footing_coefficient s f → Capped a
capped_coefficient s f a r e = coefficient_capped a e (coefficient_range s f r)

module _ (s : Settings) (f : Footing) (r : FootingRange s f) where
  -- V and E of an action, with a as the functions have it
  pub action_range : (a : Quotient) → fraction a ≡ footing_coefficient s f → (v e : ℤ) → nat_abs v ≤ 100000000 → nat_abs e ≤ 100000000 → ActionRange a v e
  action_range a is v e h k = record { coefficient = capped_coefficient s f a r is; steady = h; seismic = k }

  range : (v e : ℤ) → nat_abs v ≤ 100000000 → nat_abs e ≤ 100000000 → ActionRange (record { num = (footing_coefficient s f).num; den = (footing_coefficient s f).den }) v e
  range v e h k = action_range _ refl v e h k

  pub size_bound : (sign : Sign) (v e : ℤ) → nat_abs v ≤ 100000000 → nat_abs e ≤ 100000000 → up_f (size (action sign (footing_coefficient s f) v e)) ≤ 500000000
  size_bound sign v e h k = size_le sign _ v e (range v e h k)

  pub down_bound : (sign : Sign) (v e : ℤ) → nat_abs v ≤ 100000000 → nat_abs e ≤ 100000000 → nat_abs (down_s (action sign (footing_coefficient s f) v e)) ≤ 500000000
  down_bound sign v e h k = down_size_le sign _ v e (range v e h k)

-- ---- N at least 20,000

-- the unrounded force n against the reported one, N
pub record Force (N : ℕ) (n : Fraction) : Type 0 where
  pub proper : Proper n
  pub least : 20000 ≤ N
  pub low : N * n.den ≤ n.num
  pub high : n.num < N * n.den + n.den

pub record Heavy (x : SignedFraction) : Type 0 where
  pub is : down_s x ≡ pos (nat_abs (down_s x))
  pub force : Force (nat_abs (down_s x)) (positive x)

pub heavy : (x : SignedFraction) → ProperS x → le_z (pos 20000) (down_s x) ≡ true → Heavy x
heavy x p h = by (down_s x) refl h
  where
    t : ℤ
    t = sub_ℕ x.plus x.minus

    by : (z : ℤ) → down_s x ≡ z → le_z (pos 20000) z ≡ true → Heavy x
    by (pos n) e h =
        let l = leb-true 20000 n h in
        let low = rw e at (down_ℤ_le t x.den p) in
        let high = rw e at (down_ℤ_lt t x.den p) in
        let law = sub_ℕ_law x.plus x.minus in
        record { is = rw e; force = rw e (record { proper = p; least = l; low = omega arith; high = omega (arith, l · x.den) }) }
    by (negsuc n) e h = absurd (subst T (sym h) tt)

-- 1000·X/N up, for X at most 5·10⁸
pub eccentricity_le : (x n : ℕ) → 20000 ≤ n → x ≤ 500000000 → up (1000 * x) n ≤ 25000000
eccentricity_le x n h k = up_le_of (1000 * x) n 25000000 (omega arith) (omega arith)
