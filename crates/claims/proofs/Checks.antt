-- The claims of a check and of a verdict bit from those of its demand and its strength. Assumes nothing.
use mathlib.Core.Logic.{◌⊎◌, inl, inr}
use mathlib.Core.Bool.{Bool, true, false}
use Prim.Native.Nat.{ℕ, ◌+◌, ◌*◌, ◌≤◌}
use native.Mathlib.Omega.{arith}
use Rattle.exact.specs.Fraction.{Fraction, Proper, ◌+F◌}
use Rattle.exact.specs.SignedFraction.{SignedFraction, ProperS, whole_s, signed, ◌≤S◌, ◌<S◌, ◌+S◌, ◌-S◌}
use Rattle.exact.proofs.Multiply.{◌·◌}
use Rattle.claims.specs.Exact.{Exact, at_least, ProperE}
use Rattle.claims.specs.Claims.{Demand, DemandHolds, ExcessUnder, StrengthHolds, Check, CheckHolds, Clear, within}
use Rattle.claims.proofs.Orders.{≤S_trans, ≤S_or, at_least_mono, pos_mul}

-- a demand whose excess stays under its amount
pub demand_holds : (d : Demand) → ProperE d.exact → Proper d.amount → at_least d.exact (whole_s d.reported) → (d.guard → ExcessUnder d) → DemandHolds d
demand_holds d p q n e = record { proper = p; proper_amount = q; not_below = n; excess = λ g. inr (e g) }

-- ---- the exact strength less both amounts is at most the reported demand less its own, where the demand reaches the strength

-- t ≤ r + b
shifted : (r t : SignedFraction) (a b : Fraction) → t ≤S (r +S signed b) → (t -S signed (a +F b)) ≤S (r -S signed a)
shifted r t a b l =
    omega (arith, numbers t.plus t.minus t.den r.plus r.minus r.den a.num a.den b.num b.den (omega (arith, l)))
  where
    numbers : (tp tm td rp rm rd an ad bn bd : ℕ) → tp * (rd * bd) + rm * bd * td ≤ (rp * bd + bn * rd) * td + tm * (rd * bd) →
        tp * (ad * bd) * (rd * ad) + (rm * ad + an * rd) * (td * (ad * bd)) ≤ rp * ad * (td * (ad * bd)) + (tm * (ad * bd) + (an * bd + bn * ad) * td) * (rd * ad)
    numbers tp tm td rp rm rd an ad bn bd l = omega (arith, l · (ad * ad))

module _ (r s t : SignedFraction) (a b : Fraction) (ps : ProperS s) (pb : Proper b) where
  -- t ≤ s ≤ r
  lowered : t ≤S s → s ≤S r → (t -S signed (a +F b)) ≤S (r -S signed a)
  lowered h k = let l = ≤S_trans t s r ps h k in omega (arith, l · (a.den * b.den * a.den))

  -- s ≤ r
  raised : s ≤S r → (s +S signed b) ≤S (r +S signed b)
  raised k = omega (arith, k · (b.den * b.den))

  -- t ≤ s + b, s ≤ r
  lowered_short : t ≤S (s +S signed b) → s ≤S r → (t -S signed (a +F b)) ≤S (r -S signed a)
  lowered_short h k =
      let l = ≤S_trans t (s +S signed b) (r +S signed b) (pos_mul ps pb) h (raised k) in
      shifted r t a b l

-- A check whose demand's excess stays under its amount, where the guard holds.
pub check_holds : (c : Check) → ProperE c.demand.exact → Proper c.demand.amount →
    at_least c.demand.exact (whole_s c.demand.reported) → (c.demand.guard → ExcessUnder c.demand) →
    StrengthHolds c.strength → (Clear c → c.demand.guard) → CheckHolds c
check_holds c pe pa below excess strength guard =
    record {
      demand = demand_holds c.demand pe pa below excess;
      strength = strength;
      safe = λ passes. at_least_mono e s t strength.proper_reported strength.not_above (at_least_mono e r s (omega arith) (reached c.strict passes) below);
      clear = λ clear. clears c.strict clear;
    }
  where
    e : Exact
    e = c.demand.exact

    r : SignedFraction
    r = whole_s c.demand.reported

    s : SignedFraction
    s = c.strength.reported

    t : SignedFraction
    t = c.strength.exact

    a : Fraction
    a = c.demand.amount

    b : Fraction
    b = c.strength.amount

    reached : (strict : Bool) → within strict r s → r ≤S s
    reached false h = h
    reached true h = omega arith

    lower : (t ≤S s) ⊎ (t <S (s +S signed b)) → s ≤S r → (t -S signed (a +F b)) ≤S (r -S signed a)
    lower (inl h) k = lowered r s t a b strength.proper_reported strength.proper_amount h k
    lower (inr h) k = lowered_short r s t a b strength.proper_reported strength.proper_amount (omega arith) k

    absurd_if : s ≤S r → Clear c → ⊥
    absurd_if k clear =
        excess (guard clear)
        (at_least_mono e (t -S signed (a +F b)) (r -S signed a) (pos_mul strength.proper (pos_mul pa strength.proper_amount)) (lower strength.short k) clear)

    clears : (strict : Bool) → Clear c → within strict r s
    clears false clear = decided (≤S_or r s)
      where
        decided : (r ≤S s) ⊎ (s <S r) → r ≤S s
        decided (inl h) = h
        decided (inr h) = absurd (absurd_if (omega arith) clear)
    clears true clear = decided (≤S_or s r)
      where
        decided : (s ≤S r) ⊎ (r <S s) → r <S s
        decided (inl h) = absurd (absurd_if h clear)
        decided (inr h) = h
