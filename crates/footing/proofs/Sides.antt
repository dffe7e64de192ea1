-- Bit 4 of a footing row is clear exactly when the checks of both sides pass, and the row's claims from those of its checks. Under
-- the exception of bit 4 that is 2ex < B and 2ey < L, which 3ex ≤ B and 3ey ≤ L give too, the sides being positive. Assumes nothing.
use mathlib.Core.Path.{◌≡◌, refl, sym, ap, ◌∙◌, subst}
use mathlib.Core.Bool.{Bool, true, false, ◌&&◌, not, cond, and-true, and-false}
use mathlib.Core.Logic.{◌↔◌}
use mathlib.Core.List.{List, [], ◌∷◌}
use Prim.Native.Nat.{ℕ, ◌+◌, ◌*◌, ◌≤◌, ◌<◌}
use native.Mathlib.Omega.{arith}
use lib.Dec.{T, ltb}
use lib.IntN.{pos}
use borrow.Author.Tests.{ltb-true, lt-ltb, not-false}
use Rattle.exact.specs.Fraction.{Fraction}
use Rattle.claims.specs.Verdict.{flag}
use Rattle.claims.specs.Claims.{Claims, Demand, Check, CheckHolds, Passes, Hold}
use Rattle.claims.proofs.Bits.{flags, holds, none_raised, one_raised, two_raised, other_raised, neither, at_most}
use Rattle.footing.specs.declared.Footing.{Footing}
use Rattle.footing.specs.Rows.{outside}
use Rattle.footing.specs.Claimed.{eccentricity_check, eccentricity_demand}

-- ---- bit 4's test

both_true : (x y : Bool) → (x && y) ≡ true → (x ≡ true) × (y ≡ true)
both_true true y h = (refl, h)
both_true false y h = absurd (subst T (sym h) tt)

-- n·ex ≤ B and n·ey ≤ L
within : (n : ℕ) (f : Footing) (ex ey : ℕ) → (outside n f ex ey ≡ false) ↔ ((n * ex ≤ f.breadth) × (n * ey ≤ f.length))
within n f ex ey =
    neither (ltb f.breadth (n * ex)) (ltb f.length (n * ey)) (at_most f.breadth (n * ex)) (at_most f.length (n * ey))

-- 2ex < B and 2ey < L
abbrev halves : Footing → ℕ → ℕ → Bool
halves f ex ey = ltb (2 * ex) f.breadth && ltb (2 * ey) f.length

-- bit 4 of specs/Rows.antt, at a value of the exception
abbrev off : Bool → Bool → Footing → ℕ → ℕ → Bool
off sensitive excepted f ex ey =
    cond sensitive (outside 4 f ex ey) (outside 3 f ex ey && not (excepted && ltb (2 * ex) f.breadth && ltb (2 * ey) f.length))

-- the check of one side, whatever the exact eccentricity u
abbrev sided : Bool → Bool → ℕ → Fraction → ℕ → Check
sided sensitive excepted e u side = eccentricity_check sensitive excepted (eccentricity_demand (pos e) u side) side

pub bit_4 : (sensitive excepted : Bool) (d : Demand) (side : ℕ) → (eccentricity_check sensitive excepted d side).bit ≡ 4
bit_4 true excepted d side = refl
bit_4 false true d side = refl
bit_4 false false d side = refl

-- both checks of bit 4 pass
abbrev Both : Footing → ℕ → ℕ → Fraction → Fraction → Bool → Bool → Type 0
Both f ex ey u w sensitive excepted = Passes (sided sensitive excepted ex u f.breadth) × Passes (sided sensitive excepted ey w f.length)

module _ (f : Footing) (ex ey : ℕ) (u w : Fraction) (pb : 0 < f.breadth) (pl : 0 < f.length) where
  -- under the exception
  excepted_in : off false true f ex ey ≡ false → (2 * ex < f.breadth) × (2 * ey < f.length)
  excepted_in h = by (outside 3 f ex ey) refl h
    where
      by : (o : Bool) → outside 3 f ex ey ≡ o → (o && not (halves f ex ey)) ≡ false → (2 * ex < f.breadth) × (2 * ey < f.length)
      by false e k = let i = (within 3 f ex ey).0 e in (omega (arith, i.0), omega (arith, i.1))
      by true e k =
          let i = both_true (ltb (2 * ex) f.breadth) (ltb (2 * ey) f.length) (not-false (halves f ex ey) k) in
          (ltb-true (2 * ex) f.breadth i.0, ltb-true (2 * ey) f.length i.1)

  excepted_out : 2 * ex < f.breadth → 2 * ey < f.length → off false true f ex ey ≡ false
  excepted_out h k = rw (lt-ltb (2 * ex) f.breadth h, lt-ltb (2 * ey) f.length k) (and-false (outside 3 f ex ey))

  pub clear_4 : (sensitive excepted : Bool) → (off sensitive excepted f ex ey ≡ false) ↔ Both f ex ey u w sensitive excepted
  clear_4 true excepted = (
    λ h. let i = (within 4 f ex ey).0 h in (omega (arith, i.0), omega (arith, i.1)),
    λ p. (within 4 f ex ey).1 (omega (arith, p.0), omega (arith, p.1)),
  )
  clear_4 false true = (
    λ h. let i = excepted_in h in (omega (arith, i.0), omega (arith, i.1)),
    λ p. excepted_out (omega (arith, p.0)) (omega (arith, p.1)),
  )
  clear_4 false false = (
    λ h. let i = (within 3 f ex ey).0 (sym (and-true (outside 3 f ex ey)) ∙ h) in (omega (arith, i.0), omega (arith, i.1)),
    λ p. and-true (outside 3 f ex ey) ∙ (within 3 f ex ey).1 (omega (arith, p.0), omega (arith, p.1)),
  )

-- ---- three checks under bits 4, 4 and 8

abbrev claimed : Check → Check → Check → Bool → Bool → Claims
claimed c1 c2 c3 e r = record { demands = []; checks = c1 ∷ c2 ∷ c3 ∷ []; verdict = pos (flag 4 e + flag 8 r) }

pub three_hold : (c1 c2 c3 : Check) (e r : Bool) → c1.bit ≡ 4 → c2.bit ≡ 4 → c3.bit ≡ 8 → (e ≡ false) ↔ (Passes c1 × Passes c2) → (r ≡ false) ↔ Passes c3 →
    CheckHolds c1 → CheckHolds c2 → CheckHolds c3 → Hold (claimed c1 c2 c3 e r)
three_hold c1 c2 c3 e r b1 b2 b3 i j h1 h2 h3 =
    let ks : List Check = c1 ∷ c2 ∷ c3 ∷ [] in
    holds (claimed c1 c2 c3 e r) (flags false false e r false false false false) (ap pos (omega arith)) tt (h1, (h2, (h3, tt)))
    (none_raised 1 ks (rw (b1, b2, b3) tt)) (none_raised 2 ks (rw (b1, b2, b3) tt))
    (two_raised 4 c1 c2 (c3 ∷ []) e b1 b2 (rw b3 tt) i)
    (other_raised 8 c1 (c2 ∷ c3 ∷ []) r (λ k. omega (arith, b1, k)) (other_raised 8 c2 (c3 ∷ []) r (λ k. omega (arith, b2, k)) (one_raised 8 c3 [] r b3 tt j)))
    (none_raised 32 ks (rw (b1, b2, b3) tt))
