-- What the contact changes in a footing's rows: the laws of specs/Contact.antt, for all operands. Assumes nothing.
use mathlib.Core.Path.{◌≡◌, refl, sym, ap, subst}
use mathlib.Core.Bool.{Bool, true, false, ◌&&◌}
use mathlib.Core.Logic.{◌⊎◌, inl, inr}
use Prim.Native.Nat.{ℕ, ◌+◌, ◌*◌, ◌/◌, ◌%◌, ◌≤◌}
use native.Mathlib.Omega.{arith}
use lib.Dec.{ltb}
use lib.IntN.{ℤ, pos, nat_abs, ◌+ℤ◌}
use lib.Signed.{le_z, ◌≤ℤ◌}
use borrow.Author.Tests.{eqb-false, eq-eqb, ltb-true, ltb-false}
use Rattle.exact.specs.Quotient.{down}
use Rattle.exact.specs.Fraction.{Fraction, ratio, up_f, ◌+F◌, ◌≤F◌, ◌≈F◌}
use Rattle.exact.specs.SignedFraction.{size, down_s}
use Rattle.exact.proofs.Integers.{≤ℤ_in}
use Rattle.exact.proofs.Multiply.{◌·◌}
use Rattle.exact.proofs.Rounding.{down_le}
use Rattle.soil.specs.declared.Soil.{Soil}
use Rattle.soil.specs.declared.Soil.TheVariants.{Granular, Cohesive}
use Rattle.coefficient.specs.declared.Settings.{Settings}
use Rattle.claims.specs.declared.Row.{Row}
use Rattle.claims.specs.Verdict.{flag}
use Rattle.claims.specs.Claims.{BitClear}
use Rattle.actions.specs.declared.Sign.{Sign}
use Rattle.footing.specs.declared.Footing.{Footing}
use Rattle.footing.specs.Flags.{bit_set, contact, counted_thrust}
use Rattle.footing.specs.Actions.{footing_coefficient, normal, moment_b, moment_l, horizontal}
use Rattle.footing.specs.Rows.{footing_row, eccentricity, sliding_resistance, eccentric}
use Rattle.footing.specs.Claimed.{exact_base}
use Rattle.footing.specs.Contact.{resistance_with, given, with_contact, ResistsWith, LosesBit8, ResistanceAlone, Counted, Declares}
use Rattle.footing.proofs.Rows.{heavy_of, heavy_is, light_is, is_heavy}

-- ---- the thrust that counts

counts : (f : Footing) → contact f ≡ true → counted_thrust f ≡ f.passive
counts f e = rw e

counts_not : (f : Footing) → contact f ≡ false → counted_thrust f ≡ 0
counts_not f e = rw e

-- two fifths of nothing added to a fraction
adds_nothing : (x : Fraction) (P : ℕ) → P ≡ 0 → (x +F ratio (2 * P) 5) ≈F x
adds_nothing x P e = rw e (omega arith)

-- two fifths of a greater thrust
adds_more : (x : Fraction) (P Q : ℕ) → P ≤ Q → (x +F ratio (2 * P) 5) ≤F (x +F ratio (2 * Q) 5)
adds_more x P Q h = omega (arith, h · (x.den * x.den))

-- ---- R with the contact and without it

module _ (s : Settings) (f : Footing) (soil : Soil) (sensitive : Bool) (sign : Sign) where
  -- R with the P that counts
  resists : (P : ℕ) → counted_thrust f ≡ P → ResistsWith P f soil (footing_row s f soil sensitive sign)
  resists P e h =
      subst (λ (row : Row). row.word6 ≡ pos (resistance_with P f soil row)) (sym (heavy_is s f soil sensitive sign (is_heavy s f soil sensitive sign h)))
      (ap (λ (k : ℕ). pos (resistance_with k f soil (heavy_of s f soil sensitive sign))) e)

  any_thrust : contact f ≡ false → (P : ℕ) → footing_row s (given P f.flags f) soil sensitive sign ≡ footing_row s f soil sensitive sign
  unfolding footing_row
  any_thrust e P = rw e

  pub counted : Counted s f soil sensitive sign
  counted =
      record {
        undeclared = λ e. resists 0 (counts_not f e);
        exact_undeclared = λ e. adds_nothing (exact_base s f soil sign) (counted_thrust f) (counts_not f e);
        any_thrust = any_thrust;
        declared = λ e. resists f.passive (counts f e);
        exact_declared = λ e. ap (λ (k : ℕ). exact_base s f soil sign +F ratio (2 * k) 5) (counts f e);
      }

-- ---- an author sets the bit

set_after : (n : ℕ) → bit_set 4 n ≡ false → bit_set 4 (n + 4) ≡ true
set_after n e = eq-eqb ((n + 4) / 4 % 2) 1 (by (eqb-false (n / 4 % 2) 1 e))
  where
    by : (n / 4 % 2 ≡ 1 → ⊥) → (n + 4) / 4 % 2 ≡ 1
    by h = omega (arith, h)

both_stay : (n : ℕ) → (bit_set 1 (n + 4) && bit_set 2 (n + 4)) ≡ (bit_set 1 n && bit_set 2 n)
both_stay n =
    let low : (n + 4) / 1 % 2 ≡ n / 1 % 2 = omega arith in
    let high : (n + 4) / 2 % 2 ≡ n / 2 % 2 = omega arith in
    rw (low, high)

-- bits 4 and 8 of a row, H being against R
abbrev verdict : Bool → ℕ → ℕ → ℤ
verdict e R h = pos (flag 4 e + flag 8 (ltb R h))

bit_8 : (e : Bool) (R S h : ℕ) → R ≤ S → (verdict e S h ≡ verdict e R h) ⊎ LosesBit8 (verdict e R h) (verdict e S h)
bit_8 e R S h l = by (ltb R h) refl (ltb S h) refl
  where
    clear : (t : Bool) → BitClear 8 (pos (flag 4 t + 0))
    clear true = refl
    clear false = refl

    by : (x : Bool) → ltb R h ≡ x → (y : Bool) → ltb S h ≡ y →
        (pos (flag 4 e + flag 8 y) ≡ pos (flag 4 e + flag 8 x)) ⊎ LosesBit8 (pos (flag 4 e + flag 8 x)) (pos (flag 4 e + flag 8 y))
    by true p true q = inl refl
    by false p false q = inl refl
    by true p false q = inr (clear e, ap pos (omega arith))
    by false p true q = absurd (omega (arith, ltb-false R h p, ltb-true S h q, l))

-- the exact base resistance does not depend on P or the flags
same_base : (s : Settings) (f : Footing) (P flags : ℕ) (soil : Soil) (sign : Sign) → exact_base s (given P flags f) soil sign ≡ exact_base s f soil sign
same_base s f P flags (Granular x) sign = refl
same_base s f P flags (Cohesive x) sign = refl

-- a row that stays, as that with N below 20,000
unchanged : (r : Row) → ResistanceAlone r r
unchanged r =
    record {
      normal = refl;
      along_breadth = refl;
      along_length = refl;
      horizontal = refl;
      resistance = ≤ℤ_in r.word6 r.word6 (omega arith);
      verdict = inl refl;
    }

module _ (s : Settings) (f : Footing) (soil : Soil) (sensitive : Bool) (sign : Sign) (e : contact f ≡ false) where
  -- R grows by two fifths of P
  more : (ex ey n : ℕ) → sliding_resistance (with_contact f) soil ex ey n ≡ sliding_resistance f soil ex ey n + down (2 * f.passive) 5
  more ex ey n = rw (counts (with_contact f) (set_after f.flags e)) (omega (arith, counts_not f e, down_le (2 * counted_thrust f) 5))

  heavy_rows : ResistanceAlone (heavy_of s f soil sensitive sign) (heavy_of s (with_contact f) soil sensitive sign)
  heavy_rows =
      let n = nat_abs (down_s (normal s f sign)) in
      let ex = eccentricity (up_f (size (moment_b s f sign))) n in
      let ey = eccentricity (up_f (size (moment_l s f sign))) n in
      let h = up_f (size (horizontal s f sign)) in
      let R = sliding_resistance f soil ex ey n in
      let S = sliding_resistance (with_contact f) soil ex ey n in
      let l : R ≤ S = omega (arith, more ex ey n) in
      record {
        normal = refl;
        along_breadth = refl;
        along_length = refl;
        horizontal = refl;
        resistance = ≤ℤ_in (pos R) (pos S) (omega (arith, l));
        verdict = rw (both_stay f.flags) (bit_8 (eccentric s.behaviour f (footing_coefficient s f) sensitive ex ey) R S h l);
      }

  rows : ResistanceAlone (footing_row s f soil sensitive sign) (footing_row s (with_contact f) soil sensitive sign)
  rows = by (le_z (pos 20000) (down_s (normal s f sign))) refl
    where
      by : (t : Bool) → le_z (pos 20000) (down_s (normal s f sign)) ≡ t → ResistanceAlone (footing_row s f soil sensitive sign) (footing_row s (with_contact f) soil sensitive sign)
      by true t = rw (heavy_is s f soil sensitive sign t, heavy_is s (with_contact f) soil sensitive sign t) heavy_rows
      by false t = rw (light_is s f soil sensitive sign t, light_is s (with_contact f) soil sensitive sign t) (unchanged _)

  grows : pos 20000 ≤ℤ (footing_row s f soil sensitive sign).word2 →
      (footing_row s (with_contact f) soil sensitive sign).word6 ≡ (footing_row s f soil sensitive sign).word6 +ℤ pos (down (2 * f.passive) 5)
  grows h =
      let t = is_heavy s f soil sensitive sign h in
      let n = nat_abs (down_s (normal s f sign)) in
      rw (heavy_is s f soil sensitive sign t, heavy_is s (with_contact f) soil sensitive sign t)
      (ap pos (more (eccentricity (up_f (size (moment_b s f sign))) n) (eccentricity (up_f (size (moment_l s f sign))) n) n))

  pub declares : Declares s f e soil sensitive sign
  declares =
      record {
        declared = set_after f.flags e;
        both_flags_kept = both_stay f.flags;
        rows = rows;
        grows = grows;
        exact =
            rw (same_base s f f.passive (f.flags + 4) soil sign)
            (adds_more (exact_base s f soil sign) (counted_thrust f) (counted_thrust (with_contact f)) (omega (arith, counts_not f e)));
      }
