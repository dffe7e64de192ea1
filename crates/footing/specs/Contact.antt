-- What the contact changes in a footing's rows. 02, No. 6: "Without it P adds nothing to R, in the rows and in the exact strength alike.
-- Old files thus lose the passive part until their authors set the bit." For all operands and soils, in both directions.
use Rattle.std.specs.Prelude.{◌≡◌, Bool, true, false, ◌⊎◌, ℕ, ◌+◌, ◌*◌, ℤ, pos, nat_abs, ◌+ℤ◌, ◌≤ℤ◌}
use Rattle.exact.specs.Quotient.{down}
use Rattle.exact.specs.Fraction.{ratio, ◌+F◌, ◌≤F◌, ◌≈F◌}
use Rattle.soil.specs.declared.Soil.{Soil}
use Rattle.coefficient.specs.declared.Settings.{Settings}
use Rattle.claims.specs.declared.Row.{Row}
use Rattle.claims.specs.Claims.{BitClear}
use Rattle.actions.specs.declared.Sign.{Sign}
use Rattle.footing.specs.declared.Footing.{Footing}
use Rattle.footing.specs.Flags.{both_flags, contact}
use Rattle.footing.specs.Rows.{effective_area, base_resistance, footing_row}
use Rattle.footing.specs.Claimed.{exact_base, exact_sliding}

-- ---- R with the contact and without it

-- R as document 01 had it, with this P counted whatever the flags: from the N, ex and ey that the row reports
abbrev pub resistance_with : ℕ → Footing → Soil → Row → ℕ
resistance_with P f soil r =
    base_resistance soil (effective_area f (nat_abs r.word3) (nat_abs r.word4)) (nat_abs r.word2) f.uplift + down (2 * P) 5

-- the footing with another P and other flags
abbrev pub given : (P flags : ℕ) → Footing → Footing
given P flags f =
    record {
      breadth = f.breadth;
      length = f.length;
      resistance = f.resistance;
      moment = f.moment;
      nv = f.nv;
      ne = f.ne;
      xv = f.xv;
      xe = f.xe;
      yv = f.yv;
      ye = f.ye;
      hv = f.hv;
      he = f.he;
      uplift = f.uplift;
      passive = P;
      flags = flags;
    }

-- R, word 6 of a row with N at least 20,000, is that
abbrev pub ResistsWith : ℕ → Footing → Soil → Row → Type 0
ResistsWith P f soil r = pos 20000 ≤ℤ r.word2 → r.word6 ≡ pos (resistance_with P f soil r)

pub record Counted (s : Settings) (f : Footing) (soil : Soil) (sensitive : Bool) (sign : Sign) : Type 0 where
  -- without the contact R is that of 01 with P = 0, and the exact strength is that of the base alone
  pub undeclared : contact f ≡ false → ResistsWith 0 f soil (footing_row s f soil sensitive sign)
  pub exact_undeclared : contact f ≡ false → exact_sliding s f soil sign ≈F exact_base s f soil sign
  -- then no word of the row depends on P
  pub any_thrust : contact f ≡ false → (P : ℕ) → footing_row s (given P f.flags f) soil sensitive sign ≡ footing_row s f soil sensitive sign
  -- with it R is that of 01, and so is the exact strength
  pub declared : contact f ≡ true → ResistsWith f.passive f soil (footing_row s f soil sensitive sign)
  pub exact_declared : contact f ≡ true → exact_sliding s f soil sign ≡ exact_base s f soil sign +F ratio (2 * f.passive) 5

-- ---- an author sets the bit

-- bit 2, of value 4; it is clear before, so that the other bits stay
abbrev pub with_contact : Footing → Footing
with_contact f = given f.passive (f.flags + 4) f

-- bit 8 is set before and clear after, and no other bit differs
abbrev pub LosesBit8 : ℤ → ℤ → Type 0
LosesBit8 before after = BitClear 8 after × (before ≡ after +ℤ pos 8)

-- between the row before and the row after nothing differs but R and bit 8
pub record ResistanceAlone (before after : Row) : Type 0 where
  -- N, ex, ey and H stay
  pub normal : after.word2 ≡ before.word2
  pub along_breadth : after.word3 ≡ before.word3
  pub along_length : after.word4 ≡ before.word4
  pub horizontal : after.word5 ≡ before.word5
  -- R does not fall
  pub resistance : before.word6 ≤ℤ after.word6
  -- the verdict stays, or it loses bit 8 and no other
  pub verdict : (after.verdict ≡ before.verdict) ⊎ LosesBit8 before.verdict after.verdict

-- what setting bit 2 changes, of a footing that has it clear
pub record Declares (s : Settings) (f : Footing) (clear : contact f ≡ false) (soil : Soil) (sensitive : Bool) (sign : Sign) : Type 0 where
  pub declared : contact (with_contact f) ≡ true
  pub both_flags_kept : both_flags (with_contact f) ≡ both_flags f
  pub rows : ResistanceAlone (footing_row s f soil sensitive sign) (footing_row s (with_contact f) soil sensitive sign)
  -- where N is at least 20,000, R grows by 2·P/5 down
  pub grows :
      pos 20000 ≤ℤ (footing_row s f soil sensitive sign).word2 →
      (footing_row s (with_contact f) soil sensitive sign).word6 ≡ (footing_row s f soil sensitive sign).word6 +ℤ pos (down (2 * f.passive) 5)
  -- the exact strength does not fall either
  pub exact : exact_sliding s f soil sign ≤F exact_sliding s (with_contact f) soil sign
