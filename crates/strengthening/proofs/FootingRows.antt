-- The two rows of a footing with a greater P: nothing changes but R, which does not fall, and bit 8, which may be lost. Assumes nothing.
use mathlib.Core.Path.{refl}
use mathlib.Core.Bool.{Bool, true, false, cond}
use Prim.Native.Nat.{ℕ, ◌+◌, ◌≤◌, zero-le}
use native.Mathlib.Omega.{arith}
use lib.Dec.{ltb}
use lib.IntN.{ℤ, pos, nat_abs}
use lib.Signed.{le_z, ◌≤ℤ◌, ≤ℤ_refl}
use Rattle.exact.specs.Quotient.{down}
use Rattle.exact.specs.Fraction.{up_f}
use Rattle.exact.specs.SignedFraction.{size, down_s}
use Rattle.exact.proofs.Integers.{≤ℤ_in}
use Rattle.soil.specs.declared.Soil.{Soil}
use Rattle.coefficient.specs.declared.Settings.{Settings}
use Rattle.claims.specs.declared.Row.{Row}
use Rattle.claims.specs.Verdict.{flag}
use Rattle.actions.specs.declared.Sign.{Sign}
use Rattle.footing.specs.declared.Footing.{Footing}
use Rattle.footing.specs.Flags.{contact, counted_thrust}
use Rattle.footing.specs.Actions.{footing_coefficient, normal, moment_b, moment_l, horizontal}
use Rattle.footing.specs.Rows.{eccentricity, sliding_resistance, eccentric, light_row, heavy_row, footing_row}
use Rattle.format.specs.Commands.{footing_of}
use Rattle.layout.specs.Forms.{width}
use Rattle.layout.specs.Layouts.{forms_of, forms_in}
use Rattle.format.specs.Commands.{related, command_of}
use Rattle.context.specs.Context.{next, absent}
use lib.Dec.{lit<}
use Rattle.strengthening.proofs.ReadRaised.{put}
use Rattle.strengthening.proofs.AlikeContexts.{alike_itself}
use Rattle.strengthening.proofs.StillInRange.{force_in_range, still_in_range}
use Rattle.strengthening.proofs.Strengths.{IsOperand, one_stands}
use Rattle.strengthening.proofs.RowRaised.{flag_8_beside_4, exceeds_less, RowRaised, row_raised, row_stays}

pub record Resisting (row other : Row) : Type 0 where
  pub raised : RowRaised row other 6 8
  pub resistance : row.word6 ≤ℤ other.word6

module _ (s : Settings) (v : ℕ → ℕ) (new : ℕ) (l : v 13 ≤ new) (soil : Soil) (sensitive : Bool) (sign : Sign) where
  abbrev f : Footing
  f = footing_of v

  abbrev g : Footing
  g = footing_of (put 13 new v)

  -- the thrust that counts does not fall
  thrust : counted_thrust f ≤ counted_thrust g
  thrust = by (contact f)
    where
      by : (t : Bool) → cond t (v 13) 0 ≤ cond t new 0
      by true = l
      by false = zero-le

  -- N, with its size and the words made of it
  abbrev n : ℤ
  n = down_s (normal s f sign)

  abbrev ex : ℕ
  ex = eccentricity (up_f (size (moment_b s f sign))) (nat_abs n)

  abbrev ey : ℕ
  ey = eccentricity (up_f (size (moment_l s f sign))) (nat_abs n)

  abbrev h : ℕ
  h = up_f (size (horizontal s f sign))

  abbrev leans : Bool
  leans = eccentric s.behaviour f (footing_coefficient s f) sensitive ex ey

  abbrev before : ℕ
  before = sliding_resistance f soil ex ey (nat_abs n)

  abbrev after : ℕ
  after = sliding_resistance g soil ex ey (nat_abs n)

  resists : before ≤ after
  unfolding down
  resists = omega (arith, thrust)

  heavy : Resisting (heavy_row s f soil sensitive (nat_abs n) ex ey h) (heavy_row s g soil sensitive (nat_abs n) ex ey h)
  heavy =
      record {
        raised =
            row_raised (heavy_row s f soil sensitive (nat_abs n) ex ey h) (heavy_row s g soil sensitive (nat_abs n) ex ey h) 6 8 (λ b. pos (flag 4 leans + flag 8 b)) (flag_8_beside_4 leans)
            (record { word2 = λ k. refl; word3 = λ k. refl; word4 = λ k. refl; word5 = λ k. refl; word6 = λ k. absurd (k refl) }) (ltb before h) (ltb after h) refl refl
            (exceeds_less before after h resists);
        resistance = ≤ℤ_in (pos before) (pos after) (omega (arith, resists));
      }

  pub footing_resists : Resisting (footing_row s f soil sensitive sign) (footing_row s g soil sensitive sign)
  unfolding footing_row
  footing_resists = by (le_z (pos 20000) n)
    where
      by : (t : Bool) → Resisting (cond t (heavy_row s f soil sensitive (nat_abs n) ex ey h) (light_row n h)) (cond t (heavy_row s g soil sensitive (nat_abs n) ex ey h) (light_row n h))
      by true = heavy
      by false = record { raised = row_stays (light_row n h) 6 8; resistance = ≤ℤ_refl (pos 0) }

-- ---- P among the operands

pub footing_P : IsOperand 9 13
unfolding related forms_of forms_in width command_of next absent
footing_P =
    record {
      four = refl;
      among = lit< tt;
      other = refl;
      ranged = λ v new l h. still_in_range _ _ 13 new refl refl refl (force_in_range new l) h;
      stands = λ v new. one_stands _ _ refl (λ h. refl) (λ h. alike_itself h);
    }
