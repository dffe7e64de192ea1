-- 01, "Figures to hold to": every line marked [p], one statement about the rules. Operands that the paper leaves open are any.
use Rattle.std.specs.Prelude.{◌≡◌, Bool, ℕ, ◌+◌, ◌*◌, ◌≤◌, ℤ, pos, neg_ℤ, Float}
use Rattle.std.specs.Float.{binary32}
use Rattle.std.specs.Float.Ieee.{of_bits}
use Rattle.exact.specs.Fraction.{Fraction, ratio, ◌<F◌}
use Rattle.soil.specs.declared.Soil.TheVariants.{Granular}
use Rattle.soil.specs.Answers.{accepted, refused}
use Rattle.soil.specs.Taken.{take_down, tangent_of}
use Rattle.claims.specs.declared.Row.{Row}
use Rattle.claims.specs.Claims.{BitClear}
use Rattle.members.specs.Column.{column_row}
use Rattle.members.specs.Beam.{beam_row}
use Rattle.members.specs.Hingeless.{hingeless_row}
use Rattle.members.specs.Detail.{detail_row}
use Rattle.walls.specs.Base.{wall_coefficient, base_row}
use Rattle.walls.specs.Storey.{storey_row}
use Rattle.actions.specs.declared.Sign.{Sign}
use Rattle.actions.specs.declared.Sign.TheVariants.{Plus, Minus}
use Rattle.footing.specs.Rows.{footing_row}
use Rattle.figures.specs.Operands.{settings, q, column, beam, first_joint, other_joint, hingeless, wall, storey, footing, detail}

-- the words 2 and 3: upper and lower shear of a beam and of a member without hinges
abbrev pub Shears : Row → ℤ → ℤ → Type 0
Shears r upper lower = (r.word2 ≡ upper) × (r.word3 ≡ lower)

-- shear and k of a storey
abbrev pub StoreyIs : Row → ℕ → ℕ → Type 0
StoreyIs r k shear = (r.word6 ≡ pos k) × (r.word2 ≡ pos shear)

-- N, ex, H and R of a footing row
abbrev pub FootingIs : Row → (n ex h r : ℕ) → Type 0
FootingIs row n ex h r = ((row.word2 ≡ pos n) × (row.word3 ≡ pos ex)) × ((row.word5 ≡ pos h) × (row.word6 ≡ pos r))

-- g·R/(100·E) of the wall with this ME, and q/100
abbrev pub quotient : ℕ → Fraction
quotient ME = ratio (130 * 5000000) (100 * ME)

abbrev pub cap : Fraction
cap = ratio q 100

-- the row of a storey of the wall, at any operands that the paper leaves open
abbrev pub Storeys : (J0 : ℕ → ℕ) → (k shear : ℕ) → Type 0
Storeys J0 k shear =
    (length thickness VRbase J ME VR MS : ℕ) → 1 ≤ J →
    StoreyIs (storey_row q (wall 2000000 length thickness VRbase) (storey J (J0 J) ME VR MS)) k shear

-- the row of the footing with these flags, on any soil with t 5000, in the direction with this sign
abbrev pub FootingRows : (flags : ℕ) → (sign : Sign) → (n ex h r : ℕ) → Type 0
FootingRows flags sign n ex h r =
    (x : Float) (sensitive : Bool) → tangent_of x ≡ 5000 → FootingIs (footing_row settings (footing flags) (Granular x) sensitive sign) n ex h r

pub record Figures : Type 0 where
  -- Column 3000, R 200000, 200000, 180000, 210000, VE 80000: 186,667
  pub column_shear : (VR : ℕ) → (column_row q (column VR)).word2 ≡ pos 186667
  -- Beam 7000, each S = 1, V0 −5000, VE 1: −4,999 and −5,001
  pub beam_shears :
      (r1 r2 r3 r4 VR : ℕ) → r1 + r2 ≡ 1 → r3 + r4 ≡ 1 → Shears (beam_row q (beam r1 r2 r3 r4 VR)) (neg_ℤ (pos 4999)) (neg_ℤ (pos 5001))
  -- RB 300000, RC 250000, EB 200000, ME1 100000; other joint EB 0, ME2 10000; length 3000, V0 −5000: 65,000 and −75,000
  pub hingeless_shears : (RB RC VR : ℕ) → Shears (hingeless_row settings first_joint (other_joint RB RC) (hingeless VR)) (pos 65000) (neg_ℤ (pos 75000))
  -- Wall MR 5000000, ME 2000000, VE 900000: 2,925,000
  pub wall_shear : (length thickness VR : ℕ) → (base_row q (wall 2000000 length thickness VR)).word2 ≡ pos 2925000
  -- with ME 1857142 the cap q governs: a is q/100, below the other quotient
  pub cap_governs : (length thickness VR : ℕ) → (wall_coefficient q (wall 1857142 length thickness VR) ≡ cap) × (cap <F quotient 1857142)
  -- with 1857143 not: a is the other quotient, below q/100
  pub cap_not : (length thickness VR : ℕ) → (wall_coefficient q (wall 1857143 length thickness VR) ≡ quotient 1857143) × (quotient 1857143 <F cap)
  -- 02, No. 5: the rows of both walls tell so, in word 6
  pub cap_governs_word : (length thickness VR : ℕ) → (base_row q (wall 1857142 length thickness VR)).word6 ≡ pos 1
  pub cap_not_word : (length thickness VR : ℕ) → (base_row q (wall 1857143 length thickness VR)).word6 ≡ pos 0
  -- Storey VE 100000: J = J0 975,000; J0 = 8J, k 500, 487,500; J0 = 2J, k 794, 774,150
  pub storey_same : Storeys (λ J. J) 1000 975000
  pub storey_eighth : Storeys (λ J. 8 * J) 500 487500
  pub storey_half : Storeys (λ J. 2 * J) 794 774150
  -- Tangent 3F333333 gives 6,999; 40000000 gives 20,000; 40000001 and 80000000 refused
  pub tangent : take_down 0 (of_bits binary32 0x3F33_3333) ≡ accepted 6999
  pub tangent_top : take_down 0 (of_bits binary32 0x4000_0000) ≡ accepted 20000
  pub tangent_above : take_down 0 (of_bits binary32 0x4000_0001) ≡ refused
  pub tangent_negative : take_down 0 (of_bits binary32 0x8000_0000) ≡ refused
  -- there is a soil with t 5000: the tangent 0.5
  pub tangent_half : take_down 0 (of_bits binary32 0x3F00_0000) ≡ accepted 5000
  -- Footing 2000 by 3000 on granular soil with t 5000: N 1,240,000, ex 80, H 164,000, R 660,000; then 760,000, 3, 124,000, 420,000.
  -- 02, No. 6: "The footing figures are read with flags 4"
  pub footing_plus : FootingRows 4 Plus 1240000 80 164000 660000
  pub footing_minus : FootingRows 4 Minus 760000 3 124000 420000
  -- with flags 0 the thrust of 100,000 N adds nothing: R is 40,000 N less in both
  pub no_contact_plus : FootingRows 0 Plus 1240000 80 164000 620000
  pub no_contact_minus : FootingRows 0 Minus 760000 3 124000 380000
  -- xy 250, mu 1000: xu 131 passes, 132 does not
  pub detail_passes : (place lap : ℕ) → BitClear 32 (detail_row (detail 131 place lap)).verdict
  pub detail_fails : (place lap : ℕ) → BitClear 32 (detail_row (detail 132 place lap)).verdict → ⊥
