-- The rows that the functions put together are those of specs/, by the equations of each step, over plain numbers. Assumes nothing.
use mathlib.Core.Path.{◌≡◌, ap, ◌∙◌}
use mathlib.Core.Bool.{Bool, ◌||◌, ◌&&◌}
use Prim.Native.Nat.{ℕ, ◌+◌}
use lib.Dec.{ltb, eqb}
use lib.IntN.{ℤ, pos, neg_ℤ, ◌+ℤ◌, ◌-ℤ◌}
use lib.Signed.{lt_z}
use mir.Val.{bool_byte}
use Rattle.exact.specs.Quotient.{up}
use Rattle.exact.specs.Fraction.{Fraction, up_f}
use Rattle.exact.specs.SignedFraction.{whole_s, signed, ◌+S◌, ◌-S◌, up_s, down_s}
use Rattle.claims.specs.declared.Row.{Row}
use Rattle.claims.specs.Verdict.{flag}
use Rattle.claims.proofs.Told.{told}
use Rattle.coefficient.specs.declared.Limited.{Limited}
use Rattle.coefficient.specs.declared.Settings.{Settings}
use Rattle.coefficient.specs.Coefficient.{fraction}
use Rattle.members.specs.declared.Column.{Column}
use Rattle.members.specs.declared.Beam.{Beam}
use Rattle.members.specs.declared.Joint.{Joint}
use Rattle.members.specs.declared.Hingeless.{Hingeless}
use Rattle.members.specs.declared.Detail.{Detail}
use Rattle.members.specs.Column.{column_shear, column_governed, column_row}
use Rattle.members.specs.Beam.{sum_plus, sum_minus, beam_shear, beam_governed, beam_row}
use Rattle.members.specs.Hingeless.{rounded_shear, hingeless_row}
use Rattle.members.specs.Detail.{detail_demand, detail_limit, detail_row}

-- ---- column

pub column_is : (q : ℕ) (c : Column) (demand : ℕ) (governed verdict : ℤ) (x : Limited) → fraction x.value ≡ column_shear q c → x.governs ≡ column_governed q c →
    demand ≡ up x.value.num x.value.den → governed ≡ pos (bool_byte x.governs) → verdict ≡ pos (bool_byte (ltb c.strength demand)) →
    ◌≡◌ {A = Row} (record { word2 = pos demand; word3 = pos c.strength; word4 = pos 0; word5 = pos 0; word6 = governed; verdict = verdict }) (column_row q c)
unfolding column_row
column_is q c demand governed verdict x e g d t f =
    let v : demand ≡ up_f (column_shear q c) = d ∙ ap up_f e in
    rw (f, t, told (ltb c.strength demand), told x.governs, v, g)

-- ---- beam

pub beam_is : (q : ℕ) (b : Beam) (upper lower plus minus verdict : ℤ) (x y : Limited) →
    (fraction x.value ≡ beam_shear q (sum_plus b) b) × (x.governs ≡ beam_governed q (sum_plus b) b) →
    (fraction y.value ≡ beam_shear q (sum_minus b) b) × (y.governs ≡ beam_governed q (sum_minus b) b) →
    upper ≡ up_s (whole_s b.nonseismic +S signed (fraction x.value)) → lower ≡ down_s (whole_s b.nonseismic -S signed (fraction y.value)) →
    plus ≡ pos (bool_byte x.governs) → minus ≡ pos (bool_byte y.governs) →
    verdict ≡ pos (flag 1 (lt_z (pos b.strength) upper || lt_z (pos b.strength) (neg_ℤ lower))) →
    ◌≡◌ {A = Row} (record { word2 = upper; word3 = lower; word4 = pos b.strength; word5 = plus; word6 = minus; verdict = verdict }) (beam_row q b)
unfolding beam_row
beam_is q b upper lower plus minus verdict x y (e, g) (f, h) u l p m v =
    let u' = u ∙ ap (λ (d : Fraction). up_s (whole_s b.nonseismic +S signed d)) e in
    let l' = l ∙ ap (λ (d : Fraction). down_s (whole_s b.nonseismic -S signed d)) f in
    rw (v, u', l', p, m, told x.governs, told y.governs, g, h)

-- ---- member without hinges

pub hingeless_is : (s : Settings) (j1 j2 : Joint) (m : Hingeless) (shear : ℕ) (verdict : ℤ) → shear ≡ rounded_shear s j1 j2 m →
    verdict ≡ pos (flag 1 (lt_z (pos m.strength) (m.nonseismic +ℤ pos shear) || lt_z (pos m.strength) (neg_ℤ (m.nonseismic -ℤ pos shear)))) →
    ◌≡◌ {A = Row}
    (record { word2 = m.nonseismic +ℤ pos shear; word3 = m.nonseismic -ℤ pos shear; word4 = pos m.strength; word5 = pos 0; word6 = pos 0; verdict = verdict })
    (hingeless_row s j1 j2 m)
unfolding hingeless_row
hingeless_is s j1 j2 m shear verdict d v = rw (v, d)

-- ---- detail

pub detail_is : (d : Detail) (lap : Bool) (verdict : ℤ) → lap ≡ (eqb d.place 2 && eqb d.lap 1) →
    verdict ≡ pos (flag 32 (ltb (detail_limit d) (detail_demand d)) + flag 64 lap) →
    ◌≡◌ {A = Row} (record { word2 = pos (detail_demand d); word3 = pos (detail_limit d); word4 = pos 0; word5 = pos 0; word6 = pos 0; verdict = verdict }) (detail_row d)
unfolding detail_row
detail_is d lap verdict l v = rw (v, l)
