-- How large the words of each row are, for all operands in range. Assumes nothing.
use mathlib.Core.Bool.{◌||◌, ◌&&◌}
use Prim.Native.Nat.{ℕ, ◌+◌, ◌*◌, ◌≤◌}
use native.Mathlib.Omega.{arith}
use native.Mathlib.Nat.{mul-le-mul}
use lib.Dec.{ltb, eqb}
use lib.IntN.{pos, neg_ℤ, nat_abs, ◌+ℤ◌, ◌-ℤ◌}
use lib.Signed.{lt_z}
use Rattle.exact.specs.Fraction.{Proper, ratio, up_f}
use Rattle.exact.specs.SignedFraction.{above, below, up_s, down_s}
use Rattle.exact.proofs.Integers.{nat_abs_law, nat_abs_+ℤ}
use Rattle.exact.proofs.Multiply.{◌·◌}
use Rattle.exact.proofs.Rounding.{up_s_size, down_s_size}
use Rattle.claims.specs.Verdict.{flag}
use Rattle.claims.specs.Sizes.{Sized}
use Rattle.claims.proofs.Bits.{flag_le}
use Rattle.claims.proofs.Sizes.{sized}
use Rattle.coefficient.specs.declared.Settings.{Settings}
use Rattle.coefficient.proofs.Bounds.{smaller_≤_second}
use Rattle.members.specs.declared.Column.{Column}
use Rattle.members.specs.declared.Beam.{Beam}
use Rattle.members.specs.declared.Joint.{Joint}
use Rattle.members.specs.declared.Hingeless.{Hingeless}
use Rattle.members.specs.declared.Detail.{Detail}
use Rattle.members.specs.Column.{column_shear, column_governed, column_row, ColumnRange}
use Rattle.members.specs.Beam.{sum_plus, sum_minus, beam_shear, beam_governed, upper_shear, lower_shear, beam_row, BeamRange}
use Rattle.members.specs.Hingeless.{rounded_shear, hingeless_row, HingelessRange}
use Rattle.members.specs.Detail.{detail_demand, detail_limit, detail_row, DetailRange}
use Rattle.members.proofs.Steps.{smaller_proper, up_at_most_second, nat_abs_minus, shear_at_most}

pub column_sized : (q : ℕ) (c : Column) → ColumnRange q c → Sized (column_row q c)
unfolding column_row
column_sized q c r =
    let x = column_shear q c in
    let p : Proper x = smaller_proper c.length 100 (omega (arith, r.length_least)) (omega arith) _ _ in
    let h : up_f x ≤ q * c.shear = up_at_most_second _ (ratio (q * c.shear) 100) p (omega arith) in
    sized (pos (up_f x)) (pos c.strength) (pos 0) (pos 0) (pos (flag 1 (column_governed q c))) _
    (omega (arith, h, mul-le-mul r.behaviour r.shear)) (omega (arith, r.strength)) (omega arith) (omega arith) (omega (arith, flag_le 1 (column_governed q c)))
    (omega (arith, flag_le 1 (ltb c.strength (up_f x))))

-- ---- beam: the size of V0 is at most 10⁸, and D at most q·VE/120

module _ (q : ℕ) (b : Beam) (r : BeamRange q b) where
  parts_at_most : (sum : ℕ) → let d = beam_shear q sum b in above b.nonseismic * d.den + below b.nonseismic * d.den + d.num ≤ 433333334 * d.den
  parts_at_most sum =
      let d = beam_shear q sum b in
      let steady : above b.nonseismic + below b.nonseismic ≤ 100000000 = omega (arith, nat_abs_law b.nonseismic, r.nonseismic) in
      omega (
        arith,
        steady · d.den,
        smaller_≤_second (ratio (1200 * sum) b.length) (ratio (q * b.shear) 120),
        mul-le-mul r.behaviour r.shear · d.den,
      )

  positive : (sum : ℕ) → Proper (beam_shear q sum b)
  positive sum = smaller_proper b.length 120 (omega (arith, r.length_least)) (omega arith) _ _

  upper_size : nat_abs (up_s (upper_shear q b)) ≤ 433333334
  upper_size =
      let sum = sum_plus b in
      up_s_size (upper_shear q b) 433333334 (omega (arith, parts_at_most sum)) (omega (arith, positive sum))

  lower_size : nat_abs (down_s (lower_shear q b)) ≤ 433333334
  lower_size =
      let sum = sum_minus b in
      down_s_size (lower_shear q b) 433333334 (omega (arith, parts_at_most sum)) (omega (arith, positive sum))

pub beam_sized : (q : ℕ) (b : Beam) → BeamRange q b → Sized (beam_row q b)
unfolding beam_row
beam_sized q b r =
    let upper = up_s (upper_shear q b) in
    let lower = down_s (lower_shear q b) in
    let plus = beam_governed q (sum_plus b) b in
    let minus = beam_governed q (sum_minus b) b in
    sized upper lower (pos b.strength) (pos (flag 1 plus)) (pos (flag 1 minus)) _
    (omega (arith, upper_size q b r)) (omega (arith, lower_size q b r)) (omega (arith, r.strength)) (omega (arith, flag_le 1 plus)) (omega (arith, flag_le 1 minus))
    (omega (arith, flag_le 1 (lt_z (pos b.strength) upper || lt_z (pos b.strength) (neg_ℤ lower))))

-- ---- member without hinges, detail

pub hingeless_sized : (s : Settings) (j1 j2 : Joint) (m : Hingeless) → HingelessRange s j1 j2 m → Sized (hingeless_row s j1 j2 m)
unfolding hingeless_row
hingeless_sized s j1 j2 m r =
    let z = m.nonseismic in
    let n = rounded_shear s j1 j2 m in
    let h = shear_at_most s j1 j2 m r in
    sized (z +ℤ pos n) (z -ℤ pos n) (pos m.strength) (pos 0) (pos 0) _
    (omega (arith, nat_abs_+ℤ z (pos n), r.nonseismic, h)) (omega (arith, nat_abs_minus z (pos n), r.nonseismic, h)) (omega (arith, r.strength)) (omega arith) (omega arith)
    (omega (arith, flag_le 1 (lt_z (pos m.strength) (z +ℤ pos n) || lt_z (pos m.strength) (neg_ℤ (z -ℤ pos n)))))

pub detail_sized : (d : Detail) → DetailRange d → Sized (detail_row d)
unfolding detail_row
detail_sized d r =
    sized (pos (detail_demand d)) (pos (detail_limit d)) (pos 0) (pos 0) (pos 0) _
    (omega (arith, mul-le-mul r.ultimate r.ductility)) (omega arith) (omega arith) (omega arith) (omega arith)
    (omega (arith, flag_le 32 (ltb (detail_limit d) (detail_demand d)), flag_le 64 (eqb d.place 2 && eqb d.lap 1)))
