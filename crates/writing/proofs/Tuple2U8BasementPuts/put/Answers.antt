-- `writing::(u8, Basement)::put` meets its contract: one number after the other. Assumes nothing.
use mathlib.Core.Path.{refl, sym}
use native.Mathlib.Omega.{arith}
use Rattle.writing.proofs.Filling.{begun, fill, filled}
use Rattle.layout.specs.Forms.{width}
use Rattle.layout.specs.Layouts.{forms_of, forms_in, width_of_all, operands_width}
use Rattle.layout.proofs.Numbers.{returned}
use Rattle.numbers.specs.BigEndian.{big_endian}
use Rattle.writing.specs.Bytes.{operand_bytes}
use Rattle.writing.proofs.Tuple2U8BasementPuts.put.Goals as goal

pub returns : goal.returns
unfolding operand_bytes big_endian forms_of forms_in width width_of_all operands_width
returns c =
    let m = c.args.self.1 in
    let p1 = fill (begun c.args.bytes.now) refl c.put.ensures refl in
    let p2 = fill p1 refl (rw c.from.ensures at c.put-2.ensures) refl in
    let p3 = fill p2 refl (rw (returned {z = m.nonseismic_shear} (omega arith)) at c.put_signed.ensures) refl in
    let p4 = fill p3 refl c.put-3.ensures refl in
    let p5 = fill p4 refl (rw (returned {z = m.nonseismic_moment} (omega arith)) at c.put_signed-2.ensures) refl in
    let p6 = fill p5 refl c.put-4.ensures refl in
    let p7 = fill p6 refl c.put-5.ensures refl in
    let p8 = fill p7 refl c.put-6.ensures refl in
    record { put = filled p8 (sym c.requires); types = (omega arith, record { sfits = omega arith }, record { sfits = omega arith }) }
