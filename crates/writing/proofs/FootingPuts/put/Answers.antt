-- `writing::Footing::put` meets its contract: one number after the other. Assumes nothing.
use mathlib.Core.Path.{refl, sym}
use native.Mathlib.Omega.{arith}
use Rattle.writing.proofs.Filling.{begun, fill, filled}
use Rattle.layout.specs.Forms.{width}
use Rattle.layout.specs.Layouts.{forms_of, forms_in, width_of_all, operands_width}
use Rattle.layout.proofs.Numbers.{returned}
use Rattle.numbers.specs.BigEndian.{big_endian}
use Rattle.writing.specs.Bytes.{operand_bytes}
use Rattle.writing.proofs.FootingPuts.put.Goals as goal

pub returns : goal.returns
unfolding operand_bytes big_endian forms_of forms_in width width_of_all operands_width
returns c =
    let p1 = fill (begun c.args.bytes.now) refl c.put.ensures refl in
    let p2 = fill p1 refl c.put-2.ensures refl in
    let p3 = fill p2 refl c.put-3.ensures refl in
    let p4 = fill p3 refl c.put-4.ensures refl in
    let p5 = fill p4 refl (rw (returned {z = c.args.self.nv} (omega arith)) at c.put_signed.ensures) refl in
    let p6 = fill p5 refl (rw (returned {z = c.args.self.ne} (omega arith)) at c.put_signed-2.ensures) refl in
    let p7 = fill p6 refl (rw (returned {z = c.args.self.xv} (omega arith)) at c.put_signed-3.ensures) refl in
    let p8 = fill p7 refl (rw (returned {z = c.args.self.xe} (omega arith)) at c.put_signed-4.ensures) refl in
    let p9 = fill p8 refl (rw (returned {z = c.args.self.yv} (omega arith)) at c.put_signed-5.ensures) refl in
    let p10 = fill p9 refl (rw (returned {z = c.args.self.ye} (omega arith)) at c.put_signed-6.ensures) refl in
    let p11 = fill p10 refl (rw (returned {z = c.args.self.hv} (omega arith)) at c.put_signed-7.ensures) refl in
    let p12 = fill p11 refl (rw (returned {z = c.args.self.he} (omega arith)) at c.put_signed-8.ensures) refl in
    let p13 = fill p12 refl c.put-5.ensures refl in
    let p14 = fill p13 refl c.put-6.ensures refl in
    let p15 = fill p14 refl c.put-7.ensures refl in
    record {
      put = filled p15 (sym c.requires);
      types = record {
        nv = record { sfits = omega arith };
        ne = record { sfits = omega arith };
        xv = record { sfits = omega arith };
        xe = record { sfits = omega arith };
        yv = record { sfits = omega arith };
        ye = record { sfits = omega arith };
        hv = record { sfits = omega arith };
        he = record { sfits = omega arith };
      };
    }
