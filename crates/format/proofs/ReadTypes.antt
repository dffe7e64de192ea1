-- A command that is read from bytes has values of the code's types. Assumes nothing.
use mathlib.Core.List.{List}
use mathlib.Core.Path.{sym, subst}
use Prim.Native.Nat.{ℕ}
use lib.Dec.{lit<}
use Rattle.layout.specs.Forms.{width}
use Rattle.layout.specs.Layouts.{forms_of, forms_in}
use Rattle.layout.specs.Operands.{byte_at, operands_at}
use Rattle.layout.proofs.Numbers.{Bytes, signed_fits}
use Rattle.layout.proofs.KnownBytes.{each_byte}
use Rattle.layout.proofs.OperandsRead.{Fit, at, operands_fit}
use Rattle.format.specs.Commands.{command_of}
use Rattle.format.specs.Reading.{command_at}
use Rattle.format.specs.Types.{OfTypes}
use Rattle.format.proofs.OtherBytes.{command_other}

types_of : (byte : ℕ) (v : ℕ → ℕ) → Fit byte v → OfTypes (command_of byte v)
unfolding command_of forms_of forms_in width
types_of byte v =
    each_byte (λ b. Fit b v → OfTypes (command_of b v)) (λ f. tt) (λ f. tt) (λ f. f 0 (lit< tt)) (λ f. tt)
    (λ f. signed_fits (v 5) (f 5 (lit< tt))) (λ f. (f 1 (lit< tt), f 2 (lit< tt), signed_fits (v 5) (f 5 (lit< tt)))) (λ f. tt) (λ f. tt) (λ f. f 1 (lit< tt))
    (λ f.
    record {
      nv = signed_fits (v 4) (f 4 (lit< tt));
      ne = signed_fits (v 5) (f 5 (lit< tt));
      xv = signed_fits (v 6) (f 6 (lit< tt));
      xe = signed_fits (v 7) (f 7 (lit< tt));
      yv = signed_fits (v 8) (f 8 (lit< tt));
      ye = signed_fits (v 9) (f 9 (lit< tt));
      hv = signed_fits (v 10) (f 10 (lit< tt));
      he = signed_fits (v 11) (f 11 (lit< tt));
    })
    (λ f. tt) (λ f. (f 1 (lit< tt), signed_fits (v 2) (f 2 (lit< tt)), signed_fits (v 4) (f 4 (lit< tt)))) (λ f. tt)
    (λ b h f. subst OfTypes (sym (command_other b v h)) tt) byte

pub types_read : (job : List ℕ) (offset : ℕ) → Bytes job → OfTypes (command_at job offset)
unfolding command_at
types_read job offset b = types_of (byte_at job offset) (at (operands_at job offset)) (operands_fit job offset b)
