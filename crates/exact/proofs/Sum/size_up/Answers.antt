-- `Sum::size_up` meets its bound: what it rounds is below 2⁶³ (Rounding.antt). Assumes nothing.
use Rattle.std.proofs.Common.{◌∙◌, ap}
use mir.Facts.{to_z-of_z}
use mir.Syntax.{w64}
use mir.Val.{SFits}
use lib.IntN.{nat_abs}
use Rattle.std.specs.Int.{div_ceil}
use Rattle.exact.proofs.Rounding.{total_fits}
use Rattle.exact.proofs.Sum.size_up.Goals as goal

pub returns-clause-bound : goal.returns-clause-bound
returns-clause-bound c =
    let a = c.self in
    let t : SFits w64 c.total.result = record { sfits = c.total.type_inv } in
    let size = c.unsigned_abs.ensures.value ∙ ap nat_abs (to_z-of_z t) in
    total_fits a.inside.whole a.inside.num a.inside.den a.invariant a.view_is c.total.ensures (c.div_ceil.ensures ∙ ap (λ k. div_ceil k a.inside.den) size)
