-- `Sum::down` meets its contract, by what the quotient of its total comes to (Quotients.antt). Assumes nothing.
use mir.Syntax.{w64}
use Rattle.std.proofs.lemmas.Int.{to_z_pos}
use mir.Facts.{to_z-of_z}
use mir.Val.{SFits}
use Rattle.exact.proofs.Integers.{read_as}
use Rattle.exact.proofs.Quotients.{down_read}
use Rattle.exact.proofs.Sum.down.Goals as goal

pub returns : goal.returns
returns c =
    let a = c.self in
    let t : SFits w64 c.total.result = record { sfits = c.total.type_inv } in
    let q = rw (to_z-of_z t, to_z_pos w64 a.inside.den a.invariant.den_fits) at c.floor_div.ensures in
    read_as (down_read a.inside.whole a.inside.num a.inside.den a.view_is c.total.ensures q) c.floor_div.type_inv
