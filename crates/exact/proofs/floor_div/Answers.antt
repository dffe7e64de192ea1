-- `floor_div` meets its contract, by what `div_euclid` answers (Quotients.antt). Assumes nothing.
use Rattle.std.proofs.Common.{◌∙◌}
use mir.Facts.{to_z-of_z}
use Rattle.exact.proofs.Integers.{read_as}
use Rattle.exact.proofs.Quotients.{floor_read}
use Rattle.exact.proofs.floor_div.Goals as goal

pub returns : goal.returns
returns c =
    let q = rw (to_z-of_z c.ranges.n, to_z-of_z c.ranges.d) at c.div_euclid.ensures in
    read_as (q ∙ floor_read c.args.n c.args.d c.requires) c.div_euclid.type_inv
