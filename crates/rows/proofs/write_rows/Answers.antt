-- `rows::write_rows` meets its contract: the operands of a footing and of a basement member are in range, and what holds too. Assumes nothing.
use Rattle.std.proofs.Common.{rules, SFits}
use Rattle.std.specs.Int.{w32}
use Rattle.format.specs.Types.{FootingFits}
use Rattle.context.proofs.Ranges.{footing_range, basement_shear_range, basement_moment_range}
use Rattle.rows.proofs.write_rows.Goals as goal

pub new-founded-requires : goal.new-founded-requires
new-founded-requires c =
    let fits : FootingFits c.in-Footing.f = search rules in
    footing_range _ (rw c.in-Some-Some.is-0 at c.requires.asks.state.settings) _ fits (rw c.in-Footing.is at c.requires.asks.ranged)

pub shear_row-requires : goal.shear_row-requires
shear_row-requires c =
    let f : SFits w32 c.in-Basement.m.nonseismic_shear = search rules in
    let g : SFits w32 c.in-Basement.m.nonseismic_moment = search rules in
    basement_shear_range _ c.in-Some-nearest_coefficient.ensures.range _ _ f g (rw c.in-Basement.is at c.requires.asks.ranged)

pub moment_row-requires : goal.moment_row-requires
moment_row-requires c =
    let f : SFits w32 c.in-Basement.m.nonseismic_shear = search rules in
    let g : SFits w32 c.in-Basement.m.nonseismic_moment = search rules in
    basement_moment_range _ c.in-Some-nearest_coefficient.ensures.range _ _ f g (rw c.in-Basement.is at c.requires.asks.ranged)
