-- `walls::wall_of` meets its contract, by what the coefficient and its product ensure. Assumes nothing.
use borrow.Author.Rules.{rules}
use Rattle.coefficient.proofs.Bounds.{coefficient_fits}
use Rattle.walls.proofs.Running.{wall_is}
use Rattle.walls.proofs.wall_of.Goals as goal

pub product_up-shear-requires : goal.product_up-shear-requires
product_up-shear-requires c = coefficient_fits c.coefficient-limited.ensures.value (search rules) c.requires.shear

pub returns : goal.returns
returns c =
    let a = c.coefficient-limited in
    wall_is c.args.behaviour c.args.base a.result c.product_up-shear.result a.ensures.value a.ensures.governs c.product_up-shear.ensures
