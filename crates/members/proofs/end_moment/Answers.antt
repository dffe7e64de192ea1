-- `members::end_moment` meets its contract: the coefficient of the joint times ME, up; the product fits. Assumes nothing.
use mathlib.Core.Path.{◌≡◌, ap, ◌∙◌}
use Rattle.exact.specs.Fraction.{Fraction, whole, up_f, ◌*F◌}
use Rattle.coefficient.proofs.Bounds.{coefficient_fits}
use Rattle.members.specs.Hingeless.{end_moment}
use Rattle.members.proofs.Steps.{end_at_most}
use Rattle.members.proofs.end_moment.Goals as goal

pub product_up-requires : goal.product_up-requires
product_up-requires c = coefficient_fits c.joint_coefficient.ensures c.requires.range c.requires.moment

pub returns-clause-bound : goal.returns-clause-bound
returns-clause-bound c =
    let m : c.product_up.result ≡ end_moment c.args.settings c.args.j c.args.moment =
    c.product_up.ensures ∙ ap (λ (a : Fraction). up_f (a *F whole c.args.moment)) c.joint_coefficient.ensures in
    rw m (end_at_most _ _ _ _ _ c.requires.range.behaviour c.requires.moment)
