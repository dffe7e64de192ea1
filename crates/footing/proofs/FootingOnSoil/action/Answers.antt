-- `FootingOnSoil::action` meets its contract: the coefficient and the operands are in range. Assumes nothing.
use mathlib.Core.Path.{◌≡◌, ap, ◌∙◌}
use mir.Facts.{to_z-of_z}
use Rattle.exact.specs.Fraction.{Fraction}
use Rattle.actions.specs.Action.{action}
use Rattle.actions.proofs.Sums.{action_fits}
use Rattle.footing.specs.Actions.{footing_coefficient}
use Rattle.footing.proofs.Directions.{action_range, size_bound, down_bound}
use Rattle.footing.proofs.FootingOnSoil.action.Goals as goal

value : (c : goal.After-action) → c.action.result ≡ action c.args.sign (footing_coefficient c.args.self.now.settings c.args.self.now.footing) c.args.v c.args.e
value c =
    let x = rw (to_z-of_z c.ranges.v, to_z-of_z c.ranges.e) at c.action.ensures in
    x ∙ ap (λ (a : Fraction). action c.args.sign a c.args.v c.args.e) c.args.self.now.is

pub action-requires : goal.action-requires
action-requires c =
    let s = c.args.self.now in
    rw (to_z-of_z c.ranges.v, to_z-of_z c.ranges.e)
    (action_fits s.coefficient c.args.v c.args.e (action_range s.settings s.footing s.range s.coefficient s.is c.args.v c.args.e c.requires.steady c.requires.seismic))

pub returns : goal.returns
returns c =
    let s = c.args.self.now in
    record {
      value = value c;
      size = rw (value c) (size_bound s.settings s.footing s.range c.args.sign c.args.v c.args.e c.requires.steady c.requires.seismic);
      down = rw (value c) (down_bound s.settings s.footing s.range c.args.sign c.args.v c.args.e c.requires.steady c.requires.seismic);
    }
