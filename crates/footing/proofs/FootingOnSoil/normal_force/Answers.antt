-- `FootingOnSoil::normal_force` meets its contract: the action V ± a·E of the normal forces, down. Assumes nothing.
use mathlib.Core.Path.{ap, ◌∙◌}
use Rattle.exact.specs.SignedFraction.{SignedFraction, down_s}
use Rattle.exact.proofs.Integers.{read_as, read32}
use Rattle.footing.proofs.FootingOnSoil.normal_force.Goals as goal

pub returns-clause-value : goal.returns-clause-value
returns-clause-value c =
    let s = c.args.self.now in
    let r = s.range in
    read_as (c.down.ensures ∙ ap (λ (x : SignedFraction). down_s x) (rw (read32 s.footing.nv r.nv, read32 s.footing.ne r.ne) at c.action.ensures.value)) c.down.type_inv
