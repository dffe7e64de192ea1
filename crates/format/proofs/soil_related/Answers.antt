-- `format::soil_related` meets its contract: a kind that is no byte is none. Assumes nothing.
use mathlib.Core.Path.{sym}
use native.Mathlib.Omega.{arith}
use lib.Ieee.{binary32, of_bits}
use Rattle.soil.specs.Reading.{soil_allowed}
use Rattle.soil.proofs.Laws.{allowed_other}
use Rattle.format.proofs.soil_related.Goals as goal

pub returns-in-Err : goal.returns-in-Err
unfolding soil_allowed
returns-in-Err c =
    sym (allowed_other c.args.kind (of_bits binary32 c.args.bits) (λ e. c.in-Err.ensures (omega arith)) (λ e. c.in-Err.ensures (omega arith)))
