-- `totals::checks_failed` meets its contract: a verdict in its range is cast to eight bits as it stands, and the language's count of
-- ones is that of its binary digits (Verdicts.antt). Assumes nothing.
use native.Mathlib.Omega.{arith}
use mir.Facts.{to_z-of_z}
use Rattle.totals.specs.Rows.{checks_of}
use Rattle.totals.proofs.Verdicts.{good_not_negative, good_below}
use Rattle.totals.proofs.checks_failed.Goals as goal

pub overflow_cast-verdict : goal.overflow_cast-verdict
overflow_cast-verdict c =
    rw (to_z-of_z c.ranges.verdict)
    (good_not_negative c.args.verdict c.requires, omega (arith, good_below c.args.verdict c.requires))

pub returns : goal.returns
unfolding checks_of
returns c = rw (to_z-of_z c.ranges.verdict) at c.from.ensures
