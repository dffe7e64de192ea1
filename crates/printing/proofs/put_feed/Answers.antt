-- `printing::put_feed` meets its contract: a form feed after every 50 lines, none before the first. Assumes nothing.
use native.Mathlib.Omega.{arith}
use Rattle.slices.proofs.Writing.{nothing, byte}
use Rattle.printing.specs.Page.{form_feed}
use Rattle.printing.proofs.Lengths.{no_feed_first, feed_within, feed_after_fifty}
use Rattle.printing.proofs.put_feed.Goals as goal
use Rattle.printing.proofs.put_feed.Goals.{then-lines-eq0-via-then-lines-eq0, then-lines-eq0-via-else-lines-eq0+then-lines-ne0}

pub returns-then-lines-eq0 : goal.returns-then-lines-eq0
returns-then-lines-eq0 c =
    let s = c.args in
    elim c.then-lines-eq0.branch [
      | then-lines-eq0-via-then-lines-eq0 w ↦ rw (w.if-lines-eq0.true, no_feed_first) (nothing s.out.now s.at)
      | then-lines-eq0-via-else-lines-eq0+then-lines-ne0 w ↦ rw (feed_within s.lines w.if-lines-ne0.true) (nothing s.out.now s.at)
    ]

pub returns : goal.returns
returns c =
    rw (feed_after_fifty c.args.lines (omega (arith, c.if-lines-eq0.false)) c.if-lines-ne0.false)
    (byte c.args.out.now c.args.at form_feed c.requires)
