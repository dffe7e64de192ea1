-- `text::put_listing` meets its contract: the rows take at most 168 bytes each, and the totals follow. Assumes nothing.
use Rattle.std.proofs.Common.{arith}
use Rattle.text.specs.Lines.{listing_text}
use Rattle.slices.proofs.Writing.{then}
use Rattle.text.proofs.put_listing.Goals as goal

pub returns : goal.returns
unfolding listing_text
returns c =
    record {
      writes = then (omega arith) c.put_rows-at.ensures.writes c.put_totals.ensures.writes;
      short = omega (arith, c.put_rows-at.ensures.short, c.put_totals.ensures.short);
    }
