-- `report::listing_text` meets its contract: what is printed is the listing. Assumes nothing.
use Rattle.report.specs.Listing.{listing_of}
use Rattle.report.proofs.listing_text.Goals as goal

pub returns : goal.returns
unfolding listing_of
returns c = c.printed_text.ensures
