-- When a vector agrees: the stored text is the listing of the stored job. Assumes nothing.
use Rattle.std.specs.Prelude.{◌≡◌, Bool, true, List, ℕ}
use Rattle.report.specs.Listing.{listing_of}

pub record Agreement (job text : List ℕ) (answer : Bool) : Type 0 where
  pub right : answer ≡ true → listing_of job ≡ text
  pub all : listing_of job ≡ text → answer ≡ true
