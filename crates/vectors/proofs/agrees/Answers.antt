-- The bytes compared are those of the listing. Assumes nothing.
use Rattle.std.proofs.Common.{sym, ◌∙◌}
use lib.Pointwise.{bytes_decides}
use Rattle.slices.proofs.Writing.{read_back}
use Rattle.vectors.proofs.agrees.Goals as goal

pub returns : goal.returns
returns c =
    let text = read_back c.listing_text-n.ensures.writes in
    let same = bytes_decides _ _ in
    record {
      right = λ yes. sym text ∙ same.0 (sym c.eq.ensures ∙ yes);
      all = λ right. c.eq.ensures ∙ same.1 (text ∙ right);
    }
