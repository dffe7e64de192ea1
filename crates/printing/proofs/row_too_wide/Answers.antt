-- `printing::row_too_wide` meets its contract: the search goes over each word and its two values (Scan.antt). Assumes nothing.
use Rattle.std.proofs.Common.{◌∙◌, not, ◌&&◌, rules, tests}
use Rattle.std.specs.Int.Signed.{le_z}
use Rattle.std.proofs.lemmas.Iterator.{YieldsList-from_slice, YieldsList-from_zip}
use Rattle.std.proofs.lemmas.Iterator.Search.{any_from_yields_List}
use Rattle.printing.specs.declared.TheConstants.{FITTING}
use Rattle.printing.proofs.Scan.{fitting_is, any_word}
use Rattle.printing.proofs.row_too_wide.Goals as goal

pub returns : goal.returns
returns c =
    let row = c.args.row.now in
    any_from_yields_List (λ p. not (le_z p.1.0 p.0 && le_z p.0 p.1.1)) c.any.new.self _ _ c.any.ensures.ran (YieldsList-from_zip (YieldsList-from_slice row (search rules)) (YieldsList-from_slice FITTING (search rules))) (λ x b q k. search (rules, tests))
    ∙ any_word fitting_is row
