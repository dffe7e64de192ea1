-- `printing::page_too_wide` meets its contract: the search goes over the first n rows (Scan.antt). Assumes nothing.
use Rattle.std.proofs.Common.{ap, ◌∙◌, rules, tests}
use Rattle.std.specs.List.{list_any}
use Rattle.std.proofs.lemmas.Iterator.{YieldsList-from_slice}
use Rattle.std.proofs.lemmas.Iterator.Search.{any_from_yields_List}
use Rattle.printing.specs.Page.{widths}
use Rattle.printing.specs.Answers.{any_too_wide}
use Rattle.printing.proofs.Scan.{any_row}
use Rattle.printing.proofs.page_too_wide.Goals as goal

pub returns : goal.returns
returns c =
    any_from_yields_List (any_too_wide widths) _ _ _ c.any.ensures.ran (YieldsList-from_slice c.first_rows.result.now cc) (λ x b q k. search (rules, tests))
    ∙ ap (list_any (any_too_wide widths)) c.first_rows.ensures
    ∙ any_row c.args.rows.now c.args.n
