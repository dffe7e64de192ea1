-- `printing::put_page` meets its contract: the page of the first `lines` rows is written. Assumes nothing.
use Rattle.slices.specs.Written.{Writes}
use Rattle.printing.specs.Page.{page_text}
use Rattle.printing.proofs.put_page.Given as goal

abbrev pub invariant-loop-lines : goal.invariant-loop-lines
invariant-loop-lines l = Writes l.initial.out 0 (page_text l.rows l.lines) l.out l.at
