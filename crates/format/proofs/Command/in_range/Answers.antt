-- `format::Command::in_range` meets its contract: the end and another building have no operands. Assumes nothing.
use mathlib.Core.Path.{sym, ap}
use Rattle.layout.specs.Layouts.{forms_of, forms_in}
use Rattle.format.specs.Commands.{related, all_in_range, in_range}
use Rattle.format.proofs.Command.in_range.Goals as goal

pub returns-in-Finish : goal.returns-in-Finish
unfolding in_range all_in_range related forms_of forms_in
returns-in-Finish c = sym (ap in_range c.in-Finish.is)

pub returns-in-Building : goal.returns-in-Building
unfolding in_range all_in_range related forms_of forms_in
returns-in-Building c = sym (ap in_range c.in-Building.is)
