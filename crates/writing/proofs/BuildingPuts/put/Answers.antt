-- `writing::Building::put` meets its contract: there is nothing to put. Assumes nothing.
use mathlib.Core.Path.{sym}
use Rattle.layout.specs.Layouts.{forms_of, forms_in, width_of_all, operands_width}
use Rattle.writing.specs.Bytes.{operand_bytes}
use Rattle.writing.proofs.Filling.{begun, filled}
use Rattle.writing.proofs.BuildingPuts.put.Goals as goal

pub returns-clause-put : goal.returns-clause-put
unfolding operand_bytes forms_of forms_in width_of_all operands_width
returns-clause-put c = filled (begun c.args._bytes.now) (sym c.requires)
