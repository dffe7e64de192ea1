-- The bytes that were read give the text of the whole job. Assumes nothing.
use Rattle.std.proofs.Common.{◌<◌, length, arith}
use Rattle.console.proofs.Printing.{was_ok, still_ok, printed_read}
use Rattle.console.proofs.print_input.Goals as goal

pub returns-clause-ok : goal.returns-clause-ok
returns-clause-ok g c =
    let read = was_ok c.read_all.result c.map_err.result c.in_ok-n.n _ c.map_err.ensures.cases c.map_err.ensures.variant c.in_ok-n.was in
    let long : 65536 < length c.read_all.new.buffer = omega arith in
    still_ok c.print_text.result c.map_err-2.result c.map_err-2.ensures.variant
    (λ text. printed_read _ _ _ _ _ _ c.in_ok-n.n long (rw read at c.read_all.ensures.bound) (rw read at c.read_all.ensures.bytes) (rw read at c.read_all.ensures.end) text)
    c.print_text.ensures
