-- `format::fault_among` meets its contract. The loop's invariant: the operands so far are in range (Scan.antt). Assumes nothing.
use Rattle.layout.specs.Layouts.{byte_of_kind}
use Rattle.format.proofs.Scan.{Scanning}
use Rattle.format.proofs.fault_among.Given as goal

abbrev pub invariant-loop-place : goal.invariant-loop-place
invariant-loop-place l = Scanning l.operands (byte_of_kind l.kind) l.place l.rest
