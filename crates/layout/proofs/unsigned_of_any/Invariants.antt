-- `layout::unsigned_of_any`: the number so far with the bytes that follow is that of all, and it has no more bytes than were read. Assumes nothing.
use Rattle.std.proofs.Common.{◌≡◌, ◌<◌, ◌^◌, drop}
use Rattle.layout.specs.Number.{number, number_after}
use Rattle.layout.proofs.unsigned_of_any.Given as goal

abbrev pub invariant-loop-byte : goal.invariant-loop-byte
invariant-loop-byte l = record { rest : number_after l.value (drop l.byte-index l.bytes) ≡ number l.bytes; small : l.value < 256 ^ l.byte-index }
