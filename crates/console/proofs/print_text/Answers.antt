-- The bytes that are written are the text. Assumes nothing.
use Rattle.std.proofs.Common.{subst}
use Rattle.std.specs.Prelude.{OnOk}
use Rattle.std.specs.Io.KnownBytes.{Appends}
use Rattle.slices.proofs.Writing.{read_back}
use Rattle.console.proofs.print_text.Goals as goal

pub returns : goal.returns
returns g c =
    subst (λ text. OnOk c.write_all.result (Appends (g.W.Write.contents c.args.writer.now) (g.W.Write.contents c.write_all.new.self) text))
    (read_back c.printed_text-n.ensures.writes) c.write_all.ensures.bytes
