-- `writing::write` meets its contract: a footing, the longest command, is read back. Assumes nothing.
use mathlib.Core.Path.{sym, ◌∙◌}
use Rattle.format.specs.declared.Command.TheVariants.{Footing as footing}
use Rattle.blocks.proofs.FileCommands.{one_read}
use Rattle.writing.proofs.write.Goals as goal

pub returns-in-Footing-clause-back : goal.returns-in-Footing-clause-back
returns-in-Footing-clause-back c =
    let w = c.write_values-in-Footing in
    λ z. one_read w.new.bytes 0 (footing c.in-Footing.f) (w.ensures.back z) ∙ sym c.in-Footing.is
