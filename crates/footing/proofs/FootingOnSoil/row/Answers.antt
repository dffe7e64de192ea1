-- `FootingOnSoil::row` meets its contract: each path is one of the two rows. Assumes nothing.
use mathlib.Core.Path.{ap, ◌∙◌}
use Rattle.exact.specs.Fraction.{up_f}
use Rattle.exact.specs.SignedFraction.{SignedFraction, size}
use Rattle.exact.proofs.Integers.{read_as, read32}
use Rattle.footing.proofs.Rows.{heavy_path, light_path}
use Rattle.footing.proofs.FootingOnSoil.row.Goals as goal

pub returns-then-n-ge-LEAST_NORMAL : goal.returns-then-n-ge-LEAST_NORMAL
returns-then-n-ge-LEAST_NORMAL c =
    let s = c.args.self.now in
    let f = s.footing in
    let r = s.range in
    let e = c.resultant in
    let n = read_as c.normal_force-n.ensures.value c.normal_force-n.type_inv in
    let h = c.size_up-h.ensures.up ∙ ap (λ (x : SignedFraction). up_f (size x)) (rw (read32 f.hv r.hv, read32 f.he r.he) at c.action.ensures.value) in
    c.heavy_row.ensures
    ∙ heavy_path s.settings f s.soil s.sensitive c.args.sign _ e.result.normal e.result.along_breadth e.result.along_length c.size_up-h.result
    c.if-n-ge-LEAST_NORMAL.true n e.ensures.normal (rw n at e.ensures.along_breadth) (rw n at e.ensures.along_length) h

pub returns-else-n-ge-LEAST_NORMAL : goal.returns-else-n-ge-LEAST_NORMAL
returns-else-n-ge-LEAST_NORMAL c =
    let s = c.args.self.now in
    let f = s.footing in
    let r = s.range in
    let n = read_as c.normal_force-n.ensures.value c.normal_force-n.type_inv in
    let h = c.size_up-h.ensures.up ∙ ap (λ (x : SignedFraction). up_f (size x)) (rw (read32 f.hv r.hv, read32 f.he r.he) at c.action.ensures.value) in
    c.light_row.ensures ∙ light_path s.settings f s.soil s.sensitive c.args.sign _ c.size_up-h.result c.if-n-ge-LEAST_NORMAL.false n h
