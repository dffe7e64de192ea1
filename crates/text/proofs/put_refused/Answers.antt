-- `text::put_refused` meets its contract: the line has at most 50 bytes. Assumes nothing.
use Rattle.std.proofs.Common.{◌≡◌, ◌≤◌, length, ap, ◌∙◌, arith}
use Rattle.text.specs.Lines.{refused_line}
use Rattle.text.proofs.put_refused.Goals as goal

pub returns : goal.returns
returns c =
    let short : length c.as_bytes.result.now ≤ 50 = omega (arith, ap length c.as_bytes.ensures.value, c.as_str.ensures.fits) in
    let line : c.as_bytes.result.now ≡ refused_line c.args.number c.args.offset = c.as_bytes.ensures.value ∙ c.as_str.ensures.value ∙ c.refused_line.ensures in
    record { writes = rw (← line) c.put_text.ensures; short = omega (arith, c.put_text.ensures.position) }
