-- `text::put_totals` meets its contract: the line has at most 82 bytes. Assumes nothing.
use Rattle.std.proofs.Common.{◌≡◌, ◌≤◌, length, ap, ◌∙◌, arith}
use Rattle.text.specs.Lines.{totals_line}
use Rattle.text.proofs.put_totals.Goals as goal

pub put_text-requires : goal.put_text-requires
put_text-requires c = omega (arith, ap length c.as_bytes.ensures.value, c.as_str.ensures.fits, c.requires)

pub returns : goal.returns
returns c =
    let short : length c.as_bytes.result.now ≤ 82 = omega (arith, ap length c.as_bytes.ensures.value, c.as_str.ensures.fits) in
    let line : c.as_bytes.result.now ≡ totals_line c.args.rows c.args.failed c.args.checks = c.as_bytes.ensures.value ∙ c.as_str.ensures.value ∙ c.totals_line.ensures in
    record { writes = rw (← line) c.put_text.ensures; short = omega (arith, c.put_text.ensures.position) }
