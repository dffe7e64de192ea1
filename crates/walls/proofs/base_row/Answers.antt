-- `walls::base_row` meets its contract. Every word fits, and the parts are those of the row. Assumes nothing.
use Rattle.claims.proofs.Told.{told}
use Rattle.walls.specs.Base.{base_row_from}
use Rattle.walls.proofs.base_row.Goals as goal

pub returns : goal.returns
unfolding base_row_from
returns c =
    rw (c.packed.ensures, c.verdict_of-verdict.ensures.value, c.design_moment-m.ensures, c.from-strength.ensures, c.from-resistance.ensures, c.from.ensures, c.from-2.ensures, c.from-3.ensures)
    (rw (told c.args.wall.governs))
