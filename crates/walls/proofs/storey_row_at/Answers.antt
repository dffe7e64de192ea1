-- `walls::storey_row_at` meets its contract. Every word fits, and the parts are those of the row. Assumes nothing.
use Prim.Native.Nat.{◌≤◌}
use native.Mathlib.Omega.{arith}
use Rattle.cubes.proofs.Roots.{least_root_within}
use Rattle.walls.specs.Storey.{storey_row_from}
use Rattle.walls.proofs.Ranges.{shear_fits}
use Rattle.walls.proofs.storey_row_at.Goals as goal

pub packed-requires-clause-word2 : goal.packed-requires-clause-word2
packed-requires-clause-word2 c =
    let w = c.requires.wall in
    let t = c.requires.storey in
    let root : c.from-root.result ≤ 1000 = omega (arith, c.from-root.ensures, c.requires.root, least_root_within c.args.storey.inertia c.args.storey.base_inertia) in
    omega (arith, c.larger_demand-v.ensures, shear_fits c.args.wall.coefficient c.from-root.result c.args.storey.shear c.args.wall.shear w.coefficient.num w.coefficient.positive t.shear root w.shear)

pub returns : goal.returns
unfolding storey_row_from
returns c =
    rw (c.packed.ensures, c.verdict_of-verdict.ensures.value, c.design_moment-m.ensures, c.larger_demand-v.ensures, c.from-root.ensures, c.from-strength.ensures, c.from-resistance.ensures, c.from.ensures)
    (rw c.requires.root)
