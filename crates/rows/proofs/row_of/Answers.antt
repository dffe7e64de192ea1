-- `rows::row_of` meets its contract: the operands are in range, and what holds too. Assumes nothing.
use Rattle.std.proofs.Common.{rules, SFits}
use Rattle.std.specs.Int.{w32}
use Rattle.format.proofs.CommandRanges.{wall_base_in_range}
use Rattle.context.proofs.Laws.{joint_given}
use Rattle.context.proofs.Ranges.{column_range, beam_range, hingeless_range, storey_range, detail_range}
use Rattle.rows.proofs.row_of.Goals as goal

pub column_row-requires : goal.column_row-requires
column_row-requires c =
    column_range _ (rw c.in_ok-state-in-Column.was at c.requires.asks.state.settings) _ (rw c.in-Column.is at c.requires.asks.ranged)

pub beam_row-requires : goal.beam_row-requires
beam_row-requires c =
    let fits : SFits w32 c.in-Beam.b.nonseismic = search rules in
    beam_range _ (rw c.in_ok-state-in-Beam.was at c.requires.asks.state.settings) _ fits (rw c.in-Beam.is at c.requires.asks.ranged)

pub hingeless_row-requires : goal.hingeless_row-requires
hingeless_row-requires c =
    let fits : SFits w32 c.in-Hingeless.m.nonseismic = search rules in
    hingeless_range _ (rw c.in_ok-settings-in-Hingeless.was at c.requires.asks.state.settings) _ _
    (joint_given _ _ c.requires.asks.joints c.in_ok-first-in-Hingeless.was)
    (joint_given _ _ c.requires.asks.joints c.in_ok-second-in-Hingeless.was)
    _ _ _ fits (rw c.in-Hingeless.is at c.requires.asks.ranged)

pub base_row-requires-clause-moment : goal.base_row-requires-clause-moment
base_row-requires-clause-moment c = (wall_base_in_range _ (rw c.in-WallBase.is at c.requires.asks.ranged)).moment

pub storey_row-requires-clause-storey : goal.storey_row-requires-clause-storey
storey_row-requires-clause-storey c = storey_range _ (rw c.in-Storey.is at c.requires.asks.ranged)

pub detail_row-requires : goal.detail_row-requires
detail_row-requires c = detail_range _ (rw c.in-Detail.is at c.requires.asks.ranged)
