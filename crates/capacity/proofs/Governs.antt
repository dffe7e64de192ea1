-- Where the cap governs, over the words that `run` writes: a row that run writes for a column, a beam or a wall base is that of
-- specs/, so its words tell what the laws of `members` and `walls` say. 02, No. 5. Assumes nothing.
use mathlib.Core.Path.{◌≡◌, sym, ap, ◌∙◌}
use mathlib.Core.List.{[], ◌∷◌, map}
use Prim.Native.Nat.{ℕ}
use Rattle.claims.specs.declared.Row.{Row}
use Rattle.members.specs.declared.Column.{Column}
use Rattle.members.specs.declared.Beam.{Beam}
use Rattle.members.specs.Column.{column_row}
use Rattle.members.specs.Beam.{beam_row}
use Rattle.members.proofs.Governs.{column_tells, beam_tells}
use Rattle.walls.specs.declared.WallBase.{WallBase}
use Rattle.walls.specs.Base.{base_row}
use Rattle.walls.proofs.Governs.{base_tells}
use Rattle.format.specs.declared.Command.{Command}
use Rattle.format.specs.Commands.{byte_of}
use Rattle.format.specs.declared.Command.TheVariants.{Column as column, Beam as beam, WallBase as wall_base}
use Rattle.rows.specs.Rows.{rows_with, rows_of, words}
use Rattle.capacity.specs.Governs.{RunRow, ColumnsHeld, UppersHeld, LowersHeld, BasesHeld}
use Rattle.capacity.proofs.RowRead.{first_row}

-- the row written is the one row that specs/ gives for the command and q
written : (c : Command) (q : ℕ) (r own : Row) (w : RunRow c q r) → rows_of w.this.context w.this.command ≡ own ∷ [] → r ≡ own
written c q r own w e =
    let p = w.this in
    sym w.row
    ∙ first_row w.job w.commands w.is_accepted w.earlier p w.later w.place w.slice w.room (byte_of p.command) own [] (ap (map (words p.offset (byte_of p.command))) e)

pub column_written : (c : Column) (q : ℕ) (r : Row) → RunRow (column c) q r → r ≡ column_row q c
unfolding rows_of rows_with
column_written c q r w = written (column c) q r (column_row q c) w (rw (w.is_command, w.settings_hold, w.behaviour))

pub beam_written : (b : Beam) (q : ℕ) (r : Row) → RunRow (beam b) q r → r ≡ beam_row q b
unfolding rows_of rows_with
beam_written b q r w = written (beam b) q r (beam_row q b) w (rw (w.is_command, w.settings_hold, w.behaviour))

pub base_written : (b : WallBase) (q : ℕ) (r : Row) → RunRow (wall_base b) q r → r ≡ base_row q b
unfolding rows_of rows_with
base_written b q r w = written (wall_base b) q r (base_row q b) w (rw (w.is_command, w.settings_hold, w.behaviour))

pub columns_held : ColumnsHeld
columns_held c d q r s v w k e =
    rw (column_written c q r v, column_written d q s w) ((column_tells q c).held (sym (ap (λ (x : Row). x.word6) (column_written c q r v)) ∙ e) d k)

pub uppers_held : UppersHeld
uppers_held b d q r s v w k l e =
    rw (beam_written b q r v, beam_written d q s w) ((beam_tells q b).plus_held (sym (ap (λ (x : Row). x.word5) (beam_written b q r v)) ∙ e) d k l)

pub lowers_held : LowersHeld
lowers_held b d q r s v w k l e =
    rw (beam_written b q r v, beam_written d q s w) ((beam_tells q b).minus_held (sym (ap (λ (x : Row). x.word6) (beam_written b q r v)) ∙ e) d k l)

pub bases_held : BasesHeld
bases_held b d q r s v w k e =
    rw (base_written b q r v, base_written d q s w) ((base_tells q b).held (sym (ap (λ (x : Row). x.word6) (base_written b q r v)) ∙ e) d k)
