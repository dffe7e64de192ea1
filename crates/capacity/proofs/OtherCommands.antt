-- What holds of a command that is none of a few, and of a byte that is no command's: it changes nothing, asks for nothing and has no rows, or
-- one; and a footing that does not fit its slice. docs/PORT.md names these. Assumes nothing.
use mathlib.Core.Bool.{Bool, true, false}
use mathlib.Core.List.{List, []}
use mathlib.Core.Path.{◌≡◌, refl}
use Prim.Native.Nat.{ℕ, zero, suc, ◌<◌}
use native.Mathlib.Omega.{arith}
use lib.ListN.{length}
use Rattle.coefficient.specs.declared.Settings.{Settings}
use Rattle.members.specs.declared.Joint.{Joint}
use Rattle.members.specs.declared.Column.{Column}
use Rattle.members.specs.declared.Beam.{Beam}
use Rattle.members.specs.declared.Hingeless.{Hingeless}
use Rattle.members.specs.declared.Detail.{Detail}
use Rattle.basement.specs.declared.Basement.{Basement}
use Rattle.walls.specs.declared.WallBase.{WallBase}
use Rattle.walls.specs.declared.Storey.{Storey}
use Rattle.footing.specs.declared.Footing.{Footing}
use Rattle.layout.specs.Layouts.{known, forms_of, forms_in}
use Rattle.layout.specs.Forms.{width}
use Rattle.layout.proofs.KnownBytes.{no_forms as none}
use Rattle.format.specs.declared.SoilGiven.{SoilGiven}
use Rattle.format.specs.declared.Command.{Command}
use Rattle.format.specs.declared.Command.TheVariants.{Finish as finish, Settings as settings, Joint as joint, Column as column, Beam as beam, Hingeless as hingeless, WallBase as wall_base, Storey as storey, Soil as soil, Footing as footing, Detail as detail, Basement as basement, Building as building}
use Rattle.format.specs.Commands.{command_of, in_range}
use Rattle.format.proofs.OtherBytes.{command_other}
use Rattle.numbers.specs.BigEndian.{big_endian}
use Rattle.blocks.specs.FileCommands.{one}
use Rattle.writing.specs.Bytes.{operand_bytes, bytes_of}
use Rattle.writing.specs.Answers.{refused_with, write_file_of, file_bytes_after}
use Rattle.writing.proofs.Answered.{answer_11, slice_11}
use Rattle.context.specs.declared.State.{State}
use Rattle.context.specs.Running.{JointTable, next_state, next_joints, absent_in}
use Rattle.rows.specs.Rows.{row_count}
use Rattle.rows.specs.Writing.{rows_from}

-- ---- a command that is none of these

pub state_kept : (room : Bool) (t : State) (c : Command) → ((x : Settings) → c ≡ settings x → ⊥) → ((x : WallBase) → c ≡ wall_base x → ⊥) → ((x : SoilGiven) → c ≡ soil x → ⊥) → (c ≡ building → ⊥) → next_state room t c ≡ t
unfolding next_state
state_kept room t (settings x) s w o g = absurd (s x refl)
state_kept room t (wall_base x) s w o g = absurd (w x refl)
state_kept room t (soil x) s w o g = absurd (o x refl)
state_kept room t finish s w o g = refl
state_kept room t (joint id j) s w o g = refl
state_kept room t (column x) s w o g = refl
state_kept room t (beam x) s w o g = refl
state_kept room t (hingeless id1 id2 m) s w o g = refl
state_kept room t (storey x) s w o g = refl
state_kept room t (footing x) s w o g = refl
state_kept room t (detail x) s w o g = refl
state_kept room t (basement id x) s w o g = refl
state_kept room t building s w o g = absurd (g refl)

-- whether each id is given, and its sums
pub joints_kept : (joints : JointTable) (c : Command) → ((id : ℕ) (j : Joint) → c ≡ joint id j → ⊥) → (c ≡ building → ⊥) → next_joints joints c ≡ joints
unfolding next_joints
joints_kept joints (joint id j) h g = absurd (h id j refl)
joints_kept joints finish h g = refl
joints_kept joints (settings x) h g = refl
joints_kept joints (column x) h g = refl
joints_kept joints (beam x) h g = refl
joints_kept joints (hingeless id1 id2 m) h g = refl
joints_kept joints (wall_base x) h g = refl
joints_kept joints (storey x) h g = refl
joints_kept joints (soil x) h g = refl
joints_kept joints (footing x) h g = refl
joints_kept joints (detail x) h g = refl
joints_kept joints (basement id x) h g = refl
joints_kept joints building h g = absurd (g refl)

pub absent_none : (t : State) (joints : JointTable) (c : Command) → ((id1 id2 : ℕ) (m : Hingeless) → c ≡ hingeless id1 id2 m → ⊥) → ((x : Storey) → c ≡ storey x → ⊥) → ((x : Footing) → c ≡ footing x → ⊥) → ((id : ℕ) (x : Basement) → c ≡ basement id x → ⊥) → absent_in t joints c ≡ false
unfolding absent_in
absent_none t joints (hingeless id1 id2 m) h s f b = absurd (h id1 id2 m refl)
absent_none t joints (storey x) h s f b = absurd (s x refl)
absent_none t joints (footing x) h s f b = absurd (f x refl)
absent_none t joints finish h s f b = refl
absent_none t joints (settings x) h s f b = refl
absent_none t joints (joint id j) h s f b = refl
absent_none t joints (column x) h s f b = refl
absent_none t joints (beam x) h s f b = refl
absent_none t joints (wall_base x) h s f b = refl
absent_none t joints (soil x) h s f b = refl
absent_none t joints (detail x) h s f b = refl
absent_none t joints building h s f b = refl
absent_none t joints (basement id x) h s f b = absurd (b id x refl)

pub no_rows_of : (t : State) (joints : JointTable) (c : Command) → ((x : Column) → c ≡ column x → ⊥) → ((x : Beam) → c ≡ beam x → ⊥) → ((id1 id2 : ℕ) (m : Hingeless) → c ≡ hingeless id1 id2 m → ⊥) → ((x : WallBase) → c ≡ wall_base x → ⊥) → ((x : Storey) → c ≡ storey x → ⊥) → ((x : Footing) → c ≡ footing x → ⊥) → ((x : Detail) → c ≡ detail x → ⊥) → ((id : ℕ) (x : Basement) → c ≡ basement id x → ⊥) → rows_from t joints c ≡ []
unfolding rows_from
no_rows_of t joints (column x) k b h w s f d u = absurd (k x refl)
no_rows_of t joints (beam x) k b h w s f d u = absurd (b x refl)
no_rows_of t joints (hingeless id1 id2 m) k b h w s f d u = absurd (h id1 id2 m refl)
no_rows_of t joints (wall_base x) k b h w s f d u = absurd (w x refl)
no_rows_of t joints (storey x) k b h w s f d u = absurd (s x refl)
no_rows_of t joints (footing x) k b h w s f d u = absurd (f x refl)
no_rows_of t joints (detail x) k b h w s f d u = absurd (d x refl)
no_rows_of t joints (basement id x) k b h w s f d u = absurd (u id x refl)
no_rows_of t joints finish k b h w s f d u = refl
no_rows_of t joints (settings x) k b h w s f d u = refl
no_rows_of t joints (joint id j) k b h w s f d u = refl
no_rows_of t joints (soil x) k b h w s f d u = refl
no_rows_of t joints building k b h w s f d u = refl

pub one_row_of : (c : Command) → (c ≡ finish → ⊥) → ((x : Settings) → c ≡ settings x → ⊥) → ((id : ℕ) (j : Joint) → c ≡ joint id j → ⊥) → ((x : SoilGiven) → c ≡ soil x → ⊥) → ((x : Footing) → c ≡ footing x → ⊥) → ((id : ℕ) (x : Basement) → c ≡ basement id x → ⊥) → (c ≡ building → ⊥) → row_count c ≡ 1
unfolding row_count
one_row_of finish n s j o f b g = absurd (n refl)
one_row_of (settings x) n s j o f b g = absurd (s x refl)
one_row_of (joint id x) n s j o f b g = absurd (j id x refl)
one_row_of (soil x) n s j o f b g = absurd (o x refl)
one_row_of (footing x) n s j o f b g = absurd (f x refl)
one_row_of (column x) n s j o f b g = refl
one_row_of (beam x) n s j o f b g = refl
one_row_of (hingeless id1 id2 m) n s j o f b g = refl
one_row_of (wall_base x) n s j o f b g = refl
one_row_of (storey x) n s j o f b g = refl
one_row_of (detail x) n s j o f b g = refl
one_row_of (basement id x) n s j o f b g = absurd (b id x refl)
one_row_of building n s j o f b g = absurd (g refl)

-- ---- a byte that is 0 or unknown

pub no_forms : (b : ℕ) → (0 < b → known b ≡ false) → forms_of b ≡ []
unfolding forms_of forms_in
no_forms zero h = refl
no_forms (suc b) h = none (suc b) (h (omega arith))

pub no_command : (b : ℕ) (v : ℕ → ℕ) → (0 < b → known b ≡ false) → command_of b v ≡ finish
unfolding command_of
no_command zero v h = refl
no_command (suc b) v h = command_other (suc b) v (h (omega arith))

-- ---- a footing that does not fit its slice

pub footing_answer : (f : Footing) (room : ℕ) → in_range (footing f) ≡ true → room < 58 → write_file_of (one (footing f)) room ≡ refused_with 11
unfolding bytes_of operand_bytes big_endian width forms_of forms_in
footing_answer f room r h = answer_11 (one (footing f)) r room h

pub footing_slice : (f : Footing) (before : List ℕ) → in_range (footing f) ≡ true → length before < 58 → file_bytes_after (one (footing f)) before ≡ before
unfolding bytes_of operand_bytes big_endian width forms_of forms_in
footing_slice f before r h = slice_11 (one (footing f)) r before h
