-- Commands one after the other, off the state and the joints: they leave a state and joints that show what holds then, and have the
-- rows that the context gives. Assumes nothing.
use mathlib.Core.Path.{◌≡◌, refl, sym, ap, ap₂, ◌∙◌, subst}
use mathlib.Core.Bool.{Bool, true, false, cond}
use mathlib.Core.List.{List, [], ◌∷◌, ◌++◌, map}
use Prim.Native.Nat.{ℕ, ◌+◌, ◌≤◌}
use native.Mathlib.Omega.{arith}
use lib.Dec.{lit<}
use lib.IntN.{ℤ}
use lib.ListN.{length, length-map, length-append}
use Rattle.layout.specs.Forms.{width}
use Rattle.layout.specs.Layouts.{forms_of, forms_in}
use Rattle.layout.specs.Operands.{byte_at, operands_at}
use Rattle.layout.proofs.Numbers.{Bytes}
use Rattle.layout.proofs.KnownBytes.{each_byte}
use Rattle.layout.proofs.OperandsRead.{at, Fit, operands_fit}
use Rattle.std.specs.Prelude.{Option, None, Some}
use Rattle.walls.specs.declared.Wall.{Wall}
use Rattle.walls.specs.declared.Storey.{Storey}
use Rattle.format.specs.declared.Command.{Command}
use Rattle.format.specs.declared.Command.TheVariants.{Finish as finish, Settings as settings}
use Rattle.format.specs.Commands.{byte_of, command_of, in_range}
use Rattle.format.specs.Reading.{command_at}
use Rattle.format.proofs.OtherBytes.{command_other}
use Rattle.blocks.specs.Sets.{is_block, sets_of, all_in_range}
use Rattle.blocks.proofs.Sets.{each_in_range}
use Rattle.blocks.specs.FileCommands.{file_command_at, storeys_from, commands_from}
use Rattle.blocks.proofs.FileCommands.{at_one, at_block}
use Rattle.context.specs.declared.State.{State}
use Rattle.context.specs.Context.{Context, next, given}
use Rattle.context.specs.Running.{JointTable, running, next_state, next_joints, SoundState, SoundJoints}
use Rattle.context.proofs.Laws.{next_sound, joints_sound}
use Rattle.context.proofs.Shown.{Shows, IdsFit, InPlace, settings_given_lem, shows_next}
use Rattle.rows.specs.Rows.{row_count, rows_of, words}
use Rattle.rows.specs.Writing.{running_storey_row, rows_from, set_rows, set_rows_running}
use Rattle.rows.proofs.Memory.{Eights}
use Rattle.rows.proofs.Laws.{words_eight, eights_both, count_le}
use Rattle.rows.proofs.RowsSame.{rows_same, rows_as_many}
use Rattle.job.specs.Faults.{misplaced}
use Rattle.job.specs.Placed.{Placed, context_after, place_each, all_rows}
use Rattle.job.specs.Walking.{state_through, joints_through, row_counts, rows_through}
use Rattle.job.proofs.Faultless.{Standing, Chained}

-- ---- a command read from bytes has ids that are bytes

ids_fit : (byte : ℕ) (v : ℕ → ℕ) → Fit byte v → IdsFit (command_of byte v)
unfolding command_of forms_of forms_in width
ids_fit byte v =
    each_byte (λ b. Fit b v → IdsFit (command_of b v)) (λ f. tt) (λ f. tt) (λ f. f 0 (lit< tt)) (λ f. tt) (λ f. tt) (λ f. (f 1 (lit< tt), f 2 (lit< tt))) (λ f. tt) (λ f. tt) (λ f. tt) (λ f. tt) (λ f. tt)
    (λ f. f 1 (lit< tt)) (λ f. tt) (λ b h f. subst IdsFit (sym (command_other b v h)) tt) byte

pub ids_read : (job : List ℕ) (offset : ℕ) → Bytes job → IdsFit (command_at job offset)
unfolding command_at
ids_read job offset b = ids_fit (byte_at job offset) (at (operands_at job offset)) (operands_fit job offset b)

abbrev pub AllFit : List (ℕ × Command) → Type 0
AllFit [] = Unit {0}
AllFit ((at, c) ∷ cs) = IdsFit c × AllFit cs

storeys_fit : (at : ℕ) (ss : List Storey) → AllFit (storeys_from at ss)
storeys_fit at [] = tt
storeys_fit at (s ∷ ss) = (tt, storeys_fit (at + 24) ss)

-- so have those of a block
pub ids_given : (job : List ℕ) (offset : ℕ) → Bytes job → AllFit (commands_from offset (file_command_at job offset))
ids_given job offset b = by (is_block (byte_at job offset)) refl
  where
    by : (k : Bool) → is_block (byte_at job offset) ≡ k → AllFit (commands_from offset (file_command_at job offset))
    by true e = rw (at_block job offset e) (storeys_fit (offset + 2) (sets_of job offset))
    by false e = rw (at_one job offset e) (ids_read job offset b, tt)

-- ---- a command that passes the test of settings is in its place

first_place_lem : (g : Bool) → cond g true false ≡ false → g ≡ false
first_place_lem true e = e
first_place_lem false e = refl

later_place : (g : Bool) → cond g false true ≡ false → g ≡ true
later_place true e = refl
later_place false e = sym e

in_place : (t : State) (c : Command) → misplaced (byte_of c) (given t.settings) ≡ false → InPlace t c
unfolding misplaced
in_place t finish e = tt
in_place t (settings s) e = first_place_lem (given t.settings) e
in_place t _ e = later_place (given t.settings) e

-- ---- one command, then the others

module _ (room : Bool) (t : State) (joints : JointTable) (h : Context) (s : Shows room t joints h) (at : ℕ) (c : Command) where
  abbrev here : Placed
  here = record { offset = at; command = c; context = h }

  placed_here : Standing here → InPlace t c
  placed_here w = in_place t c (ap (λ (g : Bool). misplaced (byte_of c) g) (sym (settings_given_lem room t joints h s)) ∙ w.settings)

  shown_here : IdsFit c → Standing here → Shows room (next_state room t c) (next_joints joints c) (next h c)
  shown_here i w = shows_next room t joints h s c i (placed_here w)

-- they leave a state and joints that show what holds then
pub shows_through : (room : Bool) (t : State) (joints : JointTable) (h : Context) → Shows room t joints h → (cs : List (ℕ × Command)) → AllFit cs → Chained h (place_each h cs) →
    Shows room (state_through room t cs) (joints_through joints cs) (context_after h (place_each h cs))
shows_through room t joints h s [] f k = s
shows_through room t joints h s ((at, c) ∷ cs) (i, f) (e, w, k) =
    shows_through room (next_state room t c) (next_joints joints c) (next h c) (shown_here room t joints h s at c i w) cs f k

-- where rows are to be written they are those of the context
pub rows_through_lem : (t : State) (joints : JointTable) (h : Context) → Shows true t joints h → (cs : List (ℕ × Command)) → AllFit cs → Chained h (place_each h cs) → rows_through true t joints cs ≡ all_rows (place_each h cs)
unfolding rows_through all_rows
rows_through_lem t joints h s [] f k = refl
rows_through_lem t joints h s ((at, c) ∷ cs) (i, f) (e, w, k) =
    ap₂ ◌++◌
    (ap (map (words at (byte_of c))) (rows_same true t joints h s refl c i (placed_here true t joints h s at c w)))
    (rows_through_lem (next_state true t c) (next_joints joints c) (next h c) (shown_here true t joints h s at c i w) cs f k)

-- with room or without they are as many as are counted
pub rows_counted : (room : Bool) (t : State) (joints : JointTable) (h : Context) → Shows room t joints h → (cs : List (ℕ × Command)) → AllFit cs → Chained h (place_each h cs) → row_counts cs ≡ length (all_rows (place_each h cs))
unfolding all_rows
rows_counted room t joints h s [] f k = refl
rows_counted room t joints h s ((at, c) ∷ cs) (i, f) (e, w, k) =
    omega (
      arith,
      rows_counted room (next_state room t c) (next_joints joints c) (next h c) (shown_here room t joints h s at c i w) cs f k,
      length-append (map (words at (byte_of c)) (rows_of h c)) (all_rows (place_each (next h c) cs)),
      length-map (rows_of h c) (words at (byte_of c)),
      rows_as_many room t joints h s c (placed_here room t joints h s at c w) w.present,
    )

-- each row has eight words
pub eights_through : (room : Bool) (t : State) (joints : JointTable) (cs : List (ℕ × Command)) → Eights (rows_through room t joints cs)
unfolding rows_through
eights_through room t joints [] = tt
eights_through room t joints ((at, c) ∷ cs) =
    eights_both (map (words at (byte_of c)) (rows_from (next_state room t c) (next_joints joints c) c)) (rows_through room (next_state room t c) (next_joints joints c) cs)
    (words_eight at (byte_of c) (rows_from (next_state room t c) (next_joints joints c) c)) (eights_through room (next_state room t c) (next_joints joints c) cs)

-- ---- the storeys of a block leave the state and the joints, and have the rows of its sets

pub joints_kept : (joints : JointTable) (at : ℕ) (ss : List Storey) → joints_through joints (storeys_from at ss) ≡ joints
unfolding next_joints
joints_kept joints at [] = refl
joints_kept joints at (s ∷ ss) = joints_kept joints (at + 24) ss

-- one row each
pub storeys_counted : (at : ℕ) (ss : List Storey) → row_counts (storeys_from at ss) ≡ length ss
unfolding row_count
storeys_counted at [] = refl
storeys_counted at (s ∷ ss) = omega (arith, storeys_counted (at + 24) ss)

module _ (room : Bool) (t : State) (joints : JointTable) where
  pub state_kept : (at : ℕ) (ss : List Storey) → state_through room t (storeys_from at ss) ≡ t
  unfolding next_state
  state_kept at [] = refl
  state_kept at (s ∷ ss) = state_kept (at + 24) ss

  pub set_rows_through : (at : ℕ) (ss : List Storey) → rows_through room t joints (storeys_from at ss) ≡ set_rows_running (running t.wall) at ss
  unfolding next_state next_joints rows_through rows_from set_rows
  set_rows_through at ss = by (running t.wall) refl at ss
    where
      by : (o : Option Wall) → running t.wall ≡ o → (at : ℕ) (ss : List Storey) → rows_through room t joints (storeys_from at ss) ≡ set_rows_running o at ss
      by None e at [] = refl
      by None e at (s ∷ ss) = rw e (by None e (at + 24) ss)
      by (Some w) e at [] = refl
      by (Some w) e at (s ∷ ss) = rw e (ap (λ (xs : List (List ℤ)). words at 7 (running_storey_row w s) ∷ xs) (by (Some w) e (at + 24) ss))

-- ---- commands in range keep the state and the joints sound

abbrev pub AllIn : List (ℕ × Command) → Type 0
AllIn [] = Unit {0}
AllIn ((at, c) ∷ cs) = (in_range c ≡ true) × AllIn cs

pub all_in_storeys : (at : ℕ) (ss : List Storey) → all_in_range ss ≡ true → AllIn (storeys_from at ss)
all_in_storeys at [] r = tt
all_in_storeys at (s ∷ ss) r = let e = each_in_range s ss r in (e.0, all_in_storeys (at + 24) ss e.1)

pub sound_through : (room : Bool) (t : State) (cs : List (ℕ × Command)) → AllIn cs → SoundState t → SoundState (state_through room t cs)
sound_through room t [] i s = s
sound_through room t ((at, c) ∷ cs) (r, i) s = sound_through room (next_state room t c) cs i (next_sound room t c s r)

pub joints_sound_through : (joints : JointTable) (cs : List (ℕ × Command)) → AllIn cs → SoundJoints joints → SoundJoints (joints_through joints cs)
joints_sound_through joints [] i s = s
joints_sound_through joints ((at, c) ∷ cs) (r, i) s = joints_sound_through (next_joints joints c) cs i (joints_sound joints c s r)

-- two rows at most for each
pub row_counts_le : (cs : List (ℕ × Command)) → row_counts cs ≤ length cs + length cs
row_counts_le [] = omega arith
row_counts_le ((at, c) ∷ cs) = omega (arith, row_counts_le cs, count_le c)
