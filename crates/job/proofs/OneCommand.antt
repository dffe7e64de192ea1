-- The walk over one command of the file: off the state and the joints it finds the fault and makes the rows that the context gives, and
-- goes on behind the command, with a state and joints that show what holds then. Assumes nothing.
use mathlib.Core.Path.{◌≡◌, refl, sym, ap, ◌∙◌, subst}
use mathlib.Core.Bool.{Bool, true, false, not, cond}
use mathlib.Core.List.{List}
use Prim.Native.Nat.{ℕ, suc, ◌+◌, ◌*◌, ◌≤◌, ◌<◌}
use native.Mathlib.Omega.{arith}
use lib.IntN.{ℤ}
use lib.ListN.{length}
use borrow.Author.Tests.{leb-false, eqb-true}
use Rattle.layout.specs.Layouts.{known, operands_width}
use Rattle.layout.specs.Operands.{byte_at}
use Rattle.layout.proofs.Numbers.{Bytes}
use Rattle.format.specs.Reading.{command_at}
use Rattle.blocks.specs.Sets.{is_block, count_at}
use Rattle.blocks.specs.FileCommands.{width_at}
use Rattle.blocks.proofs.FileCommands.{width_one, width_block}
use Rattle.context.specs.Context.{Context, given}
use Rattle.context.specs.Running.{room_for, JointTable}
use Rattle.context.proofs.Shown.{Shows, settings_given_lem, walled_lem, absent_same}
use Rattle.rows.specs.Writing.{stored_all}
use Rattle.rows.proofs.Memory.{stored_all_keeps, stored_all_none}
use Rattle.job.specs.declared.Place.{Place}
use Rattle.job.specs.Faults.{misplaced, command_tests, block_tests}
use Rattle.job.specs.Placed.{Entry, entry_at, placed_in, all_rows}
use Rattle.job.specs.Walking.{command_fault, block_fault, fault_from, commands_here, joints_through, rows_through, rows_here, next_place, walk_from}
use Rattle.job.specs.Reached.{place_behind}
use Rattle.job.proofs.PlacedCases.{fault_at, context_behind}
use Rattle.job.proofs.Faultless.{or_false, or_true, command_fault_lem, block_fault_lem, Chained, Passed, passed, end_of_lem}
use Rattle.job.proofs.Steps.{walk_step_suc, onward, goes_on, one_fault, many_fault}
use Rattle.job.proofs.Through.{ids_read, ids_given, shows_through, rows_through_lem, rows_counted, eights_through}

-- ---- the fault off the state is the fault off the context

-- a block is in its place where settings are given
block_misplaced : (byte : ℕ) (g : Bool) → is_block byte ≡ true → misplaced byte g ≡ not g
unfolding misplaced
block_misplaced byte g b = rw (eqb-true byte 11 b) (by g)
  where
    by : (g : Bool) → cond g false true ≡ not g
    by true = refl
    by false = refl

module _ (room : Bool) (job : List ℕ) (p : Place) (joints : JointTable) (h : Context) (b : Bytes job) (s : Shows room p.state joints h) where
  one_same : is_block (byte_at job p.offset) ≡ false → fault_from job p joints ≡ fault_at job p.offset p.counts h
  unfolding command_fault command_tests
  one_same k =
      let after : p.offset + width_at job p.offset ≡ p.offset + 1 + operands_width (byte_at job p.offset) = omega (arith, width_one job p.offset k) in
      one_fault job p joints k
      ∙ sym (command_fault_lem job p.offset p.counts h k
      ∙ rw (k, or_false (known (byte_at job p.offset)), after, settings_given_lem room p.state joints h s, ← absent_same room p.state joints h s (command_at job p.offset) (ids_read job p.offset b)))

  many_same : is_block (byte_at job p.offset) ≡ true → fault_from job p joints ≡ fault_at job p.offset p.counts h
  unfolding block_fault block_tests
  many_same k =
      let after : p.offset + width_at job p.offset ≡ p.offset + 2 + 24 * count_at job p.offset = omega (arith, width_block job p.offset k) in
      many_fault job p joints k
      ∙ sym (block_fault_lem job p.offset p.counts h k
      ∙ rw (
        block_misplaced (byte_at job p.offset) (given h.settings) k,
        k,
        or_true (known (byte_at job p.offset)),
        after,
        settings_given_lem room p.state joints h s,
        walled_lem room p.state joints h s,
      ))

  pub fault_same : fault_from job p joints ≡ fault_at job p.offset p.counts h
  fault_same = by (is_block (byte_at job p.offset)) refl
    where
      by : (k : Bool) → is_block (byte_at job p.offset) ≡ k → fault_from job p joints ≡ fault_at job p.offset p.counts h
      by true e = many_same e
      by false e = one_same e

-- ---- its rows

module _ (job : List ℕ) (p : Place) (joints : JointTable) (h : Context) (b : Bytes job) (c : Chained h (placed_in (entry_at job p.offset h))) (memory : List ℤ) where
  abbrev own : List (List ℤ)
  own = all_rows (placed_in (entry_at job p.offset h))

  -- the rows of the commands at a place leave what those of the placed commands leave
  rows_alike : (room : Bool) → room_for (length memory) ≡ room → Shows room p.state joints h → stored_all memory p.rows (rows_here room job p joints) ≡ stored_all memory p.rows own
  unfolding rows_here
  rows_alike true r s = ap (stored_all memory p.rows) (rows_through_lem p.state joints h s (commands_here job p) (ids_given job p.offset b) c)
  rows_alike false r s =
      let l = leb-false 8 (length memory) r in
      stored_all_none memory p.rows (rows_through false p.state joints (commands_here job p)) (omega arith) ∙ sym (stored_all_none memory p.rows own (omega arith))

-- ---- what holds on the way

-- the walk goes on while the commands of the file do
pub record Going (room : Bool) (n : ℕ) (job : List ℕ) (p : Place) (joints : JointTable) (memory : List ℤ) (h : Context) : Type 0 where
  pub bytes : Bytes job
  pub shows : Shows room p.state joints h
  pub room_is : room_for (length memory) ≡ room
  pub left : 4097 ≤ p.counts.commands + n
  pub commands : p.counts.commands ≤ 4096
  pub offset : p.offset ≤ length job

going_on : (room : Bool) (n : ℕ) (job : List ℕ) (p : Place) (joints : JointTable) (memory : List ℤ) (h : Context) → Going room (suc n) job p joints memory h → Passed job p.offset p.counts h → (byte_at job p.offset ≡ 0 → ⊥) →
    Going room n job (next_place room job p) (joints_through joints (commands_here job p)) (stored_all memory p.rows (rows_here room job p joints)) (context_behind job p.offset h)
unfolding next_place rows_here
going_on room n job p joints memory h g f z =
    record {
      bytes = g.bytes;
      shows = shows_through room p.state joints h g.shows (commands_here job p) (ids_given job p.offset g.bytes) (f.chained z);
      room_is = ap room_for (stored_all_keeps memory p.rows (rows_through room p.state joints (commands_here job p)) (eights_through room p.state joints (commands_here job p))) ∙ g.room_is;
      left = omega (arith, g.left, f.some);
      commands = f.few z;
      offset = f.whole;
    }

-- ---- the walk over one command

-- at a command without fault that is no end
module _ (room : Bool) (job : List ℕ) (p : Place) (joints : JointTable) (memory : List ℤ) (h : Context) (n : ℕ) (g : Going room (suc n) job p joints memory h)
    (e : fault_at job p.offset p.counts h ≡ 0) (z : byte_at job p.offset ≡ 0 → ⊥) where
  -- the command, what it leaves of the joints, and the words that its rows leave
  abbrev pub first : Entry
  first = entry_at job p.offset h

  abbrev pub joints_then : JointTable
  joints_then = joints_through joints (commands_here job p)

  abbrev pub memory_then : List ℤ
  memory_then = stored_all memory p.rows (all_rows (placed_in first))

  without_fault : Passed job p.offset p.counts h
  without_fault = passed job p.offset p.counts h e

  alike : stored_all memory p.rows (rows_here room job p joints) ≡ memory_then
  alike = rows_alike job p joints h g.bytes (without_fault.chained z) memory room g.room_is g.shows

  behind : next_place room job p ≡ place_behind room p first
  unfolding next_place
  behind =
      rw (
        ← end_of_lem job p.offset p.counts h e,
        rows_counted room p.state joints h g.shows (commands_here job p) (ids_given job p.offset g.bytes) (without_fault.chained z),
      )

  -- the walk goes on behind it
  pub stepped : p.offset < length job → (m : ℕ) → walk_from room (suc m) job p joints memory ≡ walk_from room m job (place_behind room p first) joints_then memory_then
  stepped l m =
      walk_step_suc room job p joints memory m
      ∙ goes_on job p joints memory (onward room m job p joints memory) l (fault_same room job p joints h g.bytes g.shows ∙ e) z
      ∙ ap (λ (k : Place). walk_from room m job k joints_then (stored_all memory p.rows (rows_here room job p joints))) behind
      ∙ ap (walk_from room m job (place_behind room p first) joints_then) alike

  pub further : Going room n job (place_behind room p first) joints_then memory_then (context_behind job p.offset h)
  further =
      subst (λ (m : List ℤ). Going room n job (place_behind room p first) joints_then m (context_behind job p.offset h)) alike
      (subst (λ (k : Place). Going room n job k joints_then (stored_all memory p.rows (rows_here room job p joints)) (context_behind job p.offset h)) behind
      (going_on room n job p joints memory h g without_fault z))
