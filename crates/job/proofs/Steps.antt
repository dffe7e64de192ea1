-- One step of the walk over plain values: what stops it, and how it goes on. Assumes nothing.
use mathlib.Core.Path.{◌≡◌, refl, sym, ap, ◌∙◌}
use mathlib.Core.Bool.{Bool, true, false, not, cond}
use mathlib.Core.List.{List, [], ◌∷◌, ◌++◌}
use Prim.Native.Nat.{ℕ, zero, suc, ◌+◌, ◌-◌, ◌*◌, ◌≤◌, ◌<◌}
use native.Mathlib.Omega.{arith}
use lib.Dec.{lit<, leb, ltb}
use lib.IntN.{ℤ}
use lib.ListN.{length}
use borrow.Author.Tests.{le-leb, lt-leb, lt-ltb, le-ltb, ne_eqb, ltb-false, leb-false, eqb-true}
use Rattle.std.specs.Prelude.{Some}
use Rattle.layout.specs.Layouts.{known, known_in, forms_of, forms_in, width_of_all, operands_width}
use Rattle.layout.specs.Operands.{byte_at}
use Rattle.format.specs.declared.Command.{Command}
use Rattle.format.specs.declared.Command.TheVariants.{Building as building}
use Rattle.format.specs.Commands.{command_of, in_range}
use Rattle.format.specs.Reading.{command_at}
use Rattle.format.proofs.RangeTest.{building_in_range}
use Rattle.blocks.specs.Sets.{is_block, count_at, count_in_range, sets_of, all_in_range, operand_named as set_named}
use Rattle.blocks.specs.FileCommands.{FileCommand, one, file_command_at, file_operand_at_fault}
use Rattle.blocks.proofs.Sets.{storeys_length, set_found}
use Rattle.blocks.proofs.FileCommands.{at_one, at_block}
use Rattle.context.specs.Context.{given}
use Rattle.context.specs.Running.{JointTable, walled, absent_in}
use Rattle.rows.specs.Writing.{stored_all}
use Rattle.job.specs.declared.Counts.{Counts}
use Rattle.job.specs.declared.Place.{Place}
use Rattle.job.specs.declared.Refusal.{Refusal}
use Rattle.job.specs.declared.Refusal.TheVariants.{CutShort, Unknown, BytesAfterEnd, MisplacedSettings, OutOfRange, Absent, TooMany, TooManyBuildings}
use Rattle.job.specs.Refusals.{number_of, operand_of}
use Rattle.job.specs.Faults.{is_building, too_many, seventeenth, misplaced, passes_limit, first_of, operand_named}
use Rattle.job.specs.Walking.{early_tests, early_fault, late_tests, late_fault, command_fault, building_fault, block_fault, fault_from, WalkAnswer, Refused, Finished, Paused, Final, commands_here, joints_through, rows_here, next_place, outcome, walk_from}

abbrev pub stop : JointTable → List ℤ → WalkAnswer → Final
stop joints memory a = record { answer = a; joints = joints; memory = memory }

-- the rest of the walk after the command at a place
abbrev pub onward : Bool → ℕ → List ℕ → Place → JointTable → List ℤ → Final
onward room n job p joints memory =
    walk_from room n job (next_place room job p) (joints_through joints (commands_here job p)) (stored_all memory p.rows (rows_here room job p joints))

module _ (room : Bool) (job : List ℕ) (p : Place) (joints : JointTable) (memory : List ℤ) where
  pub walk_none : walk_from room 0 job p joints memory ≡ stop joints memory (Paused p)
  unfolding walk_from
  walk_none = refl

  pub walk_step_suc : (n : ℕ) → walk_from room (suc n) job p joints memory ≡ outcome job p joints memory (onward room n job p joints memory)
  unfolding walk_from
  walk_step_suc n = refl

  pub walk_step : (left : ℕ) → 0 < left → walk_from room left job p joints memory ≡ outcome job p joints memory (onward room (left - 1) job p joints memory)
  unfolding walk_from
  walk_step left h =
      let e : left ≡ suc (left - 1) = omega arith in
      ap (λ (n : ℕ). walk_from room n job p joints memory) e

module _ (job : List ℕ) (p : Place) (joints : JointTable) (memory : List ℤ) (rest : Final) where
  pub no_end : length job ≤ p.offset → outcome job p joints memory rest ≡ stop joints memory (Refused 1 p.offset 0)
  unfolding outcome
  no_end h = rw (le-leb (length job) p.offset h)

  module _ (h : p.offset < length job) where
    pub faulty : (k : ℕ) → fault_from job p joints ≡ suc k → outcome job p joints memory rest ≡ stop joints memory (Refused (suc k) p.offset (operand_named (suc k) (file_command_at job p.offset)))
    unfolding outcome
    faulty k e = rw (lt-leb (length job) p.offset h, e, lt-ltb 0 (suc k) (omega arith))

    module _ (e : fault_from job p joints ≡ 0) where
      pub more_bytes : byte_at job p.offset ≡ 0 → p.offset + 1 < length job → outcome job p joints memory rest ≡ stop joints memory (Refused 3 (p.offset + 1) 0)
      unfolding outcome
      more_bytes b m = rw (lt-leb (length job) p.offset h, e, b, lt-ltb (p.offset + 1) (length job) m)

      pub finished : byte_at job p.offset ≡ 0 → length job ≤ p.offset + 1 → outcome job p joints memory rest ≡ stop joints memory (Finished p.rows)
      unfolding outcome
      finished b m = rw (lt-leb (length job) p.offset h, e, b, le-ltb (p.offset + 1) (length job) m)

      pub goes_on : (byte_at job p.offset ≡ 0 → ⊥) → outcome job p joints memory rest ≡ rest
      unfolding outcome
      goes_on b = rw (lt-leb (length job) p.offset h, e, ne_eqb (byte_at job p.offset) 0 b)

-- a fault among the first tests is the fault
first_front : (ts us : List (Bool × ℕ)) (n : ℕ) → first_of ts ≡ suc n → first_of (ts ++ us) ≡ suc n
first_front [] us n e = absurd (none n e)
  where
    none : (n : ℕ) → 0 ≡ suc n → ⊥
    none n e = omega arith
first_front ((true, k) ∷ ts) us n e = e
first_front ((false, k) ∷ ts) us n e = first_front ts us n e

-- each has a number
abbrev Found : List (Bool × ℕ) → Type 0
Found [] = Unit {0}
Found ((b, k) ∷ ts) = (k ≡ 0 → ⊥) × Found ts

no_zero : (k : ℕ) → suc k ≡ 0 → ⊥
no_zero k e = omega arith

-- no operand is named but by 5
pub not_named : (n : ℕ) (c : FileCommand) → (n ≡ 5 → ⊥) → operand_named n c ≡ 0
not_named n c d = rw (ne_eqb n 5 d)

-- ---- a command by itself: the tests that need the byte alone

-- none of them is 5
pub early_named : (bytes at byte : ℕ) (counts : Counts) (given : Bool) (c : FileCommand) (n : ℕ) → early_fault bytes at byte counts given ≡ n → operand_named n c ≡ 0
unfolding early_fault
early_named bytes at byte counts given c n e = not_named n c (λ z. never (not (known byte)) (ltb bytes _) (too_many byte counts.commands) (seventeenth byte counts.buildings) (misplaced byte given) (e ∙ z))
  where
    never : (k s m b g : Bool) → first_of ((k, 2) ∷ (s, 1) ∷ (m, 8) ∷ (b, 13) ∷ (g, 4) ∷ []) ≡ 5 → ⊥
    never true s m b g e = omega arith
    never false true m b g e = omega arith
    never false false true b g e = omega arith
    never false false false true g e = omega arith
    never false false false false true e = omega arith
    never false false false false false e = omega arith

pub some_number : (r : Refusal) → 0 < number_of r
some_number CutShort = lit< tt
some_number Unknown = lit< tt
some_number BytesAfterEnd = lit< tt
some_number MisplacedSettings = lit< tt
some_number (OutOfRange operand) = lit< tt
some_number Absent = lit< tt
some_number TooMany = lit< tt
some_number TooManyBuildings = lit< tt

-- where none of the first finds a fault, the fault is that of the others
behind : (ts us : List (Bool × ℕ)) → Found ts → first_of ts ≡ 0 → first_of (ts ++ us) ≡ first_of us
behind [] us f z = refl
behind ((true, k) ∷ ts) us f z = absurd (f.0 z)
behind ((false, k) ∷ ts) us f z = behind ts us f.1 z

module _ (job : List ℕ) (p : Place) (joints : JointTable) where
  abbrev here : FileCommand
  here = file_command_at job p.offset

  abbrev pub early_here : ℕ
  early_here = early_fault (length job) p.offset (byte_at job p.offset) p.counts (given p.state.settings)

  early_first : (n : ℕ) → 0 < n → n ≡ early_here → n ≡ command_fault job p joints
  unfolding early_fault command_fault
  early_first zero l e = absurd (omega arith)
  early_first (suc n) l e =
      sym (first_front (early_tests (length job) p.offset (byte_at job p.offset) p.counts (given p.state.settings)) (late_tests p.state joints (command_at job p.offset)) n (sym e))

  -- the number of a refusal that is due by them, and the operand that it names
  pub early_due : (r : Refusal) → number_of r ≡ early_here → operand_of r ≡ 0 → (number_of r ≡ command_fault job p joints) × (operand_of r ≡ operand_named (number_of r) here)
  early_due r e o = (
    early_first (number_of r) (some_number r) e,
    o ∙ sym (early_named (length job) p.offset (byte_at job p.offset) p.counts (given p.state.settings) here (number_of r) (sym e)),
  )

  -- the other tests, behind these
  module _ (z : 0 ≡ early_here) (c : Command) (q : c ≡ command_at job p.offset) where
    pub late_is : late_fault p.state joints c ≡ command_fault job p joints
    unfolding early_fault late_fault command_fault
    late_is =
        rw q (
        sym (behind (early_tests (length job) p.offset (byte_at job p.offset) p.counts (given p.state.settings)) (late_tests p.state joints (command_at job p.offset)) (no_zero 1, (no_zero 0, (no_zero 7, (no_zero 12, (no_zero 3, tt))))) (sym z))
        )

    pub late_due : is_block (byte_at job p.offset) ≡ false → (r : Refusal) → number_of r ≡ late_fault p.state joints c → operand_of r ≡ operand_named (number_of r) (one c) →
        (number_of r ≡ command_fault job p joints) × (operand_of r ≡ operand_named (number_of r) here)
    late_due b r e o = (e ∙ late_is, o ∙ ap (operand_named (number_of r)) (ap one q ∙ sym (at_one job p.offset b)))

  -- of a command by itself these are the tests
  pub one_fault : is_block (byte_at job p.offset) ≡ false → fault_from job p joints ≡ command_fault job p joints
  unfolding fault_from
  one_fault b = rw b

-- all of them have passed
pub record CommandPassed (job : List ℕ) (p : Place) : Type 0 where
  pub known_byte : known (byte_at job p.offset) ≡ true
  pub whole : p.offset + 1 + operands_width (byte_at job p.offset) ≤ length job
  pub few : too_many (byte_at job p.offset) p.counts.commands ≡ false
  pub buildings : seventeenth (byte_at job p.offset) p.counts.buildings ≡ false
  pub ranged : in_range (command_at job p.offset) ≡ true

pub command_passed : (job : List ℕ) (p : Place) (joints : JointTable) → command_fault job p joints ≡ 0 → CommandPassed job p
unfolding command_fault
command_passed job p joints =
    by (known (byte_at job p.offset)) (ltb (length job) (p.offset + 1 + operands_width (byte_at job p.offset))) (too_many (byte_at job p.offset) p.counts.commands) (seventeenth (byte_at job p.offset) p.counts.buildings) (misplaced (byte_at job p.offset) (given p.state.settings)) (in_range (command_at job p.offset)) (absent_in p.state joints (command_at job p.offset))
    refl refl refl refl refl
  where
    by : (k s m b g r a : Bool) → known (byte_at job p.offset) ≡ k → ltb (length job) (p.offset + 1 + operands_width (byte_at job p.offset)) ≡ s → too_many (byte_at job p.offset) p.counts.commands ≡ m → seventeenth (byte_at job p.offset) p.counts.buildings ≡ b → in_range (command_at job p.offset) ≡ r →
        first_of ((not k, 2) ∷ (s, 1) ∷ (m, 8) ∷ (b, 13) ∷ (g, 4) ∷ (not r, 5) ∷ (a, 6) ∷ []) ≡ 0 → CommandPassed job p
    by false s m b g r a e1 e2 e3 e4 e5 z = absurd (no_zero 1 z)
    by true true m b g r a e1 e2 e3 e4 e5 z = absurd (no_zero 0 z)
    by true false true b g r a e1 e2 e3 e4 e5 z = absurd (no_zero 7 z)
    by true false false true g r a e1 e2 e3 e4 e5 z = absurd (no_zero 12 z)
    by true false false false true r a e1 e2 e3 e4 e5 z = absurd (no_zero 3 z)
    by true false false false false false a e1 e2 e3 e4 e5 z = absurd (no_zero 4 z)
    by true false false false false true a e1 e2 e3 e4 e5 z = record { known_byte = e1; whole = ltb-false (length job) (p.offset + 1 + operands_width (byte_at job p.offset)) e2; few = e3; buildings = e4; ranged = e5 }

-- ---- another building

-- the tests of a command by itself come down to its own there
module _ (job : List ℕ) (p : Place) (joints : JointTable) (l : p.offset < length job) (b : is_building (byte_at job p.offset) ≡ true) where
  building_byte : byte_at job p.offset ≡ 13
  building_byte = eqb-true (byte_at job p.offset) 13 b

  pub building_read : command_at job p.offset ≡ building
  unfolding command_at command_of
  building_read = rw building_byte

  pub no_sets : is_block (byte_at job p.offset) ≡ false
  no_sets = rw building_byte

  no_operands : operands_width 13 ≡ 0
  unfolding operands_width width_of_all forms_of forms_in
  no_operands = refl

  pub building_tests : fault_from job p joints ≡ building_fault p
  unfolding command_fault building_fault known known_in too_many seventeenth misplaced absent_in
  building_tests =
      let whole : ltb (length job) (p.offset + 1 + operands_width 13) ≡ false = le-ltb (length job) (p.offset + 1 + operands_width 13) (omega (arith, no_operands)) in
      one_fault job p joints no_sets ∙ rw (building_byte, whole, building_read, building_in_range) (by (leb 4096 p.counts.commands) (leb 16 p.counts.buildings) (given p.state.settings))
    where
      by : (m b g : Bool) → first_of ((false, 2) ∷ (false, 1) ∷ (m, 8) ∷ (b, 13) ∷ (cond g false true, 4) ∷ (false, 5) ∷ (false, 6) ∷ []) ≡ first_of ((m, 8) ∷ (b, 13) ∷ (not g, 4) ∷ [])
      by m b true = refl
      by m b false = refl

-- its tests have passed
pub record BuildingPassed (p : Place) : Type 0 where
  pub few : p.counts.commands < 4096
  pub buildings : p.counts.buildings < 16

pub building_passed : (p : Place) → building_fault p ≡ 0 → BuildingPassed p
unfolding building_fault
building_passed p = by (leb 4096 p.counts.commands) (leb 16 p.counts.buildings) (given p.state.settings) refl refl
  where
    by : (m b g : Bool) → leb 4096 p.counts.commands ≡ m → leb 16 p.counts.buildings ≡ b → first_of ((m, 8) ∷ (b, 13) ∷ (not g, 4) ∷ []) ≡ 0 → BuildingPassed p
    by true b g e1 e2 z = absurd (no_zero 7 z)
    by false true g e1 e2 z = absurd (no_zero 12 z)
    by false false g e1 e2 z = record { few = leb-false 4096 p.counts.commands e1; buildings = leb-false 16 p.counts.buildings e2 }

-- and none of them is 5
pub building_named : (p : Place) (c : FileCommand) (n : ℕ) → building_fault p ≡ n → operand_named n c ≡ 0
unfolding building_fault
building_named p c n e = not_named n c (λ z. never (leb 4096 p.counts.commands) (leb 16 p.counts.buildings) (given p.state.settings) (e ∙ z))
  where
    never : (m b g : Bool) → first_of ((m, 8) ∷ (b, 13) ∷ (not g, 4) ∷ []) ≡ 5 → ⊥
    never true b g e = omega arith
    never false true g e = omega arith
    never false false true e = omega arith
    never false false false e = omega arith

-- ---- a block

pub many_fault : (job : List ℕ) (p : Place) (joints : JointTable) → is_block (byte_at job p.offset) ≡ true → fault_from job p joints ≡ block_fault job p
unfolding fault_from
many_fault job p joints b = rw b

module _ (job : List ℕ) (at : ℕ) (b : is_block (byte_at job at) ≡ true) where
  -- the count is operand 0
  pub count_named : count_in_range (count_at job at) ≡ false → file_operand_at_fault (file_command_at job at) ≡ 0
  unfolding file_operand_at_fault
  count_named h = rw (at_block job at b, storeys_length (count_at job at) job (at + 2), h)

  -- by what the search among the sets answered
  module _ (named : ℕ) (e : Some named ≡ set_named (sets_of job at)) where
    pub set_out : all_in_range (sets_of job at) ≡ false
    set_out = (set_found (sets_of job at) named e).0

    pub set_at : count_in_range (count_at job at) ≡ true → file_operand_at_fault (file_command_at job at) ≡ named
    unfolding file_operand_at_fault
    set_at h = rw (at_block job at b, storeys_length (count_at job at) job (at + 2), h) (set_found (sets_of job at) named e).1

-- all of them have passed
pub record BlockPassed (job : List ℕ) (p : Place) : Type 0 where
  pub count : count_in_range (count_at job p.offset) ≡ true
  pub whole : p.offset + 2 + 24 * count_at job p.offset ≤ length job
  pub few : p.counts.commands + count_at job p.offset ≤ 4096
  pub ranged : all_in_range (sets_of job p.offset) ≡ true

pub block_passed : (job : List ℕ) (p : Place) → block_fault job p ≡ 0 → BlockPassed job p
unfolding block_fault passes_limit
block_passed job p =
    by (leb (length job) (p.offset + 1)) (count_in_range (count_at job p.offset)) (ltb (length job) (p.offset + 2 + 24 * count_at job p.offset)) (ltb 4096 (p.counts.commands + count_at job p.offset)) (given p.state.settings) (walled p.state.wall) (all_in_range (sets_of job p.offset)) refl refl refl refl
  where
    by : (n i c m g w r : Bool) → count_in_range (count_at job p.offset) ≡ i → ltb (length job) (p.offset + 2 + 24 * count_at job p.offset) ≡ c → ltb 4096 (p.counts.commands + count_at job p.offset) ≡ m → all_in_range (sets_of job p.offset) ≡ r →
        first_of ((n, 1) ∷ (not i, 5) ∷ (c, 1) ∷ (m, 8) ∷ (not g, 4) ∷ (not w, 6) ∷ (not r, 5) ∷ []) ≡ 0 → BlockPassed job p
    by true i c m g w r e1 e2 e3 e4 z = absurd (no_zero 0 z)
    by false false c m g w r e1 e2 e3 e4 z = absurd (no_zero 4 z)
    by false true true m g w r e1 e2 e3 e4 z = absurd (no_zero 0 z)
    by false true false true g w r e1 e2 e3 e4 z = absurd (no_zero 7 z)
    by false true false false false w r e1 e2 e3 e4 z = absurd (no_zero 3 z)
    by false true false false true false r e1 e2 e3 e4 z = absurd (no_zero 5 z)
    by false true false false true true false e1 e2 e3 e4 z = absurd (no_zero 4 z)
    by false true false false true true true e1 e2 e3 e4 z =
        record {
          count = e1;
          whole = ltb-false (length job) (p.offset + 2 + 24 * count_at job p.offset) e2;
          few = ltb-false 4096 (p.counts.commands + count_at job p.offset) e3;
          ranged = e4;
        }
