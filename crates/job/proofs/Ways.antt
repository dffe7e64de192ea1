-- The ways out of the walk, and the ways on, over the values that the code holds at a command of the file: one by itself, another
-- building, and a block.
-- Assumes nothing.
use mathlib.Core.Path.{◌≡◌, sym, ap, ◌∙◌, subst}
use mathlib.Core.Bool.{Bool, true, false}
use mathlib.Core.List.{List, [], ◌∷◌, map, append-nil}
use Prim.Native.Nat.{ℕ, zero, suc, ◌+◌, ◌-◌, ◌*◌, ◌/◌, ◌≤◌, ◌<◌}
use native.Mathlib.Omega.{arith}
use lib.Dec.{eqb}
use lib.IntN.{ℤ}
use lib.ListN.{length, length-map}
use Rattle.std.specs.Prelude.{slice_range}
use borrow.Author.Tests.{eqb-true}
use Rattle.layout.specs.Layouts.{operands_width}
use Rattle.layout.specs.Operands.{byte_at}
use Rattle.layout.proofs.Widths.{widths}
use Rattle.format.specs.declared.Command.{Command}
use Rattle.format.specs.declared.Command.TheVariants.{Storey as storey, Building as building}
use Rattle.format.specs.Commands.{byte_of, in_range}
use Rattle.format.specs.Reading.{command_at}
use Rattle.format.proofs.CommandRead.{byte_read}
use Rattle.format.proofs.RangeTest.{building_in_range}
use Rattle.blocks.specs.Sets.{is_block, count_at, sets_of, storeys_in}
use Rattle.blocks.specs.FileCommands.{FileCommand, one, file_command_at, storeys_from, commands_from}
use Rattle.blocks.proofs.Sets.{storeys_length}
use Rattle.blocks.proofs.FileCommands.{at_one, at_block, width_one, width_block}
use Rattle.context.specs.Running.{JointTable, no_joints, running, next_state, next_joints}
use Rattle.rows.specs.Rows.{row_count, words}
use Rattle.rows.specs.Writing.{rows_from, set_rows_running, stored_all}
use Rattle.job.specs.declared.Place.{Place}
use Rattle.job.specs.Counts.{counted}
use Rattle.job.specs.Faults.{is_building, seventeenth, after_command, operand_named}
use Rattle.job.specs.declared.Refusal.{Refusal}
use Rattle.job.specs.Refusals.{number_of, operand_of}
use Rattle.job.specs.Walking.{Refused, Finished, Paused, Final, late_fault, command_fault, building_fault, behind_building, block_fault, fault_from, outcome, commands_here, joints_through, row_counts, rows_through, rows_here, next_place}
use Rattle.job.proofs.Faultless.{count_below, begun_few}
use Rattle.job.proofs.Passing.{so_many}
use Rattle.job.proofs.ReadHere.{sets_width, sets_here}
use Rattle.job.proofs.Steps.{stop, onward, walk_none, walk_step, no_end, faulty, more_bytes, finished, some_number, early_here, early_due, late_is, late_due, CommandPassed, command_passed, building_read, no_sets, building_tests, BuildingPassed, building_passed, building_named, one_fault, many_fault, BlockPassed, block_passed}
use Rattle.job.proofs.Through.{all_in_storeys, state_kept, joints_kept, storeys_counted, set_rows_through}
use Rattle.job.proofs.Stands.{Within, Stands, moved}

-- a byte above 0 is no end's
no_end_there : (byte k : ℕ) → eqb byte (suc k) ≡ true → byte ≡ 0 → ⊥
no_end_there byte k b z = by (eqb-true byte (suc k) b)
  where
    by : byte ≡ suc k → ⊥
    by e = omega (arith, e, z)

-- ---- the commands at a place

module _ (job : List ℕ) (p : Place) where
  here_one : is_block (byte_at job p.offset) ≡ false → commands_here job p ≡ (p.offset, command_at job p.offset) ∷ []
  here_one b = ap (commands_from p.offset) (at_one job p.offset b)

  here_block : is_block (byte_at job p.offset) ≡ true → commands_here job p ≡ storeys_from (p.offset + 2) (sets_of job p.offset)
  here_block b = ap (commands_from p.offset) (at_block job p.offset b)

module _ {room : Bool} {whole : Final} {job : List ℕ} {rows₀ : List ℤ} {joints : JointTable} {rows : List ℤ} {p : Place} {left : ℕ} (s : Stands room whole job rows₀ joints rows p left) where
  abbrev rest : Final
  rest = onward room (left - 1) job p joints rows

  stepped : 0 < left → (f : Final) → outcome job p joints rows rest ≡ f → whole ≡ f
  stepped l f e = s.same ∙ walk_step room job p joints rows left l ∙ e

  pub pauses : left ≡ 0 → whole ≡ stop joints rows (Paused p)
  pauses e = s.same ∙ rw e (walk_none room job p joints rows)

  pub ends_short : 0 < left → length job ≤ p.offset → whole ≡ stop joints rows (Refused 1 p.offset 0)
  ends_short l h = stepped l _ (no_end job p joints rows rest h)

  -- a refusal that is due by the tests
  refused_here : 0 < left → p.offset < length job → (n o : ℕ) → 0 < n → fault_from job p joints ≡ n → o ≡ operand_named n (file_command_at job p.offset) → whole ≡ stop joints rows (Refused n p.offset o)
  refused_here l h zero o k f e = absurd (omega arith)
  refused_here l h (suc n) o k f e = stepped l _ (faulty job p joints rows rest h n f ∙ ap (λ (x : ℕ). stop joints rows (Refused (suc n) p.offset x)) (sym e))

  -- ---- a command by itself

  module _ (l : 0 < left) (h : p.offset < length job) (b : is_block (byte_at job p.offset) ≡ false) where
    refused_command : (r : Refusal) → (number_of r ≡ command_fault job p joints) × (operand_of r ≡ operand_named (number_of r) (file_command_at job p.offset)) → whole ≡ stop joints rows (Refused (number_of r) p.offset (operand_of r))
    refused_command r (n, o) = refused_here l h (number_of r) (operand_of r) (some_number r) (one_fault job p joints b ∙ sym n) o

    pub refused_early : (r : Refusal) → number_of r ≡ early_here job p joints → operand_of r ≡ 0 → whole ≡ stop joints rows (Refused (number_of r) p.offset (operand_of r))
    refused_early r n o = refused_command r (early_due job p joints r n o)

    pub refused_late : 0 ≡ early_here job p joints → {command : Command} → command ≡ command_at job p.offset → (r : Refusal) → number_of r ≡ late_fault p.state joints command → operand_of r ≡ operand_named (number_of r) (one command) →
        whole ≡ stop joints rows (Refused (number_of r) p.offset (operand_of r))
    refused_late z {command} e r n o = refused_command r (late_due job p joints z command e b r n o)

    -- its tests have passed
    module _ (z : 0 ≡ early_here job p joints) {command : Command} (e : command ≡ command_at job p.offset) (y : 0 ≡ late_fault p.state joints command) where
      none : 0 ≡ command_fault job p joints
      none = y ∙ late_is job p joints z command e

      passed : CommandPassed job p
      passed = command_passed job p joints (sym none)

      no_fault : fault_from job p joints ≡ 0
      no_fault = one_fault job p joints b ∙ sym none

      pub ranged : in_range command ≡ true
      ranged = rw e passed.ranged

      -- and it begins no building
      pub single : is_building (byte_at job p.offset) ≡ false → is_building (byte_of command) ≡ false
      single g = rw (e, byte_read job p.offset passed.known_byte) g

      pub bytes_after : byte_at job p.offset ≡ 0 → p.offset + 1 < length job → whole ≡ stop joints rows (Refused 3 (p.offset + 1) 0)
      bytes_after q m = stepped l _ (more_bytes job p joints rows rest h no_fault q m)

      pub done : byte_at job p.offset ≡ 0 → length job ≤ p.offset + 1 → whole ≡ stop joints rows (Finished p.rows)
      done q m = stepped l _ (finished job p joints rows rest h no_fault q m)

      -- what the command leaves
      module _ (joints' : JointTable) (rows' : List ℤ) (place' : Place) {behind : ℕ} (w : behind ≡ p.offset + 1 + operands_width (byte_at job p.offset))
          (e₁ : place' ≡ record { offset = behind; counts = counted p.counts (one command); rows = p.rows + row_count command; state = next_state room p.state command })
          (e₂ : joints' ≡ next_joints joints command)
          (e₃ : rows' ≡ stored_all rows p.rows (map (words p.offset (byte_of command)) (rows_from place'.state joints' command))) where
        given_one : one command ≡ file_command_at job p.offset
        given_one = ap one e ∙ sym (at_one job p.offset b)

        one_here : commands_here job p ≡ (p.offset, command) ∷ []
        one_here = rw e (here_one job p b)

        within : (byte_at job p.offset ≡ 0 → ⊥) → Within (counted p.counts (file_command_at job p.offset))
        within y =
            let c = command_at job p.offset in
            let k : byte_of c ≡ byte_at job p.offset = byte_read job p.offset passed.known_byte in
            subst (λ (d : FileCommand). Within (counted p.counts d)) (sym (at_one job p.offset b))
            (omega (arith, count_below (byte_at job p.offset) p.counts.commands y passed.few), begun_few (byte_of c) p.counts.buildings s.asks.buildings (ap (λ (x : ℕ). seventeenth x p.counts.buildings) k ∙ passed.buildings))

        own : map (words p.offset (byte_of command)) (rows_from place'.state joints' command) ≡ rows_here room job p joints
        unfolding rows_here rows_through
        own = rw (one_here, e₁, e₂) (sym (append-nil (map (words p.offset (byte_of command)) (rows_from (next_state room p.state command) (next_joints joints command) command))))

        place : place' ≡ next_place room job p
        unfolding next_place
        place =
            let n : p.rows + row_count command ≡ p.rows + row_counts (commands_here job p) = omega (arith, ap row_counts one_here) in
            let o : behind ≡ after_command job p.offset = omega (arith, w, width_one job p.offset b) in
            let k : counted p.counts (one command) ≡ counted p.counts (file_command_at job p.offset) = ap (counted p.counts) given_one in
            e₁ ∙ rw (n, o, k, one_here)

        pub on : (byte_at job p.offset ≡ 0 → ⊥) → Stands room whole job rows₀ joints' rows' place' (left - 1)
        on y =
            moved room whole job rows₀ joints rows p left s l h no_fault y
            (within y)
            (omega (arith, passed.whole, width_one job p.offset b)) (rw one_here (ranged, tt))
            joints' rows' place' (rw (one_here, e₂)) (e₃ ∙ ap (stored_all rows p.rows) own) place

  -- ---- another building

  module _ (l : 0 < left) (h : p.offset < length job) (b : is_building (byte_at job p.offset) ≡ true) where
    pub refused_building : (r : Refusal) → number_of r ≡ building_fault p → operand_of r ≡ 0 → whole ≡ stop joints rows (Refused (number_of r) p.offset (operand_of r))
    refused_building r n o =
        refused_here l h (number_of r) (operand_of r) (some_number r) (building_tests job p joints h b ∙ sym n)
        (o ∙ sym (building_named p (file_command_at job p.offset) (number_of r) (sym n)))

    module _ (z : 0 ≡ building_fault p) where
      tested_building : BuildingPassed p
      tested_building = building_passed p (sym z)

      building_given : file_command_at job p.offset ≡ one building
      building_given = at_one job p.offset (no_sets job p joints h b) ∙ ap one (building_read job p joints h b)

      building_here : commands_here job p ≡ (p.offset, building) ∷ []
      building_here = ap (commands_from p.offset) building_given

      building_width : after_command job p.offset ≡ p.offset + 1
      building_width = omega (arith, width_one job p.offset (no_sets job p joints h b), ap operands_width (eqb-true (byte_at job p.offset) 13 b), widths.building)

      building_place : behind_building p ≡ next_place room job p
      unfolding next_place next_state row_count
      building_place =
          let n : p.rows ≡ p.rows + row_counts (commands_here job p) = omega (arith, ap row_counts building_here) in
          let k : counted p.counts (one building) ≡ counted p.counts (file_command_at job p.offset) = ap (counted p.counts) (sym building_given) in
          rw (building_width, ← n, ← k, building_here)

      building_rows : rows ≡ stored_all rows p.rows (rows_here room job p joints)
      unfolding rows_here rows_through rows_from stored_all
      building_rows = rw building_here

      pub building_on : (joints' : JointTable) (p' : Place) → joints' ≡ no_joints → p' ≡ behind_building p → Stands room whole job rows₀ joints' rows p' (left - 1)
      unfolding next_joints
      building_on joints' p' ej ep =
          moved room whole job rows₀ joints rows p left s l h (building_tests job p joints h b ∙ sym z) (no_end_there (byte_at job p.offset) 12 b)
          (subst (λ (d : FileCommand). Within (counted p.counts d)) (sym building_given) (omega (arith, tested_building.few), omega (arith, tested_building.buildings)))
          (omega (arith, building_width)) (rw building_here (building_in_range, tt))
          joints' rows p' (ej ∙ rw building_here) building_rows (ep ∙ building_place)

  -- ---- a block

  module _ (l : 0 < left) (h : p.offset < length job) (b : is_block (byte_at job p.offset) ≡ true) where
    pub refused_block : (r : Refusal) → number_of r ≡ block_fault job p → operand_of r ≡ operand_named (number_of r) (file_command_at job p.offset) → whole ≡ stop joints rows (Refused (number_of r) p.offset (operand_of r))
    refused_block r n o = refused_here l h (number_of r) (operand_of r) (some_number r) (many_fault job p joints b ∙ sym n) o

    module _ (z : 0 ≡ block_fault job p) where
      tested_block : BlockPassed job p
      tested_block = block_passed job p (sym z)

      -- what the block leaves
      module _ (sets : List ℕ) (e : sets ≡ slice_range job (p.offset + 2) (p.offset + 2 + 24 * count_at job p.offset)) (rows' : List ℤ) (written : ℕ)
          (e₁ : rows' ≡ stored_all rows p.rows (set_rows_running (running p.state.wall) (p.offset + 2) (storeys_in sets))) (e₂ : written ≡ p.rows + length sets / 24) where
        block_here : commands_here job p ≡ storeys_from (p.offset + 2) (sets_of job p.offset)
        block_here = here_block job p b

        width : length sets ≡ 24 * count_at job p.offset
        width = sets_width job p.offset tested_block.whole e

        counted_sets : length sets / 24 ≡ count_at job p.offset
        counted_sets = omega (arith, width)

        block_own : set_rows_running (running p.state.wall) (p.offset + 2) (storeys_in sets) ≡ rows_here room job p joints
        unfolding rows_here
        block_own =
            ap (set_rows_running (running p.state.wall) (p.offset + 2)) (sets_here job p.offset tested_block.whole e)
            ∙ sym (ap (rows_through room p.state joints) block_here ∙ set_rows_through room p.state joints (p.offset + 2) (sets_of job p.offset))

        abbrev block_behind : Place
        block_behind = record { offset = p.offset + 2 + length sets; counts = record { commands = p.counts.commands + length sets / 24; buildings = p.counts.buildings }; rows = written; state = p.state }

        -- what is counted with it
        block_counts : block_behind.counts ≡ counted p.counts (file_command_at job p.offset)
        block_counts =
            let n : length sets / 24 ≡ length (map (λ t. storey t) (sets_of job p.offset)) =
            counted_sets ∙ sym (length-map (sets_of job p.offset) (λ t. storey t) ∙ storeys_length (count_at job p.offset) job (p.offset + 2)) in
            ap (λ (k : ℕ). so_many p.counts.buildings (p.counts.commands + k)) n ∙ ap (counted p.counts) (sym (at_block job p.offset b))

        block_place : block_behind ≡ next_place room job p
        unfolding next_place
        block_place =
            let n : written ≡ p.rows + row_counts (commands_here job p) =
            omega (arith, e₂, counted_sets, ap row_counts block_here, storeys_counted (p.offset + 2) (sets_of job p.offset), storeys_length (count_at job p.offset) job (p.offset + 2)) in
            let o : p.offset + 2 + length sets ≡ after_command job p.offset = omega (arith, width, width_block job p.offset b) in
            rw (n, o, block_counts, block_here, state_kept room p.state joints (p.offset + 2) (sets_of job p.offset))

        pub block_on : Stands room whole job rows₀ joints rows' block_behind (left - 1)
        block_on =
            moved room whole job rows₀ joints rows p left s l h (many_fault job p joints b ∙ sym z) (no_end_there (byte_at job p.offset) 10 b)
            (subst Within block_counts (omega (arith, counted_sets, tested_block.few), s.asks.buildings))
            (omega (arith, tested_block.whole, width_block job p.offset b))
            (rw block_here (all_in_storeys (p.offset + 2) (sets_of job p.offset) tested_block.ranged))
            joints rows' block_behind
            (sym (ap (joints_through joints) block_here ∙ joints_kept joints (p.offset + 2) (sets_of job p.offset))) (e₁ ∙ ap (stored_all rows p.rows) block_own) block_place
