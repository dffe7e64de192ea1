-- The invariant of the walk: the whole walk is what is left of it, with a sound state and sound joints. Assumes nothing.
use mathlib.Core.Path.{◌≡◌, refl, ◌∙◌}
use mathlib.Core.Bool.{Bool}
use mathlib.Core.List.{List}
use Prim.Native.Nat.{ℕ, ◌-◌, ◌≤◌, ◌<◌}
use native.Mathlib.Omega.{arith}
use lib.IntN.{ℤ}
use lib.ListN.{length}
use Rattle.layout.specs.Operands.{byte_at}
use Rattle.blocks.specs.FileCommands.{file_command_at}
use Rattle.blocks.proofs.FileCommands.{given_many}
use Rattle.context.specs.Running.{JointTable}
use Rattle.rows.specs.Writing.{stored_all}
use Rattle.rows.proofs.Memory.{stored_all_keeps}
use Rattle.job.specs.declared.Counts.{Counts}
use Rattle.job.specs.declared.Place.{Place}
use Rattle.job.specs.Counts.{counted}
use Rattle.job.specs.Faults.{after_command}
use Rattle.job.specs.Walking.{Final, fault_from, commands_here, joints_through, rows_through, rows_here, next_place, walk_from, WalkAsks}
use Rattle.job.proofs.Steps.{walk_step, goes_on, onward}
use Rattle.job.proofs.Through.{AllIn, sound_through, joints_sound_through, row_counts_le, eights_through}

-- within both limits
abbrev pub Within : Counts → Type 0
Within n = (n.commands ≤ 4096) × (n.buildings ≤ 16)

pub record Stands (room : Bool) (whole : Final) (job : List ℕ) (rows₀ : List ℤ) (joints : JointTable) (rows : List ℤ) (p : Place) (left : ℕ) : Type 0 where
  pub same : whole ≡ walk_from room left job p joints rows
  pub asks : WalkAsks job p joints
  pub rows_kept : length rows ≡ length rows₀

-- at its start
pub standing : (room : Bool) (job : List ℕ) (joints : JointTable) (rows : List ℤ) (p : Place) (left : ℕ) → WalkAsks job p joints → Stands room (walk_from room left job p joints rows) job rows joints rows p left
standing room job joints rows p left a = record { same = refl; asks = a; rows_kept = refl }

module _ (room : Bool) (whole : Final) (job : List ℕ) (rows₀ : List ℤ) (joints : JointTable) (rows : List ℤ) (p : Place) (left : ℕ) (s : Stands room whole job rows₀ joints rows p left) where
  -- one command of the file further
  further : 0 < left → p.offset < length job → fault_from job p joints ≡ 0 → (byte_at job p.offset ≡ 0 → ⊥) → Within (counted p.counts (file_command_at job p.offset)) →
      after_command job p.offset ≤ length job → AllIn (commands_here job p) →
      Stands room whole job rows₀ (joints_through joints (commands_here job p)) (stored_all rows p.rows (rows_here room job p joints)) (next_place room job p) (left - 1)
  unfolding next_place rows_here
  further l o f b c a r =
      let here = commands_here job p in
      let n = row_counts_le here in
      record {
        same = s.same ∙ walk_step room job p joints rows left l ∙ goes_on job p joints rows (onward room (left - 1) job p joints rows) o f b;
        asks =
            record {
              state = sound_through room p.state here r s.asks.state;
              joints = joints_sound_through joints here r s.asks.joints;
              offset = a;
              commands = c.0;
              buildings = c.1;
              rows = omega (arith, s.asks.rows, given_many p.offset (file_command_at job p.offset));
            };
        rows_kept = stored_all_keeps rows p.rows (rows_through room p.state joints here) (eights_through room p.state joints here) ∙ s.rows_kept;
      }

  -- the same with the values that the code holds
  pub moved : 0 < left → p.offset < length job → fault_from job p joints ≡ 0 → (byte_at job p.offset ≡ 0 → ⊥) → Within (counted p.counts (file_command_at job p.offset)) →
      after_command job p.offset ≤ length job → AllIn (commands_here job p) →
      (joints' : JointTable) (rows' : List ℤ) (p' : Place) → joints' ≡ joints_through joints (commands_here job p) → rows' ≡ stored_all rows p.rows (rows_here room job p joints) → p' ≡ next_place room job p →
      Stands room whole job rows₀ joints' rows' p' (left - 1)
  moved l o f b c a r joints' rows' p' e₁ e₂ e₃ = rw (e₁, e₂, e₃) (further l o f b c a r)
