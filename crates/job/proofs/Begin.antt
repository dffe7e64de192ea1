-- The walk from the start of a job: nothing is given, no joint is in the table; it ends as the placed commands say.
-- Assumes nothing.
use mathlib.Core.Path.{◌≡◌, refl, sym, ap, ◌∙◌, subst}
use mathlib.Core.Bool.{Bool}
use mathlib.Core.List.{List}
use Prim.Native.Nat.{ℕ}
use native.Mathlib.Omega.{arith}
use lib.IntN.{ℤ}
use lib.ListN.{length}
use Rattle.layout.specs.Operands.{byte_at}
use Rattle.layout.proofs.Numbers.{Bytes}
use Rattle.context.specs.Context.{nothing}
use Rattle.context.specs.Running.{room_for, no_joints}
use Rattle.context.proofs.Laws.{start_sound, no_joints_sound}
use Rattle.context.proofs.Shown.{start_shows}
use Rattle.job.specs.Placed.{Job, Listing, refused, accepted, listed, placed_all, placed_of, placed}
use Rattle.job.specs.Answers.{rows_answer, refused_answer, no_fault, size_from, size_of, fault_in, fault_of}
use Rattle.job.specs.Walking.{WalkAnswer, Refused, Finished, Paused, Final, first_place, walk_from, WalkAsks}
use Rattle.job.proofs.OneCommand.{Going}
use Rattle.job.proofs.Simulation.{Matches, simulates}

pub begin_asks : (job : List ℕ) → WalkAsks job first_place no_joints
unfolding first_place
begin_asks job =
    record { state = start_sound; joints = no_joints_sound; offset = omega arith; commands = omega arith; buildings = omega arith; rows = omega arith }

module _ (room : Bool) where
  pub begin_going : (job : List ℕ) (memory : List ℤ) → Bytes job → room_for (length memory) ≡ room → Going room 4097 job first_place no_joints memory nothing
  unfolding first_place
  begin_going job memory b r = record { bytes = b; shows = start_shows room; room_is = r; left = omega arith; commands = omega arith; offset = omega arith }

  pub begin_matches : (job : List ℕ) (memory : List ℤ) → Bytes job → room_for (length memory) ≡ room → Matches job (listed job) (walk_from room 4097 job first_place no_joints memory) 0 memory
  unfolding first_place listed
  begin_matches job memory b r =
      simulates room 4097 job first_place no_joints memory nothing (begin_going job memory b r)

-- ---- how a walk from the start ends: as the placed commands say, and never paused

abbrev EndedAs : List ℕ → Job → WalkAnswer → Type 0
EndedAs job j (Refused number offset operand) =
    (refused_answer number offset ≡ size_from j) × (record { number = number; offset = offset; command = byte_at job offset; operand = operand } ≡ fault_in job j)
EndedAs job j (Finished n) = (rows_answer n ≡ size_from j) × (no_fault ≡ fault_in job j)
EndedAs job j (Paused p) = ⊥

ended_from : (job : List ℕ) (j : Listing) (f : Final) (memory : List ℤ) → Matches job j f 0 memory → (a : WalkAnswer) → f.answer ≡ a → EndedAs job (placed_of j) a
ended_from job (refused number offset) f memory m a e = subst (EndedAs job (refused number offset)) (sym m ∙ e) (refl, refl)
ended_from job (accepted es) f memory m a e =
    subst (EndedAs job (accepted (placed_all es))) (sym m.0 ∙ e) (ap rows_answer (omega arith), refl)

abbrev pub Ended : List ℕ → WalkAnswer → Type 0
Ended job (Refused number offset operand) =
    (refused_answer number offset ≡ size_of job) × (record { number = number; offset = offset; command = byte_at job offset; operand = operand } ≡ fault_of job)
Ended job (Finished n) = (rows_answer n ≡ size_of job) × (no_fault ≡ fault_of job)
Ended job (Paused p) = ⊥

module _ (room : Bool) (job : List ℕ) (memory : List ℤ) (b : Bytes job) (r : room_for (length memory) ≡ room) where
  pub ended : (a : WalkAnswer) → (walk_from room 4097 job first_place no_joints memory).answer ≡ a → Ended job a
  unfolding size_of fault_of placed
  ended a e = shown a (ended_from job (listed job) (walk_from room 4097 job first_place no_joints memory) memory (begin_matches room job memory b r) a e)
    where
      shown : (a : WalkAnswer) → EndedAs job (placed_of (listed job)) a → Ended job a
      shown (Refused number offset operand) h = h
      shown (Finished n) h = h
      shown (Paused p) h = h
