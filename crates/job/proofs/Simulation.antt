-- The walk of the code is the commands of the file of the specification: the same answer, and the rows of all placed commands in
-- memory. Assumes nothing.
use mathlib.Core.Path.{◌≡◌, refl, sym, ap, ◌∙◌}
use mathlib.Core.Bool.{Bool}
use mathlib.Core.List.{List}
use Prim.Native.Nat.{ℕ, zero, suc, ◌+◌, ◌≤◌, ◌<◌}
use native.Mathlib.Omega.{arith}
use native.Mathlib.Decide.{dec_le, ℕ_discrete}
use native.Mathlib.Nat.{add-zero}
use lib.IntN.{ℤ}
use lib.ListN.{length, length-append}
use Rattle.layout.specs.Operands.{byte_at}
use Rattle.blocks.specs.FileCommands.{file_command_at}
use Rattle.context.specs.Context.{Context}
use Rattle.context.specs.Running.{JointTable}
use Rattle.rows.specs.Writing.{stored_all}
use Rattle.rows.proofs.Memory.{stored_all_append}
use Rattle.job.specs.declared.Place.{Place}
use Rattle.job.specs.Faults.{tests_at, operand_named}
use Rattle.job.specs.Placed.{Entry, entry_at, placed_in, placed_all, Listing, refused, accepted, before, listed_by, all_rows}
use Rattle.job.specs.Earlier.{end_of}
use Rattle.job.specs.Walking.{Refused, Finished, fault_from, Final, outcome, walk_from}
use Rattle.job.proofs.PlacedCases.{fault_at, counts_behind, context_behind, placed_none, placed_fault, placed_more, placed_end, placed_goes}
use Rattle.job.proofs.Faultless.{end_of_lem}
use Rattle.job.proofs.AlreadyMet.{rows_of_both}
use Rattle.job.proofs.Steps.{walk_step_suc, onward, no_end, faulty, more_bytes, finished}
use Rattle.job.proofs.OneCommand.{fault_same, Going, stepped, further}

-- the outcome of the walk from row n and this memory on is that of the commands of the file
abbrev pub Matches : List ℕ → Listing → Final → ℕ → List ℤ → Type 0
Matches job (refused number offset) f n memory = f.answer ≡ Refused number offset (operand_named number (file_command_at job offset))
Matches job (accepted es) f n memory = (f.answer ≡ Finished (n + length (all_rows (placed_all es)))) × (f.memory ≡ stored_all memory n (all_rows (placed_all es)))

-- one command in front
in_front : (job : List ℕ) (x : Entry) (j : Listing) (f : Final) (n : ℕ) (memory : List ℤ) → Matches job j f (n + length (all_rows (placed_in x))) (stored_all memory n (all_rows (placed_in x))) → Matches job (before x j) f n memory
in_front job x (refused number offset) f n memory m = m
in_front job x (accepted es) f n memory m =
    let own = all_rows (placed_in x) in
    let rest = all_rows (placed_all es) in
    let both = rows_of_both (placed_in x) (placed_all es) in (
      m.0 ∙ ap Finished (omega (arith, length-append own rest, ap length both)),
      m.1 ∙ sym (ap (stored_all memory n) both ∙ stored_all_append memory n own rest),
    )

both_same : (job : List ℕ) (n : ℕ) (memory : List ℤ) {j j' : Listing} {f f' : Final} → j ≡ j' → f ≡ f' → Matches job j' f' n memory → Matches job j f n memory
both_same job n memory {j} {j'} {f} {f'} e g m = rw (e, g) m

-- one command, from what holds of the rest
abbrev Simulates : Bool → ℕ → List ℕ → Type 0
Simulates room n job =
    (p : Place) (joints : JointTable) (memory : List ℤ) (h : Context) → Going room n job p joints memory h →
    Matches job (listed_by tests_at n job p.offset p.counts h) (walk_from room n job p joints memory) p.rows memory

step : (room : Bool) (n : ℕ) (job : List ℕ) (p : Place) (joints : JointTable) (memory : List ℤ) (h : Context) → Going room (suc n) job p joints memory h → Simulates room n job →
    Matches job (listed_by tests_at (suc n) job p.offset p.counts h) (walk_from room (suc n) job p joints memory) p.rows memory
unfolding stored_all all_rows
step room n job p joints memory h g ih = reached (dec_le (length job) p.offset)
  where
    rest : Final
    rest = onward room n job p joints memory

    stopped : (f : Final) → outcome job p joints memory rest ≡ f → walk_from room (suc n) job p joints memory ≡ f
    stopped f e = walk_step_suc room job p joints memory n ∙ e

    same : fault_from job p joints ≡ fault_at job p.offset p.counts h
    same = fault_same room job p joints h g.bytes g.shows

    T : Type 0
    T = Matches job (listed_by tests_at (suc n) job p.offset p.counts h) (walk_from room (suc n) job p joints memory) p.rows memory

    at_end : p.offset < length job → fault_at job p.offset p.counts h ≡ 0 → byte_at job p.offset ≡ 0 → Dec (p.offset + 1 < length job) → T
    at_end l e z (yes m) = both_same job p.rows memory (placed_more tests_at n job p.offset p.counts h l e z m) (stopped _ (more_bytes job p joints memory rest l (same ∙ e) z m)) refl
    at_end l e z (no m) =
        both_same job p.rows memory (placed_end tests_at n job p.offset p.counts h l e z (omega arith)) (stopped _ (finished job p joints memory rest l (same ∙ e) z (omega arith)))
        (ap Finished (sym (add-zero p.rows)), refl)

    no_fault : p.offset < length job → fault_at job p.offset p.counts h ≡ 0 → Dec (byte_at job p.offset ≡ 0) → T
    no_fault l e (yes z) = at_end l e z (dec_le (suc (p.offset + 1)) (length job))
    no_fault l e (no z) =
        both_same job p.rows memory
        (placed_goes tests_at n job p.offset p.counts h l e z
        ∙ ap (λ (k : ℕ). before (entry_at job p.offset h) (listed_by tests_at n job k (counts_behind job p.offset p.counts) (context_behind job p.offset h))) (sym (end_of_lem job p.offset p.counts h e)))
        (stepped room job p joints memory h n g e z l n)
        (in_front job (entry_at job p.offset h) (listed_by tests_at n job (end_of (entry_at job p.offset h)) (counts_behind job p.offset p.counts) (context_behind job p.offset h)) _ p.rows memory
        (ih _ _ _ _ (further room job p joints memory h n g e z)))

    in_job : p.offset < length job → (k : ℕ) → fault_at job p.offset p.counts h ≡ k → T
    in_job l zero e = no_fault l e (ℕ_discrete (byte_at job p.offset) 0)
    in_job l (suc k) e = both_same job p.rows memory (placed_fault tests_at n job p.offset p.counts h l k e) (stopped _ (faulty job p joints memory rest l k (same ∙ e))) refl

    reached : Dec (length job ≤ p.offset) → T
    reached (yes l) =
        both_same job p.rows memory (placed_none tests_at n job p.offset p.counts h l) (stopped _ (no_end job p joints memory rest l)) (ap (λ (o : ℕ). Refused 1 o 0) (omega (arith, g.offset)))
    reached (no l) = in_job (omega arith) (fault_at job p.offset p.counts h) refl

pub simulates : (room : Bool) (n : ℕ) (job : List ℕ) → Simulates room n job
simulates room zero job p joints memory h g = absurd (none p.counts.commands g.left g.commands)
  where
    none : (k : ℕ) → 4097 ≤ k + 0 → k ≤ 4096 → ⊥
    none k c l = omega arith
simulates room (suc n) job p joints memory h g = step room n job p joints memory h g (simulates room n job)
