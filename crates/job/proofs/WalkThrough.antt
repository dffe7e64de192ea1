-- The walk of the code stands at every command of the file that it reaches: after the first commands it goes on from the place, the
-- joints and the words that they leave; and the state after any placed commands shows what holds there. Assumes nothing.
use mathlib.Core.Path.{◌≡◌, refl, sym, ap, ◌∙◌, subst}
use mathlib.Core.Bool.{Bool}
use mathlib.Core.List.{List, [], ◌∷◌, ◌++◌}
use Prim.Native.Nat.{ℕ, zero, suc, ◌+◌}
use native.Mathlib.Omega.{arith}
use native.Mathlib.Nat.{zero-add}
use lib.IntN.{ℤ}
use lib.ListN.{length}
use Rattle.layout.proofs.Numbers.{Bytes}
use Rattle.context.specs.Context.{Context, nothing}
use Rattle.context.specs.Running.{room_for, JointTable, start_state, no_joints}
use Rattle.context.proofs.Shown.{Shows, start_shows}
use Rattle.rows.specs.Writing.{stored_all}
use Rattle.rows.proofs.Memory.{stored_all_append}
use Rattle.job.specs.declared.Place.{Place}
use Rattle.job.specs.Faults.{after_command}
use Rattle.job.specs.Placed.{Placed, context_after, place_each, Entry, entry_at, commands_in, placed_in, placed_all, all_rows}
use Rattle.job.specs.Earlier.{widths_of}
use Rattle.job.specs.Walking.{Paused, Final, state_through, joints_through, commands_here, walk_from, first_place}
use Rattle.job.specs.Counts.{first_counts}
use Rattle.job.specs.Reached.{reached_from, reached, located, place_behind, place_after, StandsAfter}
use Rattle.job.proofs.Steps.{walk_none}
use Rattle.job.proofs.Faultless.{Chained, end_of_lem}
use Rattle.job.proofs.OneCommand.{Going, stepped, further}
use Rattle.job.proofs.PlacedCases.{counts_behind, context_behind}
use Rattle.job.proofs.Reached.{none_first, Goes, reached_after, first_reached, chained_reached}
use Rattle.job.proofs.AlreadyMet.{rows_of_both}
use Rattle.job.proofs.Located.{located_both, located_more, state_both, joints_both, placed_again, chained_front, fit_front, reached_fit}
use Rattle.job.proofs.Through.{AllFit, shows_through}
use Rattle.job.proofs.Begin.{begin_going}

-- a walk after these commands: where it stands, and what is left of it
record After (room : Bool) (job : List ℕ) (p : Place) (joints : JointTable) (memory : List ℤ) (es : List Entry) : Type 0 where
  pub offset : (place_after room p es).offset ≡ p.offset + widths_of es
  pub state : (place_after room p es).state ≡ state_through room p.state (located (placed_all es))
  pub same : (n : ℕ) →
      walk_from room (length es + n) job p joints memory
      ≡ walk_from room n job (place_after room p es) (joints_through joints (located (placed_all es))) (stored_all memory p.rows (all_rows (placed_all es)))

-- one command in front
after_more : (room : Bool) (job : List ℕ) (p : Place) (joints : JointTable) (memory : List ℤ) (h : Context) (n : ℕ) → Going room (suc n) job p joints memory h → Goes job p.offset p.counts h → (es : List Entry) →
    (let x = entry_at job p.offset h in After room job (place_behind room p x) (joints_through joints (commands_in x)) (stored_all memory p.rows (all_rows (placed_in x))) es → After room job p joints memory (x ∷ es))
after_more room job p joints memory h n g w es a =
    let x = entry_at job p.offset h in
    let more = located_more x es in
    let then = ap (joints_through joints) more ∙ joints_both joints (commands_in x) (located (placed_all es)) in
    let words = ap (stored_all memory p.rows) (rows_of_both (placed_in x) (placed_all es)) ∙ stored_all_append memory p.rows (all_rows (placed_in x)) (all_rows (placed_all es)) in
    record {
      offset = omega (arith, a.offset);
      state = a.state ∙ sym (ap (state_through room p.state) more ∙ state_both room p.state (commands_in x) (located (placed_all es)));
      same = λ k.
          let z : length (x ∷ es) + k ≡ suc (length es + k) = omega arith in
          ap (λ (m : ℕ). walk_from room m job p joints memory) z ∙ stepped room job p joints memory h n g w.no_fault w.other w.inside (length es + k) ∙ a.same k
          ∙ ap (λ (j : JointTable). walk_from room k job (place_after room p (x ∷ es)) j (stored_all (stored_all memory p.rows (all_rows (placed_in x))) (p.rows + length (all_rows (placed_in x))) (all_rows (placed_all es)))) (sym then)
          ∙ ap (walk_from room k job (place_after room p (x ∷ es)) (joints_through joints (located (placed_all (x ∷ es))))) (sym words);
    }

after : (n : ℕ) (room : Bool) (job : List ℕ) (p : Place) (joints : JointTable) (memory : List ℤ) (h : Context) → Going room n job p joints memory h →
    (earlier later : List Entry) → reached_from n job p.offset p.counts h ≡ earlier ++ later → After room job p joints memory earlier
unfolding all_rows stored_all reached_from
after n room job p joints memory h g [] later e = record { offset = omega arith; state = refl; same = λ k. ap (λ (m : ℕ). walk_from room m job p joints memory) (zero-add k) }
after zero room job p joints memory h g (x ∷ earlier) later e = absurd (none_first e)
after (suc n) room job p joints memory h g (x ∷ earlier) later e =
    let (w, s) = first_reached n job p.offset p.counts h x (earlier ++ later) e in
    let here = entry_at job p.offset h in
    let q : reached_after n job p.offset p.counts h ≡ earlier ++ later = cc in
    let r : entry_at job p.offset h ≡ x = cc in
    let b = place_behind room p here in
    let o : b.offset ≡ after_command job p.offset = end_of_lem job p.offset p.counts h w.no_fault in
    subst (λ (y : Entry). After room job p joints memory (y ∷ earlier)) r
    (after_more room job p joints memory h n g w earlier
    (after n room job b (joints_through joints (commands_here job p)) (stored_all memory p.rows (all_rows (placed_in here))) (context_behind job p.offset h)
    (further room job p joints memory h n g w.no_fault w.other) earlier later (ap (λ (k : ℕ). reached_from n job k (counts_behind job p.offset p.counts) (context_behind job p.offset h)) o ∙ q)))

-- ---- from the start of a job

module _ (room : Bool) (job : List ℕ) (b : Bytes job) where
  module _ (earlier later : List Entry) (e : reached job ≡ earlier ++ later) where
    from_start : (memory : List ℤ) → room_for (length memory) ≡ room → After room job first_place no_joints memory earlier
    unfolding reached first_place
    from_start memory r = after 4097 room job first_place no_joints memory nothing (begin_going room job memory b r) earlier later e

    -- that place is where they end
    pub ends_there : (memory : List ℤ) → room_for (length memory) ≡ room → (place_after room first_place earlier).offset ≡ widths_of earlier
    unfolding first_place
    ends_there memory r = omega (arith, (from_start memory r).offset)

    -- its state is the one after the commands that they give
    pub state_there : (memory : List ℤ) → room_for (length memory) ≡ room → (place_after room first_place earlier).state ≡ state_through room start_state (located (placed_all earlier))
    unfolding first_place
    state_there memory r = (from_start memory r).state

    -- the walk goes on from the place that these commands leave
    pub stands_after : (memory : List ℤ) → room_for (length memory) ≡ room → StandsAfter room job no_joints memory earlier
    unfolding first_place
    stands_after memory r = (from_start memory r).same

    -- with a budget of as many commands it pauses there
    pub pauses_there : (memory : List ℤ) → room_for (length memory) ≡ room → (walk_from room (length earlier) job first_place no_joints memory).answer ≡ Paused (place_after room first_place earlier)
    pauses_there memory r =
        let z : length earlier ≡ length earlier + 0 = omega arith in
        ap (λ (k : ℕ). (walk_from room k job first_place no_joints memory).answer) z
        ∙ ap (λ (f : Final). f.answer)
        (stands_after memory r 0 ∙ walk_none room job (place_after room first_place earlier) (joints_through no_joints (located (placed_all earlier))) (stored_all memory 0 (all_rows (placed_all earlier))))

  -- the state and the table after any of the placed commands show what holds there
  pub shows_after : (earlier later : List Placed) → placed_all (reached job) ≡ earlier ++ later →
      Shows room (state_through room start_state (located earlier)) (joints_through no_joints (located earlier)) (context_after nothing earlier)
  unfolding reached
  shows_after earlier later e =
      let chain : Chained nothing earlier = chained_front nothing earlier later (subst (Chained nothing) e (chained_reached job)) in
      let again : place_each nothing (located earlier) ≡ earlier = placed_again nothing earlier chain in
      let fit : AllFit (located earlier) = fit_front (located earlier) (located later) (subst AllFit (ap located e ∙ located_both earlier later) (reached_fit 4097 job b 0 first_counts nothing)) in
      subst (λ (ps : List Placed). Shows room (state_through room start_state (located earlier)) (joints_through no_joints (located earlier)) (context_after nothing ps)) again
      (shows_through room start_state no_joints nothing (start_shows room) (located earlier) fit (subst (Chained nothing) (sym again) chain))
