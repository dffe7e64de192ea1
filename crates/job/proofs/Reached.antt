-- The commands of the file that a walk reaches: each stands in the job where those before it end, with the context that they leave;
-- the placed commands that they give stand too, each with what those before it leave. Of an accepted job they are the commands of the
-- file, and a refused job is refused where they end. Assumes nothing.
use mathlib.Core.Path.{◌≡◌, refl, sym, ap, ◌∙◌, subst}
use mathlib.Core.Bool.{Bool, true, false, cond}
use mathlib.Core.List.{List, [], ◌∷◌, ◌++◌}
use Prim.Native.Nat.{ℕ, zero, suc, ◌+◌, ◌≤◌, ◌<◌}
use native.Mathlib.Omega.{arith}
use native.Mathlib.Nat.{add-zero}
use lib.Dec.{eqb, leb, ltb}
use lib.ListN.{length}
use borrow.Author.Tests.{le-leb, lt-leb, lt-ltb, ne_eqb, leb-false, ltb-false, eqb-false}
use Rattle.layout.specs.Operands.{byte_at}
use Rattle.blocks.specs.FileCommands.{width_of, file_command_at}
use Rattle.context.specs.Context.{Context, nothing, next}
use Rattle.job.specs.declared.Counts.{Counts}
use Rattle.job.specs.Counts.{first_counts}
use Rattle.job.specs.Faults.{after_command, tests_at}
use Rattle.job.specs.Placed.{Placed, context_after, Entry, entry_at, placed_in, placed_all, Listing, refused, accepted, before, listed_by, listed}
use Rattle.job.specs.Earlier.{widths_of}
use Rattle.job.specs.Reached.{stops_at, reached_from, reached}
use Rattle.job.proofs.Faultless.{Standing, Chained, passed, end_of_lem}
use Rattle.job.proofs.PlacedCases.{fault_at, counts_behind, context_behind, rest_after, by_cases}
use Rattle.job.proofs.RefusedLaws.{fault_number}

pub none_first : {A : Type 0} {x : A} {xs : List A} → [] ≡ x ∷ xs → ⊥
none_first e = let z : ◌≡◌ {A = ℕ} 0 1 = cc in omega arith

-- ---- where the walk stops, and where it goes on

-- what is reached behind the command at an offset
abbrev pub reached_after : ℕ → List ℕ → ℕ → Counts → Context → List Entry
reached_after n job at counts h = reached_from n job (after_command job at) (counts_behind job at counts) (context_behind job at h)

-- the walk goes on: a command without fault that is no end
pub record Goes (job : List ℕ) (at : ℕ) (counts : Counts) (h : Context) : Type 0 where
  pub inside : at < length job
  pub no_fault : fault_at job at counts h ≡ 0
  pub other : byte_at job at ≡ 0 → ⊥

module _ (n : ℕ) (job : List ℕ) (at : ℕ) (counts : Counts) (h : Context) where
  stops : stops_at job at counts h ≡ true → reached_from (suc n) job at counts h ≡ []
  unfolding reached_from
  stops e = rw e

  goes : stops_at job at counts h ≡ false → reached_from (suc n) job at counts h ≡ entry_at job at h ∷ reached_after n job at counts h
  unfolding reached_from
  goes e = rw e

  pub stops_none : length job ≤ at → reached_from (suc n) job at counts h ≡ []
  stops_none l = stops (rw (le-leb (length job) at l))

  pub stops_fault : at < length job → (k : ℕ) → fault_at job at counts h ≡ suc k → reached_from (suc n) job at counts h ≡ []
  stops_fault l k e = stops (rw (lt-leb (length job) at l, e, lt-ltb 0 (suc k) (omega arith)))

  pub stops_end : at < length job → fault_at job at counts h ≡ 0 → byte_at job at ≡ 0 → reached_from (suc n) job at counts h ≡ []
  stops_end l e b = stops (rw (lt-leb (length job) at l, e, b))

  pub goes_on : at < length job → fault_at job at counts h ≡ 0 → (byte_at job at ≡ 0 → ⊥) → reached_from (suc n) job at counts h ≡ entry_at job at h ∷ reached_after n job at counts h
  goes_on l e b = goes (rw (lt-leb (length job) at l, e, ne_eqb (byte_at job at) 0 b))

  -- where a command is reached, the walk goes on behind it
  pub first_reached : (p : Entry) (ps : List Entry) → reached_from (suc n) job at counts h ≡ p ∷ ps →
      Goes job at counts h × (entry_at job at h ∷ reached_after n job at counts h ≡ p ∷ ps)
  first_reached p ps e = by (leb (length job) at) (ltb 0 (fault_at job at counts h)) (eqb (byte_at job at) 0) refl refl refl
    where
      stopped : stops_at job at counts h ≡ true → Goes job at counts h × (entry_at job at h ∷ reached_after n job at counts h ≡ p ∷ ps)
      stopped s = absurd (none_first (sym (stops s) ∙ e))

      by : (x y z : Bool) → leb (length job) at ≡ x → ltb 0 (fault_at job at counts h) ≡ y → eqb (byte_at job at) 0 ≡ z → Goes job at counts h × (entry_at job at h ∷ reached_after n job at counts h ≡ p ∷ ps)
      by true y z e1 e2 e3 = stopped (rw e1)
      by false true z e1 e2 e3 = stopped (rw (e1, e2))
      by false false true e1 e2 e3 = stopped (rw (e1, e2, e3))
      by false false false e1 e2 e3 = (
        record { inside = leb-false (length job) at e1; no_fault = omega (arith, ltb-false 0 (fault_at job at counts h) e2); other = eqb-false (byte_at job at) 0 e3 },
        sym (goes (rw (e1, e2, e3))) ∙ e,
      )

-- ---- each command of the file that is reached

-- one that stands whole at an offset of a job with this context and is no end
pub record Stands (job : List ℕ) (offset : ℕ) (h : Context) (e : Entry) : Type 0 where
  pub place : e.offset ≡ offset
  pub read : e.given ≡ file_command_at job offset
  pub context : e.context ≡ h
  pub other : byte_at job offset ≡ 0 → ⊥
  pub counts : Counts
  pub no_fault : fault_at job offset counts h ≡ 0

-- each stands where those before it end, with the context that they leave
abbrev Each : List ℕ → ℕ → Context → List Entry → Type 0
Each job offset h es =
    (earlier : List Entry) (e : Entry) (later : List Entry) → es ≡ earlier ++ e ∷ later → Stands job (offset + widths_of earlier) (context_after h (placed_all earlier)) e

-- what holds after two lists of placed commands
pub context_both : (h : Context) (ps qs : List Placed) → context_after h (ps ++ qs) ≡ context_after (context_after h ps) qs
context_both h [] qs = refl
context_both h (p ∷ ps) qs = context_both (next h p.command) ps qs

each_from : (n : ℕ) (job : List ℕ) (offset : ℕ) (counts : Counts) (h : Context) → Each job offset h (reached_from n job offset counts h)
unfolding reached_from
each_from zero job offset counts h [] e later q = absurd (none_first q)
each_from zero job offset counts h (x ∷ earlier) e later q = absurd (none_first q)
each_from (suc n) job offset counts h [] e later q =
    let (g, s) = first_reached n job offset counts h e later q in
    let r : entry_at job offset h ≡ e = cc in
    subst (λ (k : ℕ). Stands job k h e) (sym (add-zero offset))
    (subst (Stands job offset h) r (record { place = refl; read = refl; context = refl; other = g.other; counts = counts; no_fault = g.no_fault }))
each_from (suc n) job offset counts h (x ∷ earlier) e later q =
    let (g, s) = first_reached n job offset counts h x (earlier ++ e ∷ later) q in
    let t : reached_after n job offset counts h ≡ earlier ++ e ∷ later = cc in
    let r : entry_at job offset h ≡ x = cc in
    let w : width_of (file_command_at job offset) ≡ width_of x.given = ap (λ (y : Entry). width_of y.given) r in
    let o : after_command job offset + widths_of earlier ≡ offset + widths_of (x ∷ earlier) = omega (arith, (passed job offset counts h g.no_fault).width) in
    let c : context_after (context_behind job offset h) (placed_all earlier) ≡ context_after h (placed_all (x ∷ earlier)) =
    sym (context_both h (placed_in (entry_at job offset h)) (placed_all earlier)) ∙ ap (λ (y : Entry). context_after h (placed_in y ++ placed_all earlier)) r in
    subst (λ (k : ℕ). Stands job k (context_after h (placed_all (x ∷ earlier))) e) o
    (subst (λ (k : Context). Stands job (after_command job offset + widths_of earlier) k e) c (each_from n job (after_command job offset) (counts_behind job offset counts) (context_behind job offset h) earlier e later t))

-- ---- each placed command

pub chained_both : (h : Context) (ps qs : List Placed) → Chained h ps → Chained (context_after h ps) qs → Chained h (ps ++ qs)
chained_both h [] qs c d = d
chained_both h (p ∷ ps) qs (e, s, c) d = (e, s, chained_both (next h p.command) ps qs c d)

chained_from : (n : ℕ) (job : List ℕ) (at : ℕ) (counts : Counts) (h : Context) → Chained h (placed_all (reached_from n job at counts h))
unfolding reached_from
chained_from zero job at counts h = tt
chained_from (suc n) job at counts h = by (chained_from n job (after_command job at) (counts_behind job at counts) (context_behind job at h)) (reached_from (suc n) job at counts h) refl
  where
    by : Chained (context_behind job at h) (placed_all (reached_after n job at counts h)) → (es : List Entry) → reached_from (suc n) job at counts h ≡ es → Chained h (placed_all es)
    by ih [] q = tt
    by ih (e ∷ es) q =
        let (g, s) = first_reached n job at counts h e es q in
        subst (λ (xs : List Entry). Chained h (placed_all xs)) s
        (chained_both h (placed_in (entry_at job at h)) (placed_all (reached_after n job at counts h)) ((passed job at counts h g.no_fault).chained g.other) ih)

-- one of them
pub chained_at : (h : Context) (ps : List Placed) → Chained h ps → (earlier : List Placed) (p : Placed) (later : List Placed) → ps ≡ earlier ++ p ∷ later → (p.context ≡ context_after h earlier) × Standing p
chained_at h [] c [] p later q = absurd (none_first q)
chained_at h [] c (x ∷ earlier) p later q = absurd (none_first q)
chained_at h (y ∷ ps) (e, s, c) [] p later q = let r : y ≡ p = cc in (ap (λ (z : Placed). z.context) (sym r) ∙ e, subst Standing r s)
chained_at h (y ∷ ps) (e, s, c) (x ∷ earlier) p later q =
    let r : ps ≡ earlier ++ p ∷ later = cc in
    let t : y ≡ x = cc in
    let (k, w) = chained_at (next h y.command) ps c earlier p later r in
    (k ∙ ap (λ (z : Placed). context_after (next h z.command) earlier) t, w)

-- ---- where they end

-- they are the commands of the file, or the refusal stands behind them: at their end, and 3 one byte further
abbrev Ends : ℕ → List Entry → Listing → Type 0
Ends at rs (refused number offset) = offset ≡ at + widths_of rs + cond (eqb number 3) 1 0
Ends at rs (accepted es) = rs ≡ es

ends_more : (at after : ℕ) (e : Entry) (rs : List Entry) (j : Listing) → after ≡ at + width_of e.given → Ends after rs j → Ends at (e ∷ rs) (before e j)
ends_more at after e rs (refused number offset) w q = omega (arith, q)
ends_more at after e rs (accepted es) w q = ap (λ (xs : List Entry). e ∷ xs) q

ends : (n : ℕ) (job : List ℕ) (at : ℕ) (counts : Counts) (h : Context) → at ≤ length job → Ends at (reached_from n job at counts h) (listed_by tests_at n job at counts h)
unfolding listed_by reached_from
ends zero job at counts h w = omega arith
ends (suc n) job at counts h w =
    by_cases tests_at n job at counts h (Ends at (reached_from (suc n) job at counts h))
    (λ l. rw (stops_none n job at counts h l) (omega arith))
    (λ l k e. rw (stops_fault n job at counts h l k e, ne_eqb (suc k) 3 (λ t. (fault_number job at counts h).other (e ∙ t))) (omega arith))
    (λ l e b m. rw (stops_end n job at counts h l e b) (omega arith))
    (λ l e b m. stops_end n job at counts h l e b)
    (λ l e b.
    rw (goes_on n job at counts h l e b)
    (ends_more at (after_command job at) (entry_at job at h) (reached_after n job at counts h) (rest_after tests_at n job at counts h)
    (sym (end_of_lem job at counts h e)) (ends n job (after_command job at) (counts_behind job at counts) (context_behind job at h) (passed job at counts h e).whole)))

-- ---- the laws

module _ (job : List ℕ) where
  all_ends : Ends 0 (reached job) (listed job)
  unfolding reached listed
  all_ends = ends 4097 job 0 first_counts nothing (omega arith)

  -- of an accepted job they are the commands of the file
  pub reached_accepted : (es : List Entry) → listed job ≡ accepted es → reached job ≡ es
  reached_accepted es e = subst (Ends 0 (reached job)) e all_ends

  -- a refused job is refused where they end, and one byte further where bytes follow the end
  pub reached_refused : (number offset : ℕ) → listed job ≡ refused number offset → offset ≡ widths_of (reached job) + cond (eqb number 3) 1 0
  reached_refused number offset e = let t : Ends 0 (reached job) (refused number offset) = subst (Ends 0 (reached job)) e all_ends in omega (arith, t)

  -- each stands in the job where those before it end, and is no end; what holds at it is what they leave
  pub reached_each : (earlier : List Entry) (e : Entry) (later : List Entry) → reached job ≡ earlier ++ e ∷ later → Stands job (widths_of earlier) (context_after nothing (placed_all earlier)) e
  unfolding reached
  reached_each earlier e later q =
      let s : 0 + widths_of earlier ≡ widths_of earlier = omega arith in
      subst (λ (k : ℕ). Stands job k (context_after nothing (placed_all earlier)) e) s (each_from 4097 job 0 first_counts nothing earlier e later q)

  -- the placed commands stand, each with the context that those before it leave
  pub chained_reached : Chained nothing (placed_all (reached job))
  unfolding reached
  chained_reached = chained_from 4097 job 0 first_counts nothing

  -- each placed command stands, and what holds at it is what those before it leave
  pub reached_placed : (earlier : List Placed) (p : Placed) (later : List Placed) → placed_all (reached job) ≡ earlier ++ p ∷ later → (p.context ≡ context_after nothing earlier) × Standing p
  reached_placed earlier p later q = chained_at nothing (placed_all (reached job)) chained_reached earlier p later q
