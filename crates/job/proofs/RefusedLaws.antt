-- Laws of a refused job: where a refusal stands, which numbers there are, and that it stays whatever bytes follow the faulty
-- command. Assumes nothing.
use mathlib.Core.Logic.{◌⊎◌, inl, inr}
use mathlib.Core.Path.{◌≡◌, refl, sym, ap, ◌∙◌, subst}
use mathlib.Core.Bool.{Bool, true, false, not, cond}
use mathlib.Core.List.{List, ◌++◌}
use Prim.Native.Nat.{ℕ, zero, suc, ◌+◌, ◌≤◌, ◌<◌}
use native.Mathlib.Omega.{arith}
use native.Mathlib.Decide.{dec_le}
use lib.Dec.{T, eqb, lit≤, T_not}
use lib.ListN.{length, length-append, get_or-append}
use Rattle.layout.specs.Layouts.{operands_width}
use Rattle.layout.specs.Operands.{byte_at}
use Rattle.format.specs.Reading.{command_at}
use Rattle.layout.proofs.Widths.{widths}
use Rattle.blocks.specs.Sets.{is_block, count_at, sets_of}
use Rattle.blocks.proofs.FileCommands.{width_one, width_some}
use Rattle.context.specs.Context.{Context, nothing, given, absent}
use Rattle.job.specs.declared.Counts.{Counts}
use Rattle.job.specs.Counts.{first_counts}
use Rattle.job.specs.Faults.{unknown, after_command, cut_short, too_many, seventeenth, misplaced, out_of_range, count_missing, count_out_of_range, passes_limit, without_base, set_out_of_range, command_tests, block_tests, tests_at}
use Rattle.job.specs.Placed.{Entry, entry_at, Listing, refused, accepted, before, listed_by, listed, placed_of, placed}
use Rattle.job.proofs.Faultless.{command_fault_lem, block_fault_lem, passed}
use Rattle.job.proofs.Front.{byte_in_front, width_in_front, given_in_front, fault_in_front, not_held}
use Rattle.job.proofs.PlacedCases.{fault_at, counts_behind, not_both, context_behind, rest_after, placed_fault, placed_more, placed_goes, by_cases, listed_refused}

-- ---- where a refusal stands, and its number

-- a number up to 8, or 13
abbrev Known : ℕ → Type 0
Known n = (n ≤ 8) ⊎ (n ≡ 13)

-- the number of a fault is one of these; it is not 3, that of bytes after the end, and not 7
pub record FaultNumber (n : ℕ) : Type 0 where
  pub known : Known n
  pub other : n ≡ 3 → ⊥
  pub not_seven : n ≡ 7 → ⊥

pub fault_number : (job : List ℕ) (at : ℕ) (counts : Counts) (h : Context) → FaultNumber (fault_at job at counts h)
unfolding command_tests block_tests
fault_number job at counts h = by (is_block (byte_at job at)) refl
  where
    is : (n : ℕ) → Known n → T (not (eqb n 3)) → T (not (eqb n 7)) → FaultNumber n
    is n l t s = record { known = l; other = λ e. T_not (eqb n 3) t (rw e tt); not_seven = λ e. T_not (eqb n 7) s (rw e tt) }

    pick : (t : Bool) (m : ℕ) {n : ℕ} → Known m → T (not (eqb m 3)) → T (not (eqb m 7)) → FaultNumber n → FaultNumber (cond t m n)
    pick true m l o s r = is m l o s
    pick false m l o s r = r

    by : (k : Bool) → is_block (byte_at job at) ≡ k → FaultNumber (fault_at job at counts h)
    by true b =
        subst FaultNumber (sym (block_fault_lem job at counts h b))
        (pick (unknown job at) 2 (inl (lit≤ tt)) tt tt (pick (count_missing job at) 1 (inl (lit≤ tt)) tt tt (pick (count_out_of_range (count_at job at)) 5 (inl (lit≤ tt)) tt tt (pick (cut_short job at) 1 (inl (lit≤ tt)) tt tt
        (pick (passes_limit (count_at job at) counts.commands) 8 (inl (lit≤ tt)) tt tt (pick (misplaced (byte_at job at) (given h.settings)) 4 (inl (lit≤ tt)) tt tt
        (pick (without_base h) 6 (inl (lit≤ tt)) tt tt (pick (set_out_of_range (sets_of job at)) 5 (inl (lit≤ tt)) tt tt (is 0 (inl (lit≤ tt)) tt tt)))))))))
    by false b =
        subst FaultNumber (sym (command_fault_lem job at counts h b))
        (pick (unknown job at) 2 (inl (lit≤ tt)) tt tt (pick (cut_short job at) 1 (inl (lit≤ tt)) tt tt (pick (too_many (byte_at job at) counts.commands) 8 (inl (lit≤ tt)) tt tt (pick (seventeenth (byte_at job at) counts.buildings) 13 (inr refl) tt tt (pick (misplaced (byte_at job at) (given h.settings)) 4 (inl (lit≤ tt)) tt tt
        (pick (out_of_range (command_at job at)) 5 (inl (lit≤ tt)) tt tt (pick (absent h (command_at job at)) 6 (inl (lit≤ tt)) tt tt (is 0 (inl (lit≤ tt)) tt tt))))))))

-- a refusal of the commands from `at` on
record Stands (job : List ℕ) (at number offset : ℕ) : Type 0 where
  pub from : at ≤ offset
  pub inside : offset ≤ length job
  pub least : 1 ≤ number
  pub known : Known number
  pub not_seven : number ≡ 7 → ⊥

abbrev Standing : List ℕ → ℕ → Listing → Type 0
Standing job at (refused number offset) = Stands job at number offset
Standing job at (accepted es) = Unit {0}

standing : (n : ℕ) (job : List ℕ) (at : ℕ) (counts : Counts) (h : Context) → at ≤ length job → Standing job at (listed_by tests_at n job at counts h)
unfolding listed_by
standing zero job at counts h w = record { from = omega arith; inside = w; least = lit≤ tt; known = inl (lit≤ tt); not_seven = λ e. omega arith }
standing (suc n) job at counts h w =
    by_cases tests_at n job at counts h (Standing job at)
    (λ l. record { from = w; inside = omega arith; least = lit≤ tt; known = inl (lit≤ tt); not_seven = λ e. omega arith })
    (λ l k e.
    let f = fault_number job at counts h in
    record { from = omega arith; inside = w; least = omega arith; known = subst Known e f.known; not_seven = λ s. f.not_seven (e ∙ s) })
    (λ l e b m. record { from = omega arith; inside = omega arith; least = lit≤ tt; known = inl (lit≤ tt); not_seven = λ e. omega arith })
    (λ l e b m. tt)
    (λ l e b. earlier (rest_after tests_at n job at counts h) (standing n job (after_command job at) (counts_behind job at counts) (context_behind job at h) (passed job at counts h e).whole))
  where
    earlier : (j : Listing) → Standing job (after_command job at) j → Standing job at (before (entry_at job at h) j)
    earlier (refused number offset) s = record { from = omega (arith, s.from); inside = s.inside; least = s.least; known = s.known; not_seven = s.not_seven }
    earlier (accepted es) s = tt

module _ (job : List ℕ) (number offset : ℕ) (e : placed job ≡ refused number offset) where
  stands : Stands job 0 number offset
  unfolding listed
  stands = subst (Standing job 0) (listed_refused job number offset e) (standing 4097 job 0 first_counts nothing (omega arith))

  -- the refused offset is at most the file's length
  pub refused_offset : offset ≤ length job
  refused_offset = stands.inside

  -- placing refuses with a number from 1 to 8, or with 13
  pub refused_number : (1 ≤ number) × ((number ≤ 8) ⊎ (number ≡ 13))
  refused_number = (stands.least, stands.known)

  -- and never with 7 (02, No. 1: "Refusal 7 no longer occurs")
  pub never_seven : number ≡ 7 → ⊥
  never_seven = stands.not_seven

-- ---- a refusal stays

-- what is behind a command is refused where the whole is
behind : (x : Entry) (j : Listing) {number offset : ℕ} → before x j ≡ refused number offset → j ≡ refused number offset
behind x (refused number offset) e = e
behind x (accepted es) e = absurd (not_both (sym e))

-- where the refusal is of a command, the front holds this whole; where it is 3, its offset lies in the front
module _ (front a b : List ℕ) (number offset : ℕ) (w : offset < length front) (whole : (number ≡ 3 → ⊥) → after_command front offset ≤ length front) where
  -- at a command that lies in the front, the same fault is found
  fault_same : (at : ℕ) (counts : Counts) (h : Context) → after_command front at ≤ length front → fault_at (front ++ b) at counts h ≡ fault_at (front ++ a) at counts h
  fault_same at counts h v = fault_in_front front at v b counts h ∙ sym (fault_in_front front at v a counts h)

  -- a command that ends within the front lies in it
  held_before : (c : List ℕ) (at : ℕ) → after_command (front ++ c) at ≤ length front → after_command front at ≤ length front
  held_before c at l = by (dec_le (after_command front at) (length front))
    where
      by : Dec (after_command front at ≤ length front) → after_command front at ≤ length front
      by (yes v) = v
      by (no v) = omega (arith, not_held front c at (omega arith))

  longer : (c : List ℕ) {k : ℕ} → k < length front → k < length (front ++ c)
  longer c h = omega (arith, length-append front c)

  -- a job that begins as this one does is refused as this one is
  abbrev Kept : ℕ → ℕ → Counts → Context → Listing → Type 0
  Kept n at counts h j = j ≡ refused number offset → listed_by tests_at n (front ++ b) at counts h ≡ refused number offset

  -- the cases of a step
  module _ (n at : ℕ) (counts : Counts) (h : Context) (l : at < length (front ++ a)) where
    kept_fault : (k : ℕ) → fault_at (front ++ a) at counts h ≡ suc k → Kept (suc n) at counts h (refused (suc k) at)
    kept_fault k f e =
        let q : offset ≡ at = cc in
        let r : number ≡ fault_at (front ++ a) at counts h = cc in
        let v : after_command front at ≤ length front = rw q at (whole (λ t. (fault_number (front ++ a) at counts h).other (sym r ∙ t))) in
        placed_fault tests_at n (front ++ b) at counts h (longer b (omega arith)) k (fault_same at counts h v ∙ f) ∙ e

    module _ (f : fault_at (front ++ a) at counts h ≡ 0) where
      kept_after : byte_at (front ++ a) at ≡ 0 → Kept (suc n) at counts h (refused 3 (at + 1))
      kept_after z e =
          let q : offset ≡ at + 1 = cc in
          let u : at + 1 < length front = omega arith in
          let y : byte_at front at ≡ 0 = sym (get_or-append front a 0 at (omega arith)) ∙ z in
          let v : after_command front at ≤ length front = omega (arith, width_one front at (ap is_block y), ap operands_width y ∙ widths.finish) in
          placed_more tests_at n (front ++ b) at counts h (longer b (omega arith)) (fault_same at counts h v ∙ f) (byte_in_front front at v b ∙ y) (longer b u) ∙ e

      kept_on : (byte_at (front ++ a) at ≡ 0 → ⊥) → Kept n (after_command (front ++ a) at) (counts_behind (front ++ a) at counts) (context_behind (front ++ a) at h) (rest_after tests_at n (front ++ a) at counts h) →
          Kept (suc n) at counts h (before (entry_at (front ++ a) at h) (rest_after tests_at n (front ++ a) at counts h))
      kept_on z ih e =
          let r = behind (entry_at (front ++ a) at h) (rest_after tests_at n (front ++ a) at counts h) e in
          let s : Stands (front ++ a) (after_command (front ++ a) at) number offset =
          subst (Standing (front ++ a) (after_command (front ++ a) at)) r
          (standing n (front ++ a) (after_command (front ++ a) at) (counts_behind (front ++ a) at counts) (context_behind (front ++ a) at h) (passed (front ++ a) at counts h f).whole) in
          let v : after_command front at ≤ length front = held_before a at (omega (arith, s.from)) in
          let g : rest_after tests_at n (front ++ b) at counts h ≡ refused number offset =
          rw (width_in_front front at v b, given_in_front front at v b) (rw (width_in_front front at v a, given_in_front front at v a) at (ih r)) in
          placed_goes tests_at n (front ++ b) at counts h (longer b (omega (arith, width_some front at))) (fault_same at counts h v ∙ f) (λ q. z (byte_in_front front at v a ∙ sym (byte_in_front front at v b) ∙ q)) ∙ ap (before (entry_at (front ++ b) at h)) g

  kept : (n at : ℕ) (counts : Counts) (h : Context) → Kept n at counts h (listed_by tests_at n (front ++ a) at counts h)
  unfolding listed_by
  kept zero at counts h = λ e. e
  kept (suc n) at counts h =
      by_cases tests_at n (front ++ a) at counts h (Kept (suc n) at counts h)
      (λ l e. let q : length (front ++ a) ≡ offset = cc in absurd (beyond q (length-append front a)))
      (kept_fault n at counts h) (λ l f z m. kept_after n at counts h l f z) (λ l f z m e. absurd (not_both (sym e)))
      (λ l f z. kept_on n at counts h l f z (kept n (after_command (front ++ a) at) (counts_behind (front ++ a) at counts) (context_behind (front ++ a) at h)))
    where
      beyond : length (front ++ a) ≡ offset → length (front ++ a) ≡ length front + length a → ⊥
      beyond q l = omega arith

module _ (front a b : List ℕ) where
  -- A job with a refusal stays refused at the same place whatever bytes follow a faulty command that is not cut short: `front`
  -- is what is kept, and holds that command whole.
  pub refused_stays : (number offset : ℕ) → placed (front ++ a) ≡ refused number offset → after_command front offset ≤ length front → placed (front ++ b) ≡ refused number offset
  unfolding placed listed
  refused_stays number offset e w =
      ap placed_of (kept front a b number offset (omega (arith, width_some front offset)) (λ t. w) 4097 0 first_counts nothing (listed_refused (front ++ a) number offset e))

  -- and one with bytes after its end stays refused where the first of them is kept
  pub after_end_stays : (offset : ℕ) → placed (front ++ a) ≡ refused 3 offset → offset < length front → placed (front ++ b) ≡ refused 3 offset
  unfolding placed listed
  after_end_stays offset e w = ap placed_of (kept front a b 3 offset w (λ t. absurd (t refl)) 4097 0 first_counts nothing (listed_refused (front ++ a) 3 offset e))
