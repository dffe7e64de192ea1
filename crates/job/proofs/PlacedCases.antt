-- The commands of the file from an offset on, by any tests, by cases: no end, a fault, bytes after the end, the end, and a command
-- before the rest; and the placed commands that are made from them. Assumes nothing.
use mathlib.Core.Path.{◌≡◌, refl, sym, ap, subst}
use mathlib.Core.List.{List, []}
use Prim.Native.Nat.{ℕ, zero, suc, ◌+◌, ◌≤◌, ◌<◌}
use native.Mathlib.Omega.{arith}
use native.Mathlib.Decide.{dec_le, ℕ_discrete}
use lib.ListN.{length}
use borrow.Author.Tests.{le-leb, lt-leb, lt-ltb, le-ltb, ne_eqb}
use Rattle.layout.specs.Operands.{byte_at}
use Rattle.blocks.specs.FileCommands.{file_command_at, given}
use Rattle.context.specs.Context.{Context}
use Rattle.job.specs.declared.Counts.{Counts}
use Rattle.job.specs.Counts.{counted}
use Rattle.job.specs.Faults.{Tests, tests_at, first_of, after_command}
use Rattle.job.specs.Placed.{JobOf, Listing, refused, accepted, Placed, context_after, Entry, entry_at, placed_in, placed_all, before, listed_by, listed, placed_of, placed}

-- the fault of a command by the tests of 01 and 02
abbrev pub fault_at : List ℕ → ℕ → Counts → Context → ℕ
fault_at job at counts h = first_of (tests_at job at counts h)

-- a refused job is not an accepted one
pub not_both : {A : Type 0} {number offset : ℕ} {xs : List A} → ◌≡◌ {A = JobOf A} (refused number offset) (accepted xs) → ⊥
not_both q = let z : ◌≡◌ {A = ℕ} 0 1 = cc in omega arith

-- how many commands the one at an offset gives; what is counted, and what holds, after them
abbrev pub weight_at : List ℕ → ℕ → ℕ
weight_at job at = length (given (file_command_at job at))

abbrev pub counts_behind : List ℕ → ℕ → Counts → Counts
counts_behind job at counts = counted counts (file_command_at job at)

abbrev pub context_behind : List ℕ → ℕ → Context → Context
context_behind job at h = context_after h (placed_in (entry_at job at h))

-- what follows it
abbrev pub rest_after : Tests → ℕ → List ℕ → ℕ → Counts → Context → Listing
rest_after tests n job at counts h = listed_by tests n job (after_command job at) (counts_behind job at counts) (context_behind job at h)

module _ (tests : Tests) (n : ℕ) (job : List ℕ) (at : ℕ) (counts : Counts) (h : Context) where
  pub placed_none : length job ≤ at → listed_by tests (suc n) job at counts h ≡ refused 1 (length job)
  unfolding listed_by
  placed_none l = rw (le-leb (length job) at l)

  module _ (l : at < length job) where
    pub placed_fault : (k : ℕ) → first_of (tests job at counts h) ≡ suc k → listed_by tests (suc n) job at counts h ≡ refused (suc k) at
    unfolding listed_by
    placed_fault k e = rw (lt-leb (length job) at l, e, lt-ltb 0 (suc k) (omega arith))

    module _ (e : first_of (tests job at counts h) ≡ 0) where
      pub placed_more : byte_at job at ≡ 0 → at + 1 < length job → listed_by tests (suc n) job at counts h ≡ refused 3 (at + 1)
      unfolding listed_by
      placed_more b m = rw (lt-leb (length job) at l, e, b, lt-ltb (at + 1) (length job) m)

      pub placed_end : byte_at job at ≡ 0 → length job ≤ at + 1 → listed_by tests (suc n) job at counts h ≡ accepted []
      unfolding listed_by
      placed_end b m = rw (lt-leb (length job) at l, e, b, le-ltb (at + 1) (length job) m)

      pub placed_goes : (byte_at job at ≡ 0 → ⊥) → listed_by tests (suc n) job at counts h ≡ before (entry_at job at h) (rest_after tests n job at counts h)
      unfolding listed_by
      placed_goes b = rw (lt-leb (length job) at l, e, ne_eqb (byte_at job at) 0 b)

  -- what holds in each case holds
  pub by_cases : (P : Listing → Type 0) →
      (length job ≤ at → P (refused 1 (length job))) →
      (at < length job → (k : ℕ) → first_of (tests job at counts h) ≡ suc k → P (refused (suc k) at)) →
      (at < length job → first_of (tests job at counts h) ≡ 0 → byte_at job at ≡ 0 → at + 1 < length job → P (refused 3 (at + 1))) →
      (at < length job → first_of (tests job at counts h) ≡ 0 → byte_at job at ≡ 0 → length job ≤ at + 1 → P (accepted [])) →
      (at < length job → first_of (tests job at counts h) ≡ 0 → (byte_at job at ≡ 0 → ⊥) → P (before (entry_at job at h) (rest_after tests n job at counts h))) →
      P (listed_by tests (suc n) job at counts h)
  by_cases P p1 p2 p3 p4 p5 = reached (dec_le (length job) at)
    where
      at_end : at < length job → first_of (tests job at counts h) ≡ 0 → byte_at job at ≡ 0 → Dec (at + 1 < length job) → P (listed_by tests (suc n) job at counts h)
      at_end l e b (yes m) = subst P (sym (placed_more l e b m)) (p3 l e b m)
      at_end l e b (no m) = let w : length job ≤ at + 1 = omega arith in subst P (sym (placed_end l e b w)) (p4 l e b w)

      no_fault : at < length job → first_of (tests job at counts h) ≡ 0 → Dec (byte_at job at ≡ 0) → P (listed_by tests (suc n) job at counts h)
      no_fault l e (yes b) = at_end l e b (dec_le (suc (at + 1)) (length job))
      no_fault l e (no b) = subst P (sym (placed_goes l e b)) (p5 l e b)

      in_job : at < length job → (k : ℕ) → first_of (tests job at counts h) ≡ k → P (listed_by tests (suc n) job at counts h)
      in_job l zero e = no_fault l e (ℕ_discrete (byte_at job at) 0)
      in_job l (suc k) e = subst P (sym (placed_fault l k e)) (p2 l k e)

      reached : Dec (length job ≤ at) → P (listed_by tests (suc n) job at counts h)
      reached (yes l) = subst P (sym (placed_none l)) (p1 l)
      reached (no l) = in_job (omega arith) (first_of (tests job at counts h)) refl

-- ---- the placed commands

-- where they are accepted, so are the commands of the file that they are made from
pub placed_from : (j : Listing) (ps : List Placed) → placed_of j ≡ accepted ps → (es : List Entry) × (j ≡ accepted es) × (placed_all es ≡ ps)
placed_from (refused number offset) ps e = absurd (not_both e)
placed_from (accepted es) ps e = let q : placed_all es ≡ ps = cc in (es, refl, q)

-- and where they are refused, these are
refused_from : (j : Listing) (number offset : ℕ) → placed_of j ≡ refused number offset → j ≡ refused number offset
refused_from (refused m o) number offset e = let q : m ≡ number = cc in let r : o ≡ offset = cc in rw (q, r)
refused_from (accepted es) number offset e = absurd (not_both (sym e))

pub listed_of : (job : List ℕ) (ps : List Placed) → placed job ≡ accepted ps → (es : List Entry) × (listed job ≡ accepted es) × (placed_all es ≡ ps)
unfolding placed
listed_of job ps e = placed_from (listed job) ps e

pub listed_refused : (job : List ℕ) (number offset : ℕ) → placed job ≡ refused number offset → listed job ≡ refused number offset
unfolding placed
listed_refused job number offset e = refused_from (listed job) number offset e

pub placed_of_lem : (job : List ℕ) (es : List Entry) → listed job ≡ accepted es → placed job ≡ accepted (placed_all es)
unfolding placed
placed_of_lem job es e = ap placed_of e
