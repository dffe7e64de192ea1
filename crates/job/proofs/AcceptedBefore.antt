-- What is accepted with more tests is accepted with fewer, with the same commands of the file and the same placed commands. So every job
-- that document 01 accepts, which refused a joint id given twice with 7, gives the rows that it gave. 02, No. 1: "Jobs accepted before
-- give the same rows." The tests are any whatever, so that no later test is bound to this. Assumes nothing.
use mathlib.Core.Path.{◌≡◌, refl, ap, ◌∙◌}
use mathlib.Core.Bool.{Bool, true, false}
use mathlib.Core.List.{List, [], ◌∷◌, ◌++◌}
use Rattle.std.specs.Prelude.{Option, None, Some}
use Prim.Native.Nat.{ℕ, zero, suc}
use Rattle.members.specs.declared.Joint.{Joint}
use Rattle.format.specs.Reading.{command_at}
use Rattle.context.specs.Context.{Context, nothing, given}
use Rattle.job.specs.declared.Counts.{Counts}
use Rattle.job.specs.Counts.{first_counts}
use Rattle.job.specs.Faults.{Tests, tests_at, first_of, after_command}
use Rattle.job.specs.Placed.{Placed, Entry, entry_at, Listing, refused, accepted, before, listed_by, listed_with, listed, placed_of, placed_with, placed}
use Rattle.job.specs.Earlier.{joint_in}
use Rattle.job.proofs.PlacedCases.{counts_behind, not_both, context_behind, rest_after, placed_end, placed_goes, by_cases, placed_from}

-- where these tests find no fault, those find none
abbrev pub Stricter : Tests → Tests → Type 0
Stricter more fewer = (job : List ℕ) (at : ℕ) (counts : Counts) (h : Context) → first_of (more job at counts h) ≡ 0 → first_of (fewer job at counts h) ≡ 0

module _ (more fewer : Tests) (s : Stricter more fewer) (job : List ℕ) where
  from : (n at : ℕ) (counts : Counts) (h : Context) (es : List Entry) → listed_by more n job at counts h ≡ accepted es → listed_by fewer n job at counts h ≡ accepted es
  unfolding listed_by
  from zero at counts h es = λ e. e
  from (suc n) at counts h es =
      by_cases more n job at counts h (λ j. j ≡ accepted es → listed_by fewer (suc n) job at counts h ≡ accepted es)
      (λ l q. absurd (not_both q)) (λ l k f q. absurd (not_both q)) (λ l f b m q. absurd (not_both q))
      (λ l f b m q. placed_end fewer n job at counts h l (s job at counts h f) b m ∙ q)
      (λ l f b q.
      placed_goes fewer n job at counts h l (s job at counts h f) b
      ∙ on (rest_after more n job at counts h) (from n (after_command job at) (counts_behind job at counts) (context_behind job at h)) q)
    where
      on : (j : Listing) → ((qs : List Entry) → j ≡ accepted qs → rest_after fewer n job at counts h ≡ accepted qs) → before (entry_at job at h) j ≡ accepted es →
          before (entry_at job at h) (rest_after fewer n job at counts h) ≡ accepted es
      on (refused number offset) ih q = absurd (not_both q)
      on (accepted qs) ih q = ap (before (entry_at job at h)) (ih qs refl) ∙ q

  -- what is accepted with more tests is accepted with fewer, with the same commands of the file
  pub fewer_tests : (es : List Entry) → listed_with more job ≡ accepted es → listed_with fewer job ≡ accepted es
  fewer_tests es e = from 4097 0 first_counts nothing es e

-- ---- the tests of document 01

-- 7: joint id given twice
abbrev pub given_twice : Context → Option (ℕ × Joint) → Bool
given_twice h None = false
given_twice h (Some (id, j)) = given (h.joints id)

-- tests with that for 7 behind them
abbrev pub with7 : Tests → Tests
with7 tests job at counts h = tests job at counts h ++ (given_twice h (joint_in (command_at job at)), 7) ∷ []

first_none : (ts us : List (Bool × ℕ)) → first_of (ts ++ us) ≡ 0 → first_of ts ≡ 0
first_none [] us e = refl
first_none ((true, k) ∷ ts) us e = e
first_none ((false, k) ∷ ts) us e = first_none ts us e

-- with request No. 1 alone `tests_at` is 2, 1, 8, 4, 5, 6, so that with the test for 7 it is the list of document 01
pub accepted_before : (job : List ℕ) (ps : List Placed) → placed_with (with7 tests_at) job ≡ accepted ps → placed job ≡ accepted ps
unfolding placed listed
accepted_before job ps e =
    let (es, l, q) = placed_from (listed_with (with7 tests_at) job) ps e in
    ap placed_of (fewer_tests (with7 tests_at) tests_at (λ job at counts h f. first_none (tests_at job at counts h) _ f) job es l) ∙ ap accepted q
