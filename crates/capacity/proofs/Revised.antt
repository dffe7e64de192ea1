-- Joints revised within a job, in what `run` gives: jobs that document 01 accepts have the answer and the words they had; a member
-- without hinges has its row and its claims of demand 3 from the joints given latest under its ids before it; the words of
-- commands already met do not depend on what follows; no call answers 7. 02, No. 1. Assumes nothing.
use mathlib.Core.Path.{◌≡◌, refl, sym, ap, ◌∙◌}
use mathlib.Core.Bool.{Bool, true, false, not, ◌||◌, cond}
use mathlib.Core.List.{List, [], ◌∷◌, ◌++◌, append_assoc}
use Rattle.std.specs.Prelude.{Some}
use Prim.Native.Nat.{ℕ, ◌*◌, ◌≤◌}
use borrow.Author.Tests.{le-leb}
use lib.Dec.{T, eqb, leb, T_not}
use lib.IntN.{ℤ}
use lib.ListN.{length, take, drop}
use lib.Seq.{take_at}
use Rattle.coefficient.specs.declared.Settings.{Settings}
use Rattle.claims.specs.Claims.{Hold}
use Rattle.members.specs.declared.Joint.{Joint}
use Rattle.members.specs.declared.Hingeless.{Hingeless}
use Rattle.members.specs.Hingeless.{hingeless_row, hingeless_claims}
use Rattle.format.specs.declared.Command.TheVariants.{Hingeless as hingeless}
use Rattle.context.specs.Context.{missing, absent}
use Rattle.context.proofs.Shown.{present}
use Rattle.rows.specs.Rows.{words, rows_with, rows_of}
use Rattle.rows.specs.Writing.{joined}
use Rattle.job.specs.Faults.{tests_at}
use Rattle.job.specs.Placed.{Placed, Entry, placed_all, Job, refused, accepted, listed, placed_with, placed, rows_at, all_rows}
use Rattle.job.specs.Answers.{size_from, size_of, fault_in, fault_of}
use Rattle.job.specs.Earlier.{latest_joint, ending_by}
use Rattle.job.proofs.PlacedCases.{placed_of_lem}
use Rattle.job.proofs.Faultless.{settings_there}
use Rattle.job.proofs.AcceptedLaws.{accepted_each}
use Rattle.job.proofs.AcceptedBefore.{with7, accepted_before}
use Rattle.job.proofs.Latest.{latest_joint_lem}
use Rattle.job.proofs.AlreadyMet.{met_rows_first, same_met_rows}
use Rattle.job.proofs.RefusedLaws.{never_seven}
use Rattle.totals.specs.declared.Totals.{Totals}
use Rattle.capacity.specs.Calls.{totals_of, ran_answer, too_short_run, run_from, run_of, rows_from, rows_after}
use Rattle.capacity.specs.DemandThree.{claims_of, claims_with}
use Rattle.capacity.proofs.Written.{rows_eight, joined_length, joined_append}
use Rattle.capacity.proofs.Runs.{differ}

-- ---- jobs accepted before give the same rows

-- by the tests of document 01, with that for 7
module _ (job : List ℕ) (ps : List Placed) (e : placed_with (with7 tests_at) job ≡ accepted ps) where
  same_placed : placed_with (with7 tests_at) job ≡ placed job
  same_placed = e ∙ sym (accepted_before job ps e)

  pub same_size_as_before : size_from (placed_with (with7 tests_at) job) ≡ size_of job
  unfolding size_of
  same_size_as_before = ap size_from same_placed

  pub same_answer_as_before : (words : ℕ) → run_from (placed_with (with7 tests_at) job) words ≡ run_of job words
  unfolding run_of
  same_answer_as_before words = ap (λ (j : Job). run_from j words) same_placed

  pub same_rows_as_before : (m : List ℤ) → rows_from (placed_with (with7 tests_at) job) m ≡ rows_after job m
  unfolding rows_after
  same_rows_as_before m = ap (λ (j : Job). rows_from j m) same_placed

-- ---- the joints of a member without hinges

-- its row and its claims are made from the joints given latest under its ids
pub record Counted (earlier : List Placed) (p : Placed) (id1 id2 : ℕ) (m : Hingeless) : Type 1 where
  pub settings : Settings
  pub joint1 : Joint
  pub joint2 : Joint
  pub by_settings : p.context.settings ≡ Some settings
  pub latest1 : latest_joint id1 earlier ≡ Some joint1
  pub latest2 : latest_joint id2 earlier ≡ Some joint2
  pub rows : rows_at p ≡ words p.offset 5 (hingeless_row settings joint1 joint2 m) ∷ []
  pub claims : claims_of p ≡ (λ r. Hold (hingeless_claims settings joint1 joint2 m r)) ∷ []

neither : (a b : Bool) → (a || b) ≡ false → (a ≡ false) × (b ≡ false)
neither true b e = absurd (differ e)
neither false b e = (refl, e)

module _ (p : Placed) (s : Settings) (i j : Joint) (id1 id2 : ℕ) (m : Hingeless)
    (c : p.command ≡ hingeless id1 id2 m) (es : p.context.settings ≡ Some s) (ei : p.context.joints id1 ≡ Some i) (ej : p.context.joints id2 ≡ Some j) where
  rows_made : rows_at p ≡ words p.offset 5 (hingeless_row s i j m) ∷ []
  unfolding rows_of rows_with
  rows_made = rw (c, es, ei, ej)

  claims_made : claims_of p ≡ (λ r. Hold (hingeless_claims s i j m r)) ∷ []
  unfolding claims_of claims_with
  claims_made = rw (c, es, ei, ej)

module _ (job : List ℕ) (ps : List Placed) (e : placed job ≡ accepted ps) (earlier : List Placed) (p : Placed) (later : List Placed) (q : ps ≡ earlier ++ p ∷ later) where
  pub latest_joints_count : (id1 id2 : ℕ) (m : Hingeless) → p.command ≡ hingeless id1 id2 m → Counted earlier p id1 id2 m
  unfolding absent
  latest_joints_count id1 id2 m c =
      let t = (accepted_each job ps e earlier p later q).1 in
      let (s, es) = present p.context.settings (settings_there 5 refl p.context.settings (rw c at t.settings)) in
      let n = neither (missing (p.context.joints id1)) (missing (p.context.joints id2)) (rw c at t.present) in
      let (i, ei) = present (p.context.joints id1) n.0 in
      let (j, ej) = present (p.context.joints id2) n.1 in
      record {
        settings = s;
        joint1 = i;
        joint2 = j;
        by_settings = es;
        latest1 = sym (latest_joint_lem job ps e earlier p later q id1) ∙ ei;
        latest2 = sym (latest_joint_lem job ps e earlier p later q id2) ∙ ej;
        rows = rows_made p s i j id1 id2 m c es ei ej;
        claims = claims_made p s i j id1 id2 m c es ei ej;
      }

-- ---- the words of commands already met

-- those of the commands of the file that end by an offset come first
met_words : (job : List ℕ) (es : List Entry) → listed job ≡ accepted es → (limit : ℕ) (m : List ℤ) → 8 * length (all_rows (placed_all es)) ≤ length m →
    take (8 * length (all_rows (placed_all (ending_by limit es)))) (rows_after job m) ≡ joined (all_rows (placed_all (ending_by limit es)))
unfolding rows_after
met_words job es e limit m l =
    let ps = placed_all es in
    let (later, split) = met_rows_first job es e limit in
    let met = all_rows (placed_all (ending_by limit es)) in
    let rest = joined (all_rows later) ++ drop (8 * length (all_rows ps)) m in
    let front : rows_from (placed job) m ≡ joined met ++ rest =
    ap (λ (j : Job). rows_from j m) (placed_of_lem job es e) ∙ rw (le-leb (8 * length (all_rows ps)) (length m) l) (ap (λ (x : List (List ℤ)). joined x ++ drop (8 * length (all_rows ps)) m) split)
    ∙ ap (λ (x : List ℤ). x ++ drop (8 * length (all_rows ps)) m) (joined_append met (all_rows later)) ∙ append_assoc (joined met) (joined (all_rows later)) (drop (8 * length (all_rows ps)) m) in
    ap (take (8 * length met)) front ∙ take_at (joined met) rest (8 * length met) (joined_length met (rows_eight (placed_all (ending_by limit es))))

-- two accepted jobs alike in front, each run on a slice with room: the words of the commands of the file that end in the front are the same
pub same_met_words : (front a b : List ℕ) (es fs : List Entry) → listed (front ++ a) ≡ accepted es → listed (front ++ b) ≡ accepted fs →
    (m k : List ℤ) → 8 * length (all_rows (placed_all es)) ≤ length m → 8 * length (all_rows (placed_all fs)) ≤ length k →
    take (8 * length (all_rows (placed_all (ending_by (length front) es)))) (rows_after (front ++ a) m) ≡ take (8 * length (all_rows (placed_all (ending_by (length front) fs)))) (rows_after (front ++ b) k)
same_met_words front a b es fs e g m k l w =
    met_words (front ++ a) es e (length front) m l ∙ ap joined (same_met_rows front a b es fs e g) ∙ sym (met_words (front ++ b) fs g (length front) k w)

-- ---- refusal 7 no longer occurs

other : (n : ℕ) → T (not (eqb n 7)) → n ≡ 7 → ⊥
other n t e = T_not (eqb n 7) t (rw e tt)

module _ (job : List ℕ) where
  -- an answer made from the placed commands, whose number is that of their refusal, and another than 7 where they are accepted
  never : (number : Job → ℕ) → ((n offset : ℕ) → number (refused n offset) ≡ n) → ((ps : List Placed) → number (accepted ps) ≡ 7 → ⊥) →
      (j : Job) → placed job ≡ j → number j ≡ 7 → ⊥
  never number r a (refused n offset) e s = never_seven job n offset e (sym (r n offset) ∙ s)
  never number r a (accepted ps) e s = a ps s

  -- neither size, nor fault, nor run answers 7
  pub size_never_seven : (size_of job).number ≡ 7 → ⊥
  unfolding size_of
  size_never_seven = never (λ j. (size_from j).number) (λ n offset. refl) (λ ps. other 0 tt) (placed job) refl

  pub fault_never_seven : (fault_of job).number ≡ 7 → ⊥
  unfolding fault_of
  fault_never_seven = never (λ j. (fault_in job j).number) (λ n offset. refl) (λ ps. other 0 tt) (placed job) refl

  pub run_never_seven : (words : ℕ) → (run_of job words).number ≡ 7 → ⊥
  unfolding run_of
  run_never_seven words = never (λ j. (run_from j words).number) (λ n offset. refl) (λ ps. none_or_nine (leb (8 * length (all_rows ps)) words) (totals_of (all_rows ps))) (placed job) refl
    where
      none_or_nine : (fits : Bool) (t : Totals) → (cond fits (ran_answer t) (too_short_run t.rows)).number ≡ 7 → ⊥
      none_or_nine true n = other 0 tt
      none_or_nine false n = other 9 tt
