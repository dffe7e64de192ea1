-- What is printed of a job in each of the three answers of `run`, over plain values. Assumes nothing.
use mathlib.Core.Path.{◌≡◌, refl, sym, ap, ap₂, ◌∙◌, subst}
use mathlib.Core.Bool.{Bool, true, false, cond, true≢false}
use mathlib.Core.List.{List}
use Prim.Native.Nat.{ℕ, ◌*◌, ◌≤◌, ◌<◌}
use native.Mathlib.Nat.{lt_irrefl}
use native.Mathlib.Omega.{arith}
use borrow.Author.Tests.{le-leb, lt-leb, leb-true, leb-false, le-ltb, lt-ltb}
use lib.Dec.{leb}
use lib.IntN.{ℤ}
use lib.ListN.{length, drop, length-append, length-drop}
use Rattle.text.specs.Lines.{refused_line}
use Rattle.slices.specs.Written.{WritesAtMost}
use Rattle.rows.specs.Writing.{joined}
use Rattle.job.specs.Placed.{Placed, Job, refused, accepted, placed, all_rows}
use Rattle.layout.proofs.Numbers.{Bytes}
use Rattle.printing.specs.Answers.{page_too_wide}
use Rattle.capacity.proofs.PageOfRun.{none_too_wide}
use Rattle.std.specs.Prelude.{Err}
use Rattle.job.specs.Refusals.{number_of}
use Rattle.capacity.specs.declared.RunError.{RunError}
use Rattle.capacity.specs.declared.RunError.TheVariants.{Refused, TooShort}
use Rattle.capacity.specs.Calls.{run_answer, RunAnswer, totals_of, ran_answer, refused_run, too_short_run, run_from, run_of, rows_from, rows_after}
use Rattle.capacity.proofs.Numbers.{run_numbers}
use Rattle.report.specs.Printed.{most_bytes, most_rows, accepted_text, job_text, printed_of}
use Rattle.totals.specs.declared.Totals.{Totals}
use Rattle.capacity.specs.Numbers.{NumbersOf}
use Rattle.report.specs.Listing.{TotalsOf}
use Rattle.report.specs.Page.{rows_text}
use Rattle.report.proofs.FirstRows.{first_text}

-- the words of the slice that is lent to `run`
abbrev pub lent : ℕ
lent = 8 * most_rows

-- by the room for an accepted job's rows
module _ (ps : List Placed) (P : RunAnswer → Type 0) where
  by_room : (leb (8 * length (all_rows ps)) lent ≡ true → P (ran_answer (totals_of (all_rows ps)))) →
      (leb (8 * length (all_rows ps)) lent ≡ false → P (too_short_run (length (all_rows ps)))) → P (run_from (accepted ps) lent)
  by_room room none = go (leb (8 * length (all_rows ps)) lent) refl
    where
      go : (b : Bool) → leb (8 * length (all_rows ps)) lent ≡ b → P (cond b (ran_answer (totals_of (all_rows ps))) (too_short_run (length (all_rows ps))))
      go true e = room e
      go false e = none e

module _ (paged : Bool) where
  -- ---- refused

  refused_from : (number offset : ℕ) (j : Job) → refused_run number offset ≡ run_from j lent → job_text (rows_text paged) j ≡ refused_line number offset
  refused_from number offset (refused n o) e = sym (ap₂ refused_line (ap (λ (a : RunAnswer). a.number) e) (ap (λ (a : RunAnswer). a.offset) e))
  refused_from number offset (accepted ps) e =
      by_room ps (λ a. refused_run number offset ≡ a → accepted_text (rows_text paged) (all_rows ps) ≡ refused_line number offset)
      (λ y q. absurd (true≢false (sym (ap (λ (a : RunAnswer). a.accepted) q))))
      (λ y q. absurd (lt_irrefl 0 (omega (arith, leb-false (8 * length (all_rows ps)) lent y, ap (λ (a : RunAnswer). a.needed) q)))) e

  pub refused_text : (job : List ℕ) (number offset : ℕ) → refused_run number offset ≡ run_of job lent → job_text (rows_text paged) (placed job) ≡ refused_line number offset
  unfolding run_of
  refused_text job number offset e = refused_from number offset (placed job) e

  -- ---- too many rows

  short_from : (n : ℕ) (j : Job) → too_short_run n ≡ run_from j lent → job_text (rows_text paged) j ≡ refused_line 9 n
  short_from n (refused number offset) e =
      ap₂ refused_line (sym (ap (λ (a : RunAnswer). a.number) e)) (sym (ap (λ (a : RunAnswer). a.offset) e) ∙ sym (ap (λ (a : RunAnswer). a.needed) e))
  short_from n (accepted ps) e =
      by_room ps (λ a. too_short_run n ≡ a → accepted_text (rows_text paged) (all_rows ps) ≡ refused_line 9 n)
      (λ y q. absurd (true≢false (sym (ap (λ (a : RunAnswer). a.accepted) q))))
      (λ y q.
      let l = lt-leb (length (all_rows ps)) most_rows (omega (arith, leb-false (8 * length (all_rows ps)) lent y)) in
      rw l (ap (refused_line 9) (sym (ap (λ (a : RunAnswer). a.needed) q)))) e

  pub short_text : (job : List ℕ) (n : ℕ) → too_short_run n ≡ run_of job lent → job_text (rows_text paged) (placed job) ≡ refused_line 9 n
  unfolding run_of
  short_text job n e = short_from n (placed job) e

  -- ---- rows

  -- the rows are few enough, and what is printed is the text of the words that `run` left
  pub record Shown (j : Job) (n : ℕ) (words : List ℤ) : Type 0 where
    pub few : n ≤ most_rows
    pub text : job_text (rows_text paged) j ≡ rows_text paged words n

  rows_from_lem : (t : Totals) (m : List ℤ) → length m ≡ lent → (j : Job) → length (rows_from j m) ≡ lent → ran_answer t ≡ run_from j lent → Shown j t.rows (rows_from j m)
  rows_from_lem t m k (refused number offset) kept e = absurd (true≢false (ap (λ (a : RunAnswer). a.accepted) e))
  rows_from_lem t m k (accepted ps) kept e =
      by_room ps (λ a. ran_answer t ≡ a → Shown (accepted ps) t.rows (rows_from (accepted ps) m))
      (λ y q.
      let rows = all_rows ps in
      let c : t.rows ≡ length rows = ap (λ (a : RunAnswer). a.rows) q in
      let fit : 8 * length rows ≤ lent = leb-true (8 * length rows) lent y in
      let room : leb (8 * length rows) (length m) ≡ true = rw k y in
      let l = le-leb (length rows) most_rows (omega arith) in
      let same = first_text (joined rows) (drop (8 * length rows) m) paged (length rows) (omega (arith, simp (length-append, length-drop) at (rw room at kept))) in
      record { few = omega arith; text = rw (l, room, c) (sym same) })
      (λ y q. absurd (true≢false (ap (λ (a : RunAnswer). a.accepted) q))) e

  pub rows_text_lem : (job : List ℕ) (t : Totals) (m : List ℤ) → length m ≡ lent → length (rows_after job m) ≡ lent → ran_answer t ≡ run_of job lent → Shown (placed job) t.rows (rows_after job m)
  unfolding run_of rows_after
  rows_text_lem job t m k kept e = rows_from_lem t m k (placed job) kept e

-- the words that `run` left, and its totals: those of the rows, of which no value is too wide for a page
pub record Listed (j : Job) (words : List ℤ) (t : Totals) : Type 0 where
  pub few : t.rows ≤ most_rows
  pub whole : 8 * t.rows ≤ length words
  pub totals : TotalsOf words t
  pub narrow : page_too_wide words t.rows ≡ false
  pub text : (paged : Bool) → job_text (rows_text paged) j ≡ rows_text paged words t.rows

module _ (job : List ℕ) (b : Bytes job) (m : List ℤ) (k : length m ≡ lent) where
  pub listed : (t : Totals) → ran_answer t ≡ run_of job (length m) → (words : List ℤ) → words ≡ rows_after job m → length words ≡ length m → Listed (placed job) words t
  listed t e words w kept =
      let shown = λ (paged : Bool). rows_text_lem paged job t m k (ap length (sym w) ∙ kept ∙ k) (e ∙ ap (run_of job) k) in
      let few = (shown true).few in
      let numbers = subst (λ (a : RunAnswer). NumbersOf a (rows_after job m)) (sym e) (run_numbers job b m) in
      record {
        few = few;
        whole = omega (arith, kept, k);
        totals = rw w (record { failed = numbers.failed_counted; checks = numbers.checks_counted });
        narrow = rw w (none_too_wide job b m (ap (λ (a : RunAnswer). a.accepted) (sym e)) t.rows (omega (arith, ap (λ (a : RunAnswer). a.rows) e)));
        text = λ paged. (shown paged).text ∙ ap (λ x. rows_text paged x t.rows) (sym w);
      }

-- what is printed behind the number of a refusal: its offset, or the rows needed
abbrev pub told : RunError → ℕ
told (Refused r) = r.offset
told (TooShort n) = n

pub error_text : (paged : Bool) (job : List ℕ) (e : RunError) → run_answer (Err e) ≡ run_of job lent → job_text (rows_text paged) (placed job) ≡ refused_line (run_answer (Err e)).number (told e)
error_text paged job (Refused r) a = refused_text paged job (number_of r.refusal) r.offset a
error_text paged job (TooShort n) a = short_text paged job n a

-- ---- the room of a line and of a listing

pub at_most : {most : ℕ} {before : List ℕ} {text after : List ℕ} {next : ℕ} → WritesAtMost most before 0 text after next → most ≤ 172114 → WritesAtMost 172114 before 0 text after next
at_most w h = record { writes = w.writes; short = omega (arith, w.short) }

-- ---- the bytes of the job

module _ (text : List ℤ → ℕ → List ℕ) (job : List ℕ) where
  pub long_text : most_bytes < length job → printed_of text job ≡ refused_line 10 0
  unfolding printed_of
  long_text h = ap (λ (b : Bool). cond b (refused_line 10 0) (job_text text (placed job))) (lt-ltb most_bytes (length job) h)

  pub whole_text : length job ≤ most_bytes → printed_of text job ≡ job_text text (placed job)
  unfolding printed_of
  whole_text h = ap (λ (b : Bool). cond b (refused_line 10 0) (job_text text (placed job))) (le-ltb most_bytes (length job) h)
