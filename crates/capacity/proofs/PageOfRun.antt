-- No page of rows that `run` wrote is refused with 12, for every job. 02, No. 3. Assumes nothing.
use mathlib.Core.Path.{◌≡◌, refl, sym, ap, ◌∙◌}
use mathlib.Core.Bool.{Bool, true, false, cond}
use mathlib.Core.List.{List, [], ◌∷◌, ◌++◌, append_assoc, map}
use Prim.Native.Nat.{ℕ, zero, suc, ◌+◌, ◌*◌, ◌≤◌, ◌<◌}
use native.Mathlib.Nat.{not-suc-le-zero}
use native.Mathlib.Omega.{arith}
use borrow.Author.Tests.{le-leb, le-ltb}
use lib.Dec.{ltb}
use lib.IntN.{ℤ}
use lib.ListN.{length, drop}
use lib.Seq.{take_at, drop-append-add}
use Rattle.claims.specs.declared.Row.{Row}
use Rattle.claims.specs.Sizes.{Sized, AllSized}
use Rattle.claims.proofs.Sizes.{verdict_size}
use Rattle.layout.proofs.Numbers.{Bytes}
use Rattle.format.specs.Commands.{byte_of}
use Rattle.rows.specs.Rows.{rows_of, words}
use Rattle.rows.specs.Writing.{joined}
use Rattle.rows.proofs.Memory.{Eights}
use Rattle.text.specs.Lines.{row_words}
use Rattle.printing.specs.Page.{widths, page_text, page_length}
use Rattle.printing.specs.Answers.{any_too_wide, page_too_wide, printed, refused_with, page_of}
use Rattle.printing.proofs.Narrow.{row_narrow}
use Rattle.printing.proofs.Scan.{row_passed}
use Rattle.printing.proofs.Lengths.{page_length_lem}
use Rattle.printing.proofs.Answered.{page_answer_lem}
use Rattle.job.specs.Placed.{Placed, Job, refused, accepted, placed, all_rows}
use Rattle.job.proofs.Offsets.{accepted_offset, byte_most}
use Rattle.capacity.specs.Calls.{run_from, run_of, rows_from, rows_after}
use Rattle.capacity.proofs.Ranges.{AllGood, GoodJob, all_good}
use Rattle.capacity.proofs.RowsSized.{rows_sized}
use Rattle.capacity.proofs.Runs.{differ}
use Rattle.capacity.proofs.SameWords.{fits_from, length_from}
use Rattle.capacity.proofs.Written.{rows_eight}

-- ---- the rows of a job

-- no value of these rows is too wide
abbrev AllNarrow : List (List ℤ) → Type 0
AllNarrow [] = Unit {0}
AllNarrow (row ∷ rows) = (any_too_wide widths row ≡ false) × AllNarrow rows

words_narrow : (offset byte : ℕ) (r : Row) → offset ≤ 237512 → byte ≤ 13 → Sized r → any_too_wide widths (words offset byte r) ≡ false
words_narrow offset byte r o b s =
    row_narrow offset byte r.word2 r.word3 r.word4 r.word5 r.word6 r.verdict (omega arith) (omega arith) s.word2 s.word3 s.word4 s.word5
    s.word6 (omega (arith, verdict_size r.verdict s.verdict_least s.verdict_greatest))

-- the rows of one command, before others
own_narrow : (offset byte : ℕ) → offset ≤ 237512 → byte ≤ 13 → (rows : List Row) (others : List (List ℤ)) → AllSized rows → AllNarrow others →
    AllNarrow (map (words offset byte) rows ++ others)
own_narrow offset byte o b [] others s n = n
own_narrow offset byte o b (r ∷ rs) others s n = (words_narrow offset byte r o b s.0, own_narrow offset byte o b rs others s.1 n)

all_narrow : (job : List ℕ) (ps : List Placed) → placed job ≡ accepted ps → (earlier later : List Placed) → ps ≡ earlier ++ later → AllGood later → AllNarrow (all_rows later)
unfolding all_rows
all_narrow job ps e earlier [] q g = tt
all_narrow job ps e earlier (p ∷ later) q g =
    own_narrow p.offset (byte_of p.command) (accepted_offset job ps e earlier p later q) (byte_most p.command)
    (rows_of p.context p.command) (all_rows later) (rows_sized p g.0)
    (all_narrow job ps e (earlier ++ p ∷ []) later (q ∙ sym (append_assoc earlier (p ∷ []) later)) g.1)

abbrev NarrowJob : Job → Type 0
NarrowJob (refused number offset) = Unit {0}
NarrowJob (accepted ps) = AllNarrow (all_rows ps)

narrow_job : (job : List ℕ) (j : Job) → placed job ≡ j → GoodJob j → NarrowJob j
narrow_job job (refused number offset) e g = tt
narrow_job job (accepted ps) e g = all_narrow job ps e [] ps refl g

-- ---- their page

-- row n as it stands in the slice, whatever words follow the rows
row_in_slice : (rows : List (List ℤ)) (after : List ℤ) → Eights rows → AllNarrow rows → (n : ℕ) → n < length rows → any_too_wide widths (row_words (joined rows ++ after) n) ≡ false
row_in_slice [] after e a n h = absurd (not-suc-le-zero h)
row_in_slice (r ∷ rs) after e a zero h = rw (append_assoc r (joined rs) after, take_at r (joined rs ++ after) 8 e.0) a.0
row_in_slice (r ∷ rs) after e a (suc n) h =
    let k : 8 * suc n ≡ length r + 8 * n = omega (arith, e.0) in
    rw (append_assoc r (joined rs) after, k, drop-append-add r (joined rs ++ after) (8 * n)) (row_in_slice rs after e.1 a.1 n (omega arith))

page_narrow : (rows : List (List ℤ)) (after : List ℤ) → Eights rows → AllNarrow rows → (n : ℕ) → n ≤ length rows → page_too_wide (joined rows ++ after) n ≡ false
unfolding page_too_wide
page_narrow rows after e a zero h = refl
page_narrow rows after e a (suc n) h = row_passed (joined rows ++ after) n (row_in_slice rows after e a n h) (page_narrow rows after e a n (omega arith))

narrow_from : (j : Job) (m : List ℤ) → NarrowJob j → (run_from j (length m)).accepted ≡ true → (n : ℕ) → n ≤ (run_from j (length m)).rows → page_too_wide (rows_from j m) n ≡ false
narrow_from (refused number offset) m g a n h = absurd (differ (sym a))
narrow_from (accepted ps) m g a n h =
    let t = le-leb (8 * length (all_rows ps)) (length m) (fits_from ps (length m) a) in
    rw t (page_narrow (all_rows ps) (drop (8 * length (all_rows ps)) m) (rows_eight ps) g n (rw t at h))

-- the slice has the words of all rows that run answers
words_enough : (j : Job) (m : List ℤ) → (run_from j (length m)).accepted ≡ true → 8 * (run_from j (length m)).rows ≤ length (rows_from j m)
words_enough (refused number offset) m a = absurd (differ (sym a))
words_enough (accepted ps) m a =
    let l = fits_from ps (length m) a in
    rw (length_from (accepted ps) m, le-leb (8 * length (all_rows ps)) (length m) l) l

-- ---- the theorems: of a job that run accepts, and any number of its rows

module _ (job : List ℕ) (bytes : Bytes job) (m : List ℤ) (a : (run_of job (length m)).accepted ≡ true) (n : ℕ) (h : n ≤ (run_of job (length m)).rows) where
  -- no value is too wide
  pub none_too_wide : page_too_wide (rows_after job m) n ≡ false
  unfolding run_of rows_after
  none_too_wide = narrow_from (placed job) m (narrow_job job (placed job) refl (all_good job bytes)) a n h

  enough : 8 * n ≤ length (rows_after job m)
  unfolding run_of rows_after
  enough = omega (arith, h, words_enough (placed job) m a)

  -- so the page is printed, or refused with 11
  pub page_of_run : (room : ℕ) → page_of (rows_after job m) n room ≡ cond (ltb room (length (page_text (rows_after job m) n))) (refused_with 11) (printed (length (page_text (rows_after job m) n)))
  unfolding page_of
  page_of_run room = rw (le-ltb (length (rows_after job m)) (8 * n) enough, none_too_wide)

  -- never with 12
  pub never_twelve : (room : ℕ) → ¬ ((page_of (rows_after job m) n room).number ≡ 12)
  never_twelve room e = by (ltb room (length (page_text (rows_after job m) n))) (rw (page_of_run room) at e)
    where
      by : (b : Bool) → ¬ ((cond b (refused_with 11) (printed (length (page_text (rows_after job m) n)))).number ≡ 12)
      by true e = omega arith
      by false e = omega arith

  -- with room for the page it is printed
  pub page_printed : (room : ℕ) → page_length n ≤ room → page_of (rows_after job m) n room ≡ printed (page_length n)
  page_printed room l = page_answer_lem (rows_after job m) n room enough none_too_wide l ∙ ap printed (page_length_lem (rows_after job m) n enough none_too_wide)
