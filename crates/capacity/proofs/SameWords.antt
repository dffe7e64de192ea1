-- What `run` leaves in a slice: a job run twice gives the same words, a longer slice gives the same rows with its further words
-- as lent, and a refusal leaves every word. 01, "Calls". Assumes nothing.
use mathlib.Core.Path.{◌≡◌, refl, sym, ap, ◌∙◌}
use mathlib.Core.Bool.{Bool, true, false, cond}
use mathlib.Core.List.{List, ◌++◌, append_assoc}
use Prim.Native.Nat.{ℕ, ◌+◌, ◌*◌, ◌≤◌}
use native.Mathlib.Omega.{arith}
use borrow.Author.Tests.{le-leb, leb-true}
use lib.Dec.{leb}
use lib.IntN.{ℤ}
use lib.ListN.{length, take, drop, length-append, length-drop}
use lib.Seq.{take_at, drop_at, drop-append-le}
use Rattle.rows.specs.Writing.{joined}
use Rattle.job.specs.Placed.{Placed, Job, refused, accepted, placed, all_rows}
use Rattle.capacity.specs.Calls.{run_from, run_of, rows_from, rows_after}
use Rattle.capacity.proofs.Runs.{differ}
use Rattle.capacity.proofs.Written.{rows_eight, joined_length}

-- ---- words put in front of what is left of a slice

abbrev put : List ℤ → ℕ → List ℤ → List ℤ
put rows n m = cond (leb n (length m)) (rows ++ drop n m) m

module _ (rows : List ℤ) (n : ℕ) (h : length rows ≡ n) where
  put_fits : (m : List ℤ) → n ≤ length m → put rows n m ≡ rows ++ drop n m
  put_fits m l = rw (le-leb n (length m) l)

  put_length : (m : List ℤ) → length (put rows n m) ≡ length m
  put_length m = by_test (leb n (length m)) refl
    where
      by_test : (b : Bool) → leb n (length m) ≡ b → length (put rows n m) ≡ length m
      by_test true e = rw e (length-append rows (drop n m) ∙ omega (arith, length-drop n m, leb-true n (length m) e))
      by_test false e = rw e

  put_twice : (m : List ℤ) → put rows n (put rows n m) ≡ put rows n m
  put_twice m = by_test (leb n (length m)) refl
    where
      by_test : (b : Bool) → leb n (length m) ≡ b → put rows n (put rows n m) ≡ put rows n m
      by_test true e =
          let l = leb-true n (length m) e in
          put_fits (put rows n m) (omega (arith, put_length m)) ∙ ap (λ (x : List ℤ). rows ++ drop n x) (put_fits m l) ∙ ap (λ (x : List ℤ). rows ++ x) (drop_at rows (drop n m) n h) ∙ sym (put_fits m l)
      by_test false e = rw (e, e)

  put_longer : (m more : List ℤ) → n ≤ length m → put rows n (m ++ more) ≡ put rows n m ++ more
  put_longer m more l =
      put_fits (m ++ more) (omega (arith, length-append m more)) ∙ ap (λ (x : List ℤ). rows ++ x) (drop-append-le n m more l) ∙ sym (append_assoc rows (drop n m) more)
      ∙ ap (λ (x : List ℤ). x ++ more) (sym (put_fits m l))

-- ---- the same of a job's placed commands

size_of_lem : (ps : List Placed) → length (joined (all_rows ps)) ≡ 8 * length (all_rows ps)
size_of_lem ps = joined_length (all_rows ps) (rows_eight ps)

twice_from : (j : Job) (m : List ℤ) → rows_from j (rows_from j m) ≡ rows_from j m
twice_from (refused number offset) m = refl
twice_from (accepted ps) m = put_twice (joined (all_rows ps)) (8 * length (all_rows ps)) (size_of_lem ps) m

pub length_from : (j : Job) (m : List ℤ) → length (rows_from j m) ≡ length m
length_from (refused number offset) m = refl
length_from (accepted ps) m = put_length (joined (all_rows ps)) (8 * length (all_rows ps)) (size_of_lem ps) m

-- where run accepts, the rows fit
pub fits_from : (ps : List Placed) (words : ℕ) → (run_from (accepted ps) words).accepted ≡ true → 8 * length (all_rows ps) ≤ words
fits_from ps words a = by_test (leb (8 * length (all_rows ps)) words) refl
  where
    by_test : (b : Bool) → leb (8 * length (all_rows ps)) words ≡ b → 8 * length (all_rows ps) ≤ words
    by_test true e = leb-true (8 * length (all_rows ps)) words e
    by_test false e = absurd (differ (sym (rw e at a)))

longer_from : (j : Job) (m more : List ℤ) → (run_from j (length m)).accepted ≡ true → rows_from j (m ++ more) ≡ rows_from j m ++ more
longer_from (refused number offset) m more a = refl
longer_from (accepted ps) m more a = put_longer (joined (all_rows ps)) (8 * length (all_rows ps)) (size_of_lem ps) m more (fits_from ps (length m) a)

answer_from : (j : Job) (words more : ℕ) → (run_from j words).accepted ≡ true → run_from j (words + more) ≡ run_from j words
answer_from (refused number offset) words more a = refl
answer_from (accepted ps) words more a =
    let l = fits_from ps words a in
    rw (le-leb (8 * length (all_rows ps)) words l, le-leb (8 * length (all_rows ps)) (words + more) (omega arith))

refused_from : (j : Job) (m : List ℤ) → (run_from j (length m)).accepted ≡ false → rows_from j m ≡ m
refused_from (refused number offset) m a = refl
refused_from (accepted ps) m a = by_test (leb (8 * length (all_rows ps)) (length m)) refl
  where
    by_test : (b : Bool) → leb (8 * length (all_rows ps)) (length m) ≡ b → rows_from (accepted ps) m ≡ m
    by_test true e = absurd (differ (rw e at a))
    by_test false e = rw e

-- the first words of the slice, eight for each row that run answers, are the same in any two slices that have room
abbrev First : Job → ℕ → List ℤ → List ℤ
First j words m = take (8 * (run_from j words).rows) (rows_from j m)

fits_first : (j : Job) (ps : List Placed) (m : List ℤ) → j ≡ accepted ps → 8 * length (all_rows ps) ≤ length m → First j (length m) m ≡ joined (all_rows ps)
fits_first j ps m e l =
    rw (e, le-leb (8 * length (all_rows ps)) (length m) l) (take_at (joined (all_rows ps)) (drop (8 * length (all_rows ps)) m) (8 * length (all_rows ps)) (size_of_lem ps))

first_from_lem : (j : Job) (m k : List ℤ) → (run_from j (length m)).accepted ≡ true → (run_from j (length k)).accepted ≡ true → First j (length m) m ≡ First j (length k) k
first_from_lem (refused number offset) m k a b = absurd (differ (sym a))
first_from_lem (accepted ps) m k a b = fits_first (accepted ps) ps m refl (fits_from ps (length m) a) ∙ sym (fits_first (accepted ps) ps k refl (fits_from ps (length k) b))

later_from : (j : Job) (m : List ℤ) → (run_from j (length m)).accepted ≡ true → drop (8 * (run_from j (length m)).rows) (rows_from j m) ≡ drop (8 * (run_from j (length m)).rows) m
later_from (refused number offset) m a = absurd (differ (sym a))
later_from (accepted ps) m a =
    let l = fits_from ps (length m) a in
    rw (le-leb (8 * length (all_rows ps)) (length m) l) (drop_at (joined (all_rows ps)) (drop (8 * length (all_rows ps)) m) (8 * length (all_rows ps)) (size_of_lem ps))

-- ---- the theorems

-- the slice keeps its length, so a second run gives the same answer, and the same words
pub same_answer : (job : List ℕ) (m : List ℤ) → run_of job (length (rows_after job m)) ≡ run_of job (length m)
unfolding rows_after
same_answer job m = ap (run_of job) (length_from (placed job) m)

pub same_words : (job : List ℕ) (m : List ℤ) → rows_after job (rows_after job m) ≡ rows_after job m
unfolding rows_after
same_words job m = twice_from (placed job) m

-- in every refusal, 9 too, every word is as lent
pub refused_words : (job : List ℕ) (m : List ℤ) → (run_of job (length m)).accepted ≡ false → rows_after job m ≡ m
unfolding run_of rows_after
refused_words job m a = refused_from (placed job) m a

module _ (job : List ℕ) (m : List ℤ) (a : (run_of job (length m)).accepted ≡ true) where
  -- more words behind a slice with room: the same answer, the same words in front, and those as lent
  pub longer_answer : (more : List ℤ) → run_of job (length (m ++ more)) ≡ run_of job (length m)
  unfolding run_of
  longer_answer more = ap (run_from (placed job)) (length-append m more) ∙ answer_from (placed job) (length m) (length more) a

  pub longer_words : (more : List ℤ) → rows_after job (m ++ more) ≡ rows_after job m ++ more
  unfolding run_of rows_after
  longer_words more = longer_from (placed job) m more a

  -- every word after the rows is as lent
  pub later_words : drop (8 * (run_of job (length m)).rows) (rows_after job m) ≡ drop (8 * (run_of job (length m)).rows) m
  unfolding run_of rows_after
  later_words = later_from (placed job) m a

  -- any two slices with room hold the same rows
  pub same_rows : (k : List ℤ) → (run_of job (length k)).accepted ≡ true →
      take (8 * (run_of job (length m)).rows) (rows_after job m) ≡ take (8 * (run_of job (length k)).rows) (rows_after job k)
  unfolding run_of rows_after
  same_rows k b = first_from_lem (placed job) m k a b
