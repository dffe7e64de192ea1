-- The runs of two accepted jobs whose rows are the same but for a part of them: every other row stands alike in the words of both runs, and
-- where no row of the part failed more, no total has grown. Assumes nothing.
use mathlib.Core.Path.{◌≡◌, sym, ap, ◌∙◌, subst}
use mathlib.Core.List.{List, [], ◌∷◌, ◌++◌}
use mathlib.Core.Logic.{◌⊎◌, inl, inr}
use Prim.Native.Nat.{ℕ, zero, suc, ◌+◌, ◌-◌, ◌*◌, ◌≤◌, ◌<◌, zero-le}
use native.Mathlib.Nat.{le_refl, not-suc-le-zero}
use native.Mathlib.Omega.{arith}
use lib.IntN.{ℤ, pos}
use lib.ListN.{length, length-append, get_or, get_or-append, drop}
use lib.Seq.{get_or-take, get_or-drop}
use Rattle.std.proofs.lemmas.List.{get_or-append-add}
use borrow.Author.Tests.{le-leb}
use Rattle.claims.proofs.Orders.{≤_or}
use Rattle.layout.proofs.Numbers.{Bytes}
use Rattle.totals.specs.Rows.{verdict_at, row_failed, checks_of, verdict_sum, rows_failed, checks_failed}
use Rattle.job.specs.Answers.{rows_answer, size_from, size_of}
use Rattle.job.specs.Placed.{Placed, Job, accepted, placed, all_rows}
use Rattle.capacity.specs.Calls.{totals_of, ran_answer, RunAnswer, run_from, run_of, rows_after}
use Rattle.capacity.specs.Buildings.{words_read}
use Rattle.capacity.proofs.Numbers.{run_numbers}
use Rattle.capacity.proofs.RowRead.{row_written}
use Rattle.strengthening.specs.Raised.{word_of, Totals}

-- ---- sums over the verdicts

-- word 7 of row i
verdict_read : (words : List ℤ) (i : ℕ) → verdict_at words i ≡ word_of (words_read words i) 7
unfolding verdict_at
verdict_read words i = sym (get_or-take 8 (drop (8 * i) words) 7 (pos 0) (omega arith) ∙ get_or-drop (8 * i) words 7 (pos 0))

sum_at_most : (count : ℤ → ℕ) (a b : List ℤ) (n : ℕ) → ((i : ℕ) → i < n → count (word_of (words_read a i) 7) ≤ count (word_of (words_read b i) 7)) → verdict_sum count a n ≤ verdict_sum count b n
unfolding verdict_sum
sum_at_most count a b zero h = zero-le
sum_at_most count a b (suc n) h =
    rw (verdict_read a n, verdict_read b n) (omega (arith, sum_at_most count a b n (λ i l. h i (omega arith)), h n (le_refl (suc n))))

-- ---- the rows, one part of them another

module _ (front own behind : List (List ℤ)) where
  abbrev pub rows_with : List (List ℤ)
  rows_with = front ++ (own ++ behind)

  own_at : (j : ℕ) → j < length own → get_or rows_with (length front + j) [] ≡ get_or own j []
  own_at j l = get_or-append-add front (own ++ behind) j [] ∙ get_or-append own behind [] j l

beside_at : (front own other behind : List (List ℤ)) → length own ≡ length other → (k : ℕ) → (k < length front) ⊎ (length front + length own ≤ k) → get_or (front ++ (other ++ behind)) k [] ≡ get_or (front ++ (own ++ behind)) k []
beside_at front own other behind e k (inl l) = get_or-append front (other ++ behind) [] k l ∙ sym (get_or-append front (own ++ behind) [] k l)
beside_at front own other behind e k (inr l) =
    let j = k - length front - length own in
    let one : k ≡ length front + (length own + j) = omega arith in
    let two : k ≡ length front + (length other + j) = omega (arith, e) in
    ap (λ (i : ℕ). get_or (front ++ (other ++ behind)) i []) two ∙ get_or-append-add front (other ++ behind) (length other + j) [] ∙ get_or-append-add other behind j []
    ∙ sym (ap (λ (i : ℕ). get_or (front ++ (own ++ behind)) i []) one ∙ get_or-append-add front (own ++ behind) (length own + j) [] ∙ get_or-append-add own behind j [])

-- k lies beside a part of so many rows where it is none of them
pub beside_part : (n many k : ℕ) → (n ≤ k → k < n + many → ⊥) → (k < n) ⊎ (n + many ≤ k)
beside_part n many k h = by (≤_or n k) (≤_or (n + many) k)
  where
    by : (n ≤ k) ⊎ (k < n) → (n + many ≤ k) ⊎ (k < n + many) → (k < n) ⊎ (n + many ≤ k)
    by (inr l) m = inl l
    by (inl l) (inl m) = inr m
    by (inl l) (inr m) = absurd (h l m)

-- ---- the two runs

-- both jobs are accepted, and their rows are the same but for a part of as many rows
pub record Part (first second : List ℕ) (front own other behind : List (List ℤ)) : Type 0 where
  pub bytes_first : Bytes first
  pub bytes_second : Bytes second
  pub commands : List Placed
  pub first_accepted : placed first ≡ accepted commands
  pub others : List Placed
  pub second_accepted : placed second ≡ accepted others
  pub first_rows : all_rows commands ≡ front ++ (own ++ behind)
  pub second_rows : all_rows others ≡ front ++ (other ++ behind)
  pub as_long : length own ≡ length other

-- both slices have room for so many rows
pub record Room (rows : ℕ) (lent other : List ℤ) : Type 0 where
  pub first : 8 * rows ≤ length lent
  pub second : 8 * rows ≤ length other

-- no row of the part failed more, and none failed more checks
pub record NoMore (x y : List ℤ) : Type 0 where
  pub failed : row_failed (word_of y 7) ≤ row_failed (word_of x 7)
  pub checks : checks_of (word_of y 7) ≤ checks_of (word_of x 7)

abbrev pub NoneMore : List (List ℤ) → List (List ℤ) → Type 0
NoneMore [] ys = Unit {0}
NoneMore (x ∷ xs) [] = ⊥
NoneMore (x ∷ xs) (y ∷ ys) = NoMore x y × NoneMore xs ys

none_more_at : (xs ys : List (List ℤ)) → NoneMore xs ys → (j : ℕ) → j < length xs → NoMore (get_or xs j []) (get_or ys j [])
none_more_at [] ys h j l = absurd (not-suc-le-zero l)
none_more_at (x ∷ xs) [] h j l = absurd h
none_more_at (x ∷ xs) (y ∷ ys) (n, h) zero l = n
none_more_at (x ∷ xs) (y ∷ ys) (n, h) (suc j) l = none_more_at xs ys h j (omega arith)

module _ {first second : List ℕ} {front own other behind : List (List ℤ)} (part : Part first second front own other behind) where
  abbrev pub rows : ℕ
  rows = length (all_rows part.commands)

  rows_long : rows ≡ length front + (length own + length behind)
  rows_long = ap length part.first_rows ∙ length-append front (own ++ behind) ∙ ap (λ (k : ℕ). length front + k) (length-append own behind)

  rows_same : length (all_rows part.others) ≡ rows
  rows_same = omega (arith, ap length part.second_rows, length-append front (other ++ behind), length-append other behind, part.as_long, rows_long)

  pub same_size : size_of second ≡ size_of first
  unfolding size_of
  same_size = ap size_from part.second_accepted ∙ ap rows_answer rows_same ∙ sym (ap size_from part.first_accepted)

  module _ {lent others : List ℤ} (room : Room rows lent others) where
    read_first : (k : ℕ) → k < rows → words_read (rows_after first lent) k ≡ get_or (front ++ (own ++ behind)) k []
    read_first k l = row_written first part.commands part.first_accepted lent room.first k l ∙ ap (λ (rs : List (List ℤ)). get_or rs k []) part.first_rows

    read_second : (k : ℕ) → k < rows → words_read (rows_after second others) k ≡ get_or (front ++ (other ++ behind)) k []
    read_second k l =
        row_written second part.others part.second_accepted others (omega (arith, rows_same, room.second)) k (omega (arith, rows_same)) ∙ ap (λ (rs : List (List ℤ)). get_or rs k []) part.second_rows

    -- a row of neither part
    pub beside : (k : ℕ) → k < rows → (k < length front) ⊎ (length front + length own ≤ k) → words_read (rows_after second others) k ≡ words_read (rows_after first lent) k
    beside k l s = read_second k l ∙ beside_at front own other behind part.as_long k s ∙ sym (read_first k l)

    -- a row of the part, in each
    pub own_first : (j : ℕ) → j < length own → words_read (rows_after first lent) (length front + j) ≡ get_or own j []
    own_first j l = read_first (length front + j) (omega (arith, rows_long)) ∙ own_at front own behind j l

    pub own_second : (j : ℕ) → j < length own → words_read (rows_after second others) (length front + j) ≡ get_or other j []
    own_second j l = read_second (length front + j) (omega (arith, rows_long)) ∙ own_at front other behind j (omega (arith, part.as_long))

    -- ---- the totals

    -- a count of the verdict of row k
    abbrev Kept : (ℤ → ℕ) → ℕ → Type 0
    Kept count k = count (word_of (words_read (rows_after second others) k) 7) ≤ count (word_of (words_read (rows_after first lent) k) 7)

    each : (count : ℤ → ℕ) → ((j : ℕ) → j < length own → count (word_of (get_or other j []) 7) ≤ count (word_of (get_or own j []) 7)) → (k : ℕ) → k < rows → Kept count k
    each count h k l = by (≤_or (length front) k) (≤_or (length front + length own) k)
      where
        same : (k < length front) ⊎ (length front + length own ≤ k) → Kept count k
        same s = rw (beside k l s) (le_refl (count (word_of (words_read (rows_after first lent) k) 7)))

        by : (length front ≤ k) ⊎ (k < length front) → (length front + length own ≤ k) ⊎ (k < length front + length own) → Kept count k
        by (inr m) n = same (inl m)
        by (inl m) (inl n) = same (inr n)
        by (inl m) (inr n) =
            let j = k - length front in
            let place : k ≡ length front + j = omega arith in
            let inside : j < length own = omega arith in
            subst (Kept count) (sym place) (rw (own_first j inside, own_second j inside) (h j inside))

    first_answer : run_of first (length lent) ≡ ran_answer (totals_of (all_rows part.commands))
    unfolding run_of
    first_answer = ap (λ (j : Job). run_from j (length lent)) part.first_accepted ∙ rw (le-leb (8 * rows) (length lent) room.first)

    second_answer : run_of second (length others) ≡ ran_answer (totals_of (all_rows part.others))
    unfolding run_of
    second_answer = ap (λ (j : Job). run_from j (length others)) part.second_accepted ∙ rw (le-leb (8 * length (all_rows part.others)) (length others) (omega (arith, rows_same, room.second)))

    pub totals_kept : NoneMore own other → Totals first second lent others
    unfolding rows_failed checks_failed
    totals_kept h =
        let n1 = run_numbers first part.bytes_first lent in
        let n2 = run_numbers second part.bytes_second others in
        let count_first : (run_of first (length lent)).rows ≡ rows = ap (λ (a : RunAnswer). a.rows) first_answer in
        let count_second : (run_of second (length others)).rows ≡ rows = ap (λ (a : RunAnswer). a.rows) second_answer ∙ rows_same in
        record {
          as_many = same_size;
          failed = rw (n1.failed_counted, n2.failed_counted, count_first, count_second)
              (sum_at_most row_failed (rows_after second others) (rows_after first lent) rows (each row_failed (λ j l. (none_more_at own other h j l).failed)));
          checks = rw (n1.checks_counted, n2.checks_counted, count_first, count_second)
              (sum_at_most checks_of (rows_after second others) (rows_after first lent) rows (each checks_of (λ j l. (none_more_at own other h j l).checks)));
        }
