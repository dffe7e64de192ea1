-- Commands already met do not depend on the bytes that follow them: of two accepted jobs alike up to an offset, the commands of the file
-- that end at or before it are the same, with what holds at them and their rows; and they are the first of their job. 02, No. 1:
-- "members already met keep the figures they had". Assumes nothing.
use mathlib.Core.Path.{◌≡◌, refl, sym, ap, ◌∙◌, subst}
use mathlib.Core.List.{List, [], ◌∷◌, ◌++◌, append_assoc}
use Prim.Native.Nat.{ℕ, zero, suc, ◌≤◌, ◌<◌}
use native.Mathlib.Omega.{arith}
use native.Mathlib.Decide.{dec_le}
use lib.IntN.{ℤ}
use lib.ListN.{length}
use borrow.Author.Tests.{le-leb, lt-leb}
use Rattle.layout.specs.Operands.{byte_at}
use Rattle.blocks.specs.FileCommands.{file_command_at, width_at}
use Rattle.blocks.proofs.FileCommands.{width_some}
use Rattle.context.specs.Context.{Context, nothing}
use Rattle.job.specs.declared.Counts.{Counts}
use Rattle.job.specs.Counts.{first_counts}
use Rattle.job.specs.Faults.{tests_at, after_command}
use Rattle.job.specs.Placed.{Placed, Entry, entry_at, placed_all, placed_in, Listing, refused, accepted, before, listed_by, listed, rows_at, all_rows}
use Rattle.job.specs.Earlier.{end_of, ending_by}
use Rattle.job.proofs.Faultless.{end_of_lem}
use Rattle.job.proofs.PlacedCases.{fault_at, counts_behind, context_behind, rest_after, by_cases}
use Rattle.job.proofs.Front.{byte_in_front, width_in_front, given_in_front, not_held}

module _ (limit : ℕ) where
  met : (p : Entry) (ps : List Entry) → end_of p ≤ limit → ending_by limit (p ∷ ps) ≡ p ∷ ending_by limit ps
  met p ps l = rw (le-leb (end_of p) limit l)

  unmet : (p : Entry) (ps : List Entry) → limit < end_of p → ending_by limit (p ∷ ps) ≡ ending_by limit ps
  unmet p ps l = rw (lt-leb (end_of p) limit l)

  -- ---- from a command on that ends beyond the limit, none ends by it

  abbrev Beyond : Listing → Type 0
  Beyond (refused number offset) = Unit {0}
  Beyond (accepted ps) = ending_by limit ps ≡ []

  beyond_more : (p : Entry) (j : Listing) → limit < end_of p → Beyond j → Beyond (before p j)
  beyond_more p (refused number offset) l b = tt
  beyond_more p (accepted ps) l b = unmet p ps l ∙ b

  beyond : (n : ℕ) (job : List ℕ) (at : ℕ) (counts : Counts) (h : Context) → limit < after_command job at → Beyond (listed_by tests_at n job at counts h)
  unfolding listed_by
  beyond zero job at counts h l = tt
  beyond (suc n) job at counts h l =
      by_cases tests_at n job at counts h Beyond (λ w. tt) (λ w k f. tt) (λ w f b m. tt) (λ w f b m. refl)
      (λ w f b.
      beyond_more (entry_at job at h) (rest_after tests_at n job at counts h) (omega (arith, end_of_lem job at counts h f))
      (beyond n job (after_command job at) (counts_behind job at counts) (context_behind job at h) (omega (arith, width_some job (after_command job at)))))

  -- ---- the commands that end by the limit are the first

  abbrev First : Listing → Type 0
  First (refused number offset) = Unit {0}
  First (accepted ps) = (later : List Entry) × (ps ≡ ending_by limit ps ++ later)

  first_more : (p : Entry) (j : Listing) → Dec (end_of p ≤ limit) → (limit < end_of p → Beyond j) → First j → First (before p j)
  first_more p (refused number offset) d b f = tt
  first_more p (accepted ps) (yes l) b f = (f.0, ap (λ (xs : List Entry). p ∷ xs) f.1 ∙ ap (λ (xs : List Entry). xs ++ f.0) (sym (met p ps l)))
  first_more p (accepted ps) (no l) b f =
      let g : limit < end_of p = omega arith in
      (p ∷ ps, ap (λ (xs : List Entry). xs ++ p ∷ ps) (sym (unmet p ps g ∙ b g)))

  first : (n : ℕ) (job : List ℕ) (at : ℕ) (counts : Counts) (h : Context) → First (listed_by tests_at n job at counts h)
  unfolding listed_by
  first zero job at counts h = tt
  first (suc n) job at counts h =
      by_cases tests_at n job at counts h First (λ w. tt) (λ w k f. tt) (λ w f b m. tt) (λ w f b m. ([], refl))
      (λ w f b.
      let after = after_command job at in
      first_more (entry_at job at h) (rest_after tests_at n job at counts h) (dec_le (end_of (entry_at job at h)) limit)
      (λ l. beyond n job after (counts_behind job at counts) (context_behind job at h) (omega (arith, end_of_lem job at counts h f, width_some job after)))
      (first n job after (counts_behind job at counts) (context_behind job at h)))

-- ---- two jobs alike in front

module _ (front a b : List ℕ) where
  abbrev Alike : Listing → Listing → Type 0
  Alike (refused number offset) k = Unit {0}
  Alike (accepted ps) (refused number offset) = Unit {0}
  Alike (accepted ps) (accepted qs) = ending_by (length front) ps ≡ ending_by (length front) qs

  one_refused : (j : Listing) (number offset : ℕ) → Alike j (refused number offset)
  one_refused (refused m o) number offset = tt
  one_refused (accepted ps) number offset = tt

  both_beyond : (j k : Listing) → Beyond (length front) j → Beyond (length front) k → Alike j k
  both_beyond (refused m o) k x y = tt
  both_beyond (accepted ps) (refused m o) x y = tt
  both_beyond (accepted ps) (accepted qs) x y = x ∙ sym y

  alike_more : (p : Entry) (j k : Listing) → end_of p ≤ length front → Alike j k → Alike (before p j) (before p k)
  alike_more p (refused m o) k l x = tt
  alike_more p (accepted ps) (refused m o) l x = tt
  alike_more p (accepted ps) (accepted qs) l x = met (length front) p ps l ∙ ap (λ (xs : List Entry). p ∷ xs) x ∙ sym (met (length front) p qs l)

  module _ (n at : ℕ) (counts : Counts) (h : Context) where
    -- what follows the first job's command, and in the other job what follows from the same offset on
    abbrev rest : Listing
    rest = rest_after tests_at n (front ++ a) at counts h

    abbrev other_rest : Listing
    other_rest = listed_by tests_at n (front ++ b) (after_command (front ++ a) at) (counts_behind (front ++ a) at counts) (context_behind (front ++ a) at h)

  module _ (n at : ℕ) (counts : Counts) (h : Context) (v : after_command front at ≤ length front) (ih : Alike (rest n at counts h) (other_rest n at counts h)) where
    same_byte : byte_at (front ++ b) at ≡ byte_at (front ++ a) at
    same_byte = byte_in_front front at v b ∙ sym (byte_in_front front at v a)

    same_width : width_at (front ++ b) at ≡ width_at (front ++ a) at
    same_width = width_in_front front at v b ∙ sym (width_in_front front at v a)

    same_given : file_command_at (front ++ b) at ≡ file_command_at (front ++ a) at
    same_given = given_in_front front at v b ∙ sym (given_in_front front at v a)

    held : fault_at (front ++ a) at counts h ≡ 0 → end_of (entry_at (front ++ a) at h) ≤ length front
    held f = omega (arith, end_of_lem (front ++ a) at counts h f, width_in_front front at v a)

    -- both go on with the same command
    both : fault_at (front ++ a) at counts h ≡ 0 → Alike (before (entry_at (front ++ a) at h) (rest_after tests_at n (front ++ a) at counts h)) (before (entry_at (front ++ b) at h) (rest_after tests_at n (front ++ b) at counts h))
    both f = rw (same_width, same_given) (alike_more (entry_at (front ++ a) at h) (rest n at counts h) (other_rest n at counts h) (held f) ih)

    ends_only : (byte_at (front ++ a) at ≡ 0) → Alike (accepted []) (listed_by tests_at (suc n) (front ++ b) at counts h)
    ends_only z =
        by_cases tests_at n (front ++ b) at counts h (Alike (accepted [])) (λ w. tt) (λ w k g. tt) (λ w g y m. tt) (λ w g y m. refl) (λ w g y. absurd (y (same_byte ∙ z)))

    goes_on : fault_at (front ++ a) at counts h ≡ 0 → (byte_at (front ++ a) at ≡ 0 → ⊥) →
        Alike (before (entry_at (front ++ a) at h) (rest_after tests_at n (front ++ a) at counts h)) (listed_by tests_at (suc n) (front ++ b) at counts h)
    goes_on f z =
        let here = before (entry_at (front ++ a) at h) (rest_after tests_at n (front ++ a) at counts h) in
        by_cases tests_at n (front ++ b) at counts h (Alike here) (λ w. one_refused here _ _) (λ w k g. one_refused here _ _) (λ w g y m. one_refused here _ _)
        (λ w g y m. absurd (z (sym same_byte ∙ y))) (λ w g y. both f)

  alike : (n at : ℕ) (counts : Counts) (h : Context) → Alike (listed_by tests_at n (front ++ a) at counts h) (listed_by tests_at n (front ++ b) at counts h)
  unfolding listed_by
  alike zero at counts h = tt
  alike (suc n) at counts h = by (dec_le (after_command front at) (length front)) (alike n (after_command (front ++ a) at) (counts_behind (front ++ a) at counts) (context_behind (front ++ a) at h))
    where
      T : Type 0
      T = Alike (listed_by tests_at (suc n) (front ++ a) at counts h) (listed_by tests_at (suc n) (front ++ b) at counts h)

      by : Dec (after_command front at ≤ length front) → Alike (rest n at counts h) (other_rest n at counts h) → T
      by (no l) ih =
          both_beyond (listed_by tests_at (suc n) (front ++ a) at counts h) (listed_by tests_at (suc n) (front ++ b) at counts h)
          (beyond (length front) (suc n) (front ++ a) at counts h (not_held front a at (omega arith))) (beyond (length front) (suc n) (front ++ b) at counts h (not_held front b at (omega arith)))
      by (yes v) ih =
          by_cases tests_at n (front ++ a) at counts h (λ j. Alike j (listed_by tests_at (suc n) (front ++ b) at counts h)) (λ w. tt) (λ w k f. tt) (λ w f z m. tt)
          (λ w f z m. ends_only n at counts h v ih z) (λ w f z. goes_on n at counts h v ih f z)

-- ---- the theorems

pub rows_of_both : (ps qs : List Placed) → all_rows (ps ++ qs) ≡ all_rows ps ++ all_rows qs
unfolding all_rows
rows_of_both [] qs = refl
rows_of_both (p ∷ ps) qs = ap (λ (xs : List (List ℤ)). rows_at p ++ xs) (rows_of_both ps qs) ∙ sym (append_assoc (rows_at p) (all_rows ps) (all_rows qs))

pub placed_both : (es fs : List Entry) → placed_all (es ++ fs) ≡ placed_all es ++ placed_all fs
placed_both [] fs = refl
placed_both (e ∷ es) fs = ap (λ (xs : List Placed). placed_in e ++ xs) (placed_both es fs) ∙ sym (append_assoc (placed_in e) (placed_all es) (placed_all fs))

-- the rows of the commands that end by an offset come first
pub met_rows_first : (job : List ℕ) (es : List Entry) → listed job ≡ accepted es → (limit : ℕ) → (later : List Placed) × (all_rows (placed_all es) ≡ all_rows (placed_all (ending_by limit es)) ++ all_rows later)
unfolding listed
met_rows_first job es e limit =
    let f : First limit (accepted es) = subst (First limit) e (first limit 4097 job 0 first_counts nothing) in
    (placed_all f.0, ap (λ (xs : List Entry). all_rows (placed_all xs)) f.1 ∙ ap all_rows (placed_both (ending_by limit es) f.0) ∙ rows_of_both (placed_all (ending_by limit es)) (placed_all f.0))

module _ (front a b : List ℕ) (es fs : List Entry) (e : listed (front ++ a) ≡ accepted es) (g : listed (front ++ b) ≡ accepted fs) where
  -- the commands of the file that end in the front are the same, each with its offset and what holds at it
  pub same_met : ending_by (length front) es ≡ ending_by (length front) fs
  unfolding listed
  same_met = subst (Alike front a b (accepted es)) g (subst (λ (j : Listing). Alike front a b j (listed (front ++ b))) e (alike front a b 4097 0 first_counts nothing))

  -- and so are their rows
  pub same_met_rows : all_rows (placed_all (ending_by (length front) es)) ≡ all_rows (placed_all (ending_by (length front) fs))
  same_met_rows = ap (λ (xs : List Entry). all_rows (placed_all xs)) same_met
