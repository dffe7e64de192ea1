-- A row read off the words that `run` writes: row n of all, and that of a command behind the rows of those before it. Assumes nothing.
use mathlib.Core.Path.{◌≡◌, sym, ap, ap₂, ◌∙◌}
use mathlib.Core.List.{List, [], ◌∷◌, ◌++◌, append_assoc}
use Prim.Native.Nat.{ℕ, zero, suc, ◌+◌, ◌*◌, ◌≤◌, ◌<◌}
use native.Mathlib.Nat.{add-zero, not-suc-le-zero}
use native.Mathlib.Omega.{arith}
use borrow.Author.Tests.{le-leb}
use lib.IntN.{ℤ}
use lib.ListN.{length, get_or, take, drop, length-append}
use lib.Seq.{take_at, drop-append-add}
use Rattle.claims.specs.declared.Row.{Row}
use Rattle.rows.specs.Rows.{words}
use Rattle.rows.specs.Writing.{joined}
use Rattle.rows.proofs.Memory.{Eights}
use Rattle.rows.proofs.Laws.{eights_both}
use Rattle.job.specs.Placed.{Placed, Job, accepted, placed, rows_at, all_rows}
use Rattle.job.proofs.AlreadyMet.{rows_of_both}
use Rattle.capacity.specs.Calls.{rows_from, rows_after}
use Rattle.capacity.specs.DemandThree.{row_read}
use Rattle.capacity.specs.Buildings.{words_read}
use Rattle.capacity.proofs.Written.{rows_eight, joined_length, joined_append}
use Rattle.capacity.proofs.Whole.{read_back}

-- ---- row n of all

pub row_at : (rows : List (List ℤ)) → Eights rows → (tail : List ℤ) (i : ℕ) → i < length rows → words_read (joined rows ++ tail) i ≡ get_or rows i []
row_at [] e tail i l = absurd (not-suc-le-zero l)
row_at (r ∷ rs) (e, es) tail zero l =
    ap (take 8) (append_assoc r (joined rs) tail) ∙ take_at r (joined rs ++ tail) 8 e
row_at (r ∷ rs) (e, es) tail (suc i) l =
    let k : 8 * suc i ≡ length r + 8 * i = omega (arith, e) in
    ap₂ (λ (n : ℕ) (ws : List ℤ). take 8 (drop n ws)) k (append_assoc r (joined rs) tail)
    ∙ ap (take 8) (drop-append-add r (joined rs ++ tail) (8 * i))
    ∙ row_at rs es tail i (omega arith)

pub row_written : (job : List ℕ) (ps : List Placed) → placed job ≡ accepted ps → (lent : List ℤ) → 8 * length (all_rows ps) ≤ length lent → (i : ℕ) → i < length (all_rows ps) →
    words_read (rows_after job lent) i ≡ get_or (all_rows ps) i []
unfolding rows_after
row_written job ps e lent room i l =
    ap (λ (j : Job). words_read (rows_from j lent) i) e
    ∙ rw (le-leb (8 * length (all_rows ps)) (length lent) room) (row_at (all_rows ps) (rows_eight ps) (drop (8 * length (all_rows ps)) lent) i l)

-- ---- a row of a command

-- a command of an accepted job, and a slice with room
module _ (job : List ℕ) (ps : List Placed) (e : placed job ≡ accepted ps) (earlier : List Placed) (p : Placed) (later : List Placed) (q : ps ≡ earlier ++ p ∷ later) (m : List ℤ) (l : 8 * length (all_rows ps) ≤ length m) where
  -- one of its rows stands behind those of the commands before it and the command's own rows before it
  pub row_among : (byte : ℕ) (r : Row) (first rest : List (List ℤ)) → Eights first → rows_at p ≡ first ++ words p.offset byte r ∷ rest →
      row_read (rows_after job m) (length (all_rows earlier) + length first) ≡ r
  unfolding rows_after all_rows
  row_among byte r first rest eight s =
      let own = words p.offset byte r in
      let rows_before = all_rows earlier ++ first in
      let rows_behind = rest ++ all_rows later in
      let front = joined rows_before in
      let tail = drop (8 * length (all_rows ps)) m in
      let all : all_rows ps ≡ rows_before ++ (own ∷ rows_behind) =
      ap all_rows q ∙ rows_of_both earlier (p ∷ later) ∙ ap (λ (x : List (List ℤ)). all_rows earlier ++ (x ++ all_rows later)) s
      ∙ ap (λ (x : List (List ℤ)). all_rows earlier ++ x) (append_assoc first (own ∷ rest) (all_rows later)) ∙ sym (append_assoc (all_rows earlier) first (own ∷ rows_behind)) in
      let split : joined (all_rows ps) ++ tail ≡ front ++ (own ++ (joined rows_behind ++ tail)) =
      ap (λ (x : List (List ℤ)). joined x ++ tail) all ∙ ap (λ (x : List ℤ). x ++ tail) (joined_append rows_before (own ∷ rows_behind))
      ∙ append_assoc front (own ++ joined rows_behind) tail ∙ ap (λ (x : List ℤ). front ++ x) (append_assoc own (joined rows_behind) tail) in
      let n = length (all_rows earlier) + length first in
      let size : length front ≡ 8 * n =
      joined_length rows_before (eights_both (all_rows earlier) first (rows_eight earlier) eight) ∙ ap (λ (k : ℕ). 8 * k) (length-append (all_rows earlier) first) in
      ap (λ (j : Job). row_read (rows_from j m) n) e ∙ rw (le-leb (8 * length (all_rows ps)) (length m) l) (ap (λ (x : List ℤ). row_read x n) split)
      ∙ read_back front (joined rows_behind ++ tail) n p.offset byte r size

  -- the first of its rows
  pub first_row : (byte : ℕ) (r : Row) (rest : List (List ℤ)) → rows_at p ≡ words p.offset byte r ∷ rest → row_read (rows_after job m) (length (all_rows earlier)) ≡ r
  first_row byte r rest s = ap (row_read (rows_after job m)) (sym (add-zero (length (all_rows earlier)))) ∙ row_among byte r [] rest tt s
