-- Demand 3 of the words that hold a job's rows: row n is read back as it was made, so every claim holds of it. Assumes nothing.
use mathlib.Core.Path.{◌≡◌, refl, sym, ap, ◌∙◌, subst}
use mathlib.Core.List.{List, [], ◌∷◌, ◌++◌, map, append_assoc}
use Prim.Native.Nat.{ℕ, suc, ◌+◌, ◌*◌}
use native.Mathlib.Omega.{arith}
use lib.IntN.{ℤ, pos}
use lib.ListN.{length, length-append, length-map}
use lib.Seq.{get_or-append-add}
use Rattle.claims.specs.declared.Row.{Row}
use Rattle.format.specs.Commands.{byte_of}
use Rattle.layout.proofs.Numbers.{Bytes}
use Rattle.rows.specs.Rows.{rows_of, words}
use Rattle.rows.specs.Writing.{joined}
use Rattle.rows.proofs.Laws.{words_eight}
use Rattle.job.specs.Placed.{Placed, Job, accepted, placed, rows_at, all_rows}
use Rattle.capacity.specs.DemandThree.{Claim, claims_of, row_read, RowsHold, AllHold, JobHolds, DemandThree}
use Rattle.capacity.proofs.Ranges.{AllGood, GoodJob, all_good}
use Rattle.capacity.proofs.RowsTrue.{Pairwise, rows_true}
use Rattle.capacity.proofs.Written.{joined_length, joined_append}

-- row n behind 8·n words is read back
pub read_back : (before after : List ℤ) (n offset byte : ℕ) (r : Row) → length before ≡ 8 * n → row_read (before ++ (words offset byte r ++ after)) n ≡ r
read_back before after n offset byte r e =
    rw (
      ← e,
      get_or-append-add before (words offset byte r ++ after) 2 (pos 0),
      get_or-append-add before (words offset byte r ++ after) 3 (pos 0),
      get_or-append-add before (words offset byte r ++ after) 4 (pos 0),
      get_or-append-add before (words offset byte r ++ after) 5 (pos 0),
      get_or-append-add before (words offset byte r ++ after) 6 (pos 0),
      get_or-append-add before (words offset byte r ++ after) 7 (pos 0),
    )

-- the rows of one command
rows_hold : (claims : List Claim) (rows : List Row) (before after : List ℤ) (n offset byte : ℕ) → length before ≡ 8 * n → Pairwise claims rows →
    RowsHold (before ++ (joined (map (words offset byte) rows) ++ after)) n claims
unfolding RowsHold
rows_hold [] [] before after n offset byte e p = tt
rows_hold [] (r ∷ rs) before after n offset byte e p = absurd p
rows_hold (c ∷ cs) [] before after n offset byte e p = absurd p
rows_hold (c ∷ cs) (r ∷ rs) before after n offset byte e p =
    let w = words offset byte r in
    let rest = joined (map (words offset byte) rs) in (
      subst (λ (m : List ℤ). c (row_read m n)) (ap (λ (l : List ℤ). before ++ l) (sym (append_assoc w rest after)))
          (subst c (sym (read_back before (rest ++ after) n offset byte r e)) p.0),
      subst (λ (m : List ℤ). RowsHold m (n + 1) cs) (append_assoc before w (rest ++ after) ∙ ap (λ (l : List ℤ). before ++ l) (sym (append_assoc w rest after)))
          (rows_hold cs rs (before ++ w) after (n + 1) offset byte (length-append before w ∙ omega (arith, e)) p.1),
    )

-- as many claims as rows
claims_length : (claims : List Claim) (rows : List Row) → Pairwise claims rows → length claims ≡ length rows
claims_length [] [] p = refl
claims_length [] (r ∷ rs) p = absurd p
claims_length (c ∷ cs) [] p = absurd p
claims_length (c ∷ cs) (r ∷ rs) p = ap suc (claims_length cs rs p.1)

own_length : (offset byte : ℕ) (rows : List Row) → length (joined (map (words offset byte) rows)) ≡ 8 * length rows
own_length offset byte rows = joined_length (map (words offset byte) rows) (words_eight offset byte rows) ∙ ap (λ (n : ℕ). 8 * n) (length-map rows (words offset byte))

-- all rows of all placed commands
all_hold : (ps : List Placed) (before after : List ℤ) (n : ℕ) → length before ≡ 8 * n → AllGood ps → AllHold (before ++ (joined (all_rows ps) ++ after)) n ps
unfolding AllHold all_rows
all_hold [] before after n e g = tt
all_hold (p ∷ ps) before after n e g =
    let rows = rows_of p.context p.command in
    let t = rows_true p g.0 in
    let own = joined (rows_at p) in
    let rest = joined (all_rows ps) in
    let c : length (claims_of p) ≡ length (rows_at p) = claims_length (claims_of p) rows t ∙ sym (length-map rows (words p.offset (byte_of p.command))) in
    let split : joined (rows_at p ++ all_rows ps) ++ after ≡ own ++ (rest ++ after) = ap (λ (l : List ℤ). l ++ after) (joined_append (rows_at p) (all_rows ps)) ∙ append_assoc own rest after in (
      c,
      subst (λ (m : List ℤ). RowsHold (before ++ m) n (claims_of p)) (sym split)
          (rows_hold (claims_of p) rows before (rest ++ after) n p.offset (byte_of p.command) e t),
      subst (λ (m : List ℤ). AllHold m (n + length (rows_at p)) ps) (append_assoc before own (rest ++ after) ∙ ap (λ (l : List ℤ). before ++ l) (sym split))
          (all_hold ps (before ++ own) after (n + length (rows_at p))
          (length-append before own ∙ omega (arith, e, own_length p.offset (byte_of p.command) rows, length-map rows (words p.offset (byte_of p.command)))) g.1),
    )

job_holds : (j : Job) (after : List ℤ) → GoodJob j → (ps : List Placed) → j ≡ accepted ps → JobHolds (joined (all_rows ps) ++ after) j
job_holds j after g ps e = subst (JobHolds (joined (all_rows ps) ++ after)) (sym e) (all_hold ps [] after 0 refl (subst GoodJob e g))

-- demand 3 of the rows of an accepted job, whatever words follow them
pub demand_three : (job : List ℕ) → Bytes job → (ps : List Placed) → placed job ≡ accepted ps → (after : List ℤ) → DemandThree job (joined (all_rows ps) ++ after)
unfolding DemandThree
demand_three job b ps e after = job_holds (placed job) after (all_good job b) ps e
