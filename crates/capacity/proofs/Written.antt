-- The walk from the start writes the rows of an accepted job where they fit. Assumes nothing.
use mathlib.Core.Path.{◌≡◌, refl, sym, ap, ◌∙◌, subst}
use mathlib.Core.List.{List, [], ◌∷◌, ◌++◌, append_assoc}
use Prim.Native.Nat.{ℕ, ◌*◌, ◌≤◌}
use native.Mathlib.Omega.{arith}
use native.Mathlib.Nat.{zero-add}
use lib.IntN.{ℤ}
use lib.ListN.{length, drop, length-append}
use Rattle.format.specs.Commands.{byte_of}
use Rattle.layout.proofs.Numbers.{Bytes}
use Rattle.context.specs.Running.{room_for, no_joints}
use Rattle.rows.specs.Rows.{rows_of}
use Rattle.rows.specs.Writing.{joined}
use Rattle.rows.proofs.Memory.{Eights, stored_all_fits}
use Rattle.rows.proofs.Laws.{words_eight, eights_both}
use Rattle.job.specs.Placed.{Placed, Entry, placed_all, Listing, accepted, listed, placed, rows_at, all_rows}
use Rattle.job.specs.Walking.{Final, first_place, walk_from}
use Rattle.job.proofs.PlacedCases.{listed_of}
use Rattle.job.proofs.Simulation.{Matches}
use Rattle.job.proofs.Begin.{begin_matches}

-- every row has eight words
pub rows_eight : (ps : List Placed) → Eights (all_rows ps)
unfolding all_rows
rows_eight [] = tt
rows_eight (p ∷ ps) = eights_both (rows_at p) (all_rows ps) (words_eight p.offset (byte_of p.command) (rows_of p.context p.command)) (rows_eight ps)

-- so the words of all rows are eight times as many
pub joined_length : (rows : List (List ℤ)) → Eights rows → length (joined rows) ≡ 8 * length rows
joined_length [] e = refl
joined_length (r ∷ rs) e = length-append r (joined rs) ∙ omega (arith, e.0, joined_length rs e.1)

pub joined_append : (xs ys : List (List ℤ)) → joined (xs ++ ys) ≡ joined xs ++ joined ys
joined_append [] ys = refl
joined_append (x ∷ xs) ys = ap (λ (l : List ℤ). x ++ l) (joined_append xs ys) ∙ sym (append_assoc x (joined xs) (joined ys))

memory_of : (job : List ℕ) (j : Listing) (es : List Entry) (f : Final) (m : List ℤ) → j ≡ accepted es → Matches job j f 0 m → 8 * length (all_rows (placed_all es)) ≤ length m →
    f.memory ≡ joined (all_rows (placed_all es)) ++ drop (8 * length (all_rows (placed_all es))) m
memory_of job j es f m e k h =
    let a = subst (λ (x : Listing). Matches job x f 0 m) e k in
    a.1 ∙ stored_all_fits m 0 (all_rows (placed_all es)) (rows_eight (placed_all es)) (omega arith) ∙ rw (zero-add (length (all_rows (placed_all es))))

pub walk_writes : (job : List ℕ) (m : List ℤ) → Bytes job → (ps : List Placed) → placed job ≡ accepted ps → 8 * length (all_rows ps) ≤ length m →
    (walk_from (room_for (length m)) 4097 job first_place no_joints m).memory ≡ joined (all_rows ps) ++ drop (8 * length (all_rows ps)) m
walk_writes job m b ps e h =
    let room = room_for (length m) in
    let (es, l, q) = listed_of job ps e in
    let f = walk_from room 4097 job first_place no_joints m in
    subst (λ (xs : List Placed). f.memory ≡ joined (all_rows xs) ++ drop (8 * length (all_rows xs)) m) q
    (memory_of job (listed job) es f m l (begin_matches room job m b refl) (rw q h))
