-- Rows in a slice of words: one row put in its place, and what rows one after the other leave. Assumes nothing.
use mathlib.Core.Bool.{Bool, true, false, cond}
use mathlib.Core.List.{List, [], ◌∷◌, ◌++◌, append_assoc, append-nil}
use mathlib.Core.Path.{◌≡◌, refl, sym, ap, ◌∙◌}
use Prim.Native.Nat.{ℕ, suc, ◌+◌, ◌-◌, ◌*◌, ◌≤◌, ◌<◌}
use native.Mathlib.Omega.{arith}
use lib.Dec.{leb}
use lib.IntN.{ℤ}
use lib.ListN.{length, take, drop, length-append, length-drop, take-append-drop}
use borrow.Rule.Slice.PartMut.{put_mid}
use lib.Seq.{length-take-le, take_at, drop-append-add, drop-drop}
use borrow.Author.Tests.{le-leb, lt-leb, leb-true}
use Rattle.rows.specs.Writing.{stored, stored_all, joined}

-- ---- one row

pub stored_room : (m : List ℤ) (n : ℕ) (row : List ℤ) → 8 * n + 8 ≤ length m → stored m n row ≡ take (8 * n) m ++ row ++ drop (8 * n + 8) m
unfolding stored
stored_room m n row h = rw (le-leb (8 * n + 8) (length m) h)

-- as a part of the slice is written
pub stored_part : (m : List ℤ) (n : ℕ) (row : List ℤ) → 8 * n + 8 ≤ length m → put_mid (8 * n) (8 * n + 8 - 8 * n) m row ≡ stored m n row
stored_part m n row h =
    let e : 8 * n + (8 * n + 8 - 8 * n) ≡ 8 * n + 8 = omega arith in
    rw (stored_room m n row h, append_assoc)
    (ap (λ (x : List ℤ). take (8 * n) m ++ (row ++ x)) (drop-drop (8 * n + 8 - 8 * n) (8 * n) m ∙ ap (λ (i : ℕ). drop i m) e))

pub stored_full : (m : List ℤ) (n : ℕ) (row : List ℤ) → length m < 8 * n + 8 → stored m n row ≡ m
unfolding stored
stored_full m n row h = rw (lt-leb (8 * n + 8) (length m) h)

pub stored_keeps : (m : List ℤ) (n : ℕ) (row : List ℤ) → length row ≡ 8 → length (stored m n row) ≡ length m
unfolding stored
stored_keeps m n row e = by (leb (8 * n + 8) (length m)) refl
  where
    by : (t : Bool) → leb (8 * n + 8) (length m) ≡ t → length (cond t (take (8 * n) m ++ row ++ drop (8 * n + 8) m) m) ≡ length m
    by true l =
        let h = leb-true (8 * n + 8) (length m) l in
        simp (length-append, length-drop, e) (rw (length-take-le (8 * n) m (omega arith)) (omega arith))
    by false l = refl

-- ---- rows one after the other

-- rows of eight words each
abbrev pub Eights : List (List ℤ) → Type 0
Eights [] = Unit {0}
Eights (r ∷ rs) = (length r ≡ 8) × Eights rs

pub stored_all_keeps : (m : List ℤ) (n : ℕ) (rows : List (List ℤ)) → Eights rows → length (stored_all m n rows) ≡ length m
unfolding stored_all
stored_all_keeps m n [] e = refl
stored_all_keeps m n (r ∷ rs) e = stored_all_keeps (stored m n r) (n + 1) rs e.1 ∙ stored_keeps m n r e.0

pub stored_all_append : (m : List ℤ) (n : ℕ) (xs ys : List (List ℤ)) → stored_all m n (xs ++ ys) ≡ stored_all (stored_all m n xs) (n + length xs) ys
unfolding stored_all
stored_all_append m n [] ys = let e : n + 0 ≡ n = omega arith in rw e
stored_all_append m n (x ∷ xs) ys =
    let e : n + suc (length xs) ≡ n + 1 + length xs = omega arith in
    rw e (stored_all_append (stored m n x) (n + 1) xs ys)

pub stored_all_empty : (n : ℕ) (rows : List (List ℤ)) → stored_all [] n rows ≡ []
unfolding stored_all
stored_all_empty n [] = refl
stored_all_empty n (r ∷ rs) = rw (stored_full [] n r (omega arith)) (stored_all_empty (n + 1) rs)

-- the words of the rows up to n
rows_length : (m : List ℤ) (n : ℕ) (row : List ℤ) → length row ≡ 8 → 8 * n + 8 ≤ length m → length (take (8 * n) m ++ row) ≡ 8 * n + 8
rows_length m n row e h = length-append (take (8 * n) m) row ∙ rw (e, length-take-le (8 * n) m (omega arith))

-- the words before the next row
take_row : (m : List ℤ) (n : ℕ) (row : List ℤ) → length row ≡ 8 → 8 * n + 8 ≤ length m →
    take (8 * (n + 1)) (take (8 * n) m ++ row ++ drop (8 * n + 8) m) ≡ take (8 * n) m ++ row
take_row m n row e h =
    take_at (take (8 * n) m ++ row) (drop (8 * n + 8) m) (8 * (n + 1)) (omega (arith, rows_length m n row e h))

-- the words from a later row on
drop_row : (m : List ℤ) (n k : ℕ) (row : List ℤ) → length row ≡ 8 → 8 * n + 8 ≤ length m →
    drop (8 * (n + 1 + k)) (take (8 * n) m ++ row ++ drop (8 * n + 8) m) ≡ drop (8 * (n + 1 + k)) m
drop_row m n k row e h =
    let p = take (8 * n) m ++ row in
    let q = drop (8 * n + 8) m in
    let a : 8 * (n + 1 + k) ≡ length p + 8 * k = omega (arith, rows_length m n row e h) in
    let b : 8 * n + 8 + 8 * k ≡ 8 * (n + 1 + k) = omega arith in
    ap (λ (i : ℕ). drop i (p ++ q)) a ∙ drop-append-add p q (8 * k) ∙ drop-drop (8 * k) (8 * n + 8) m ∙ ap (λ (i : ℕ). drop i m) b

-- with room for all rows, they stand from row n on, and the words before and after are as they were
pub stored_all_fits : (m : List ℤ) (n : ℕ) (rows : List (List ℤ)) → Eights rows → 8 * (n + length rows) ≤ length m →
    stored_all m n rows ≡ take (8 * n) m ++ joined rows ++ drop (8 * (n + length rows)) m
unfolding stored_all
stored_all_fits m n [] e h = let z : n + 0 ≡ n = omega arith in rw (z, append-nil) (sym (take-append-drop (8 * n) m))
stored_all_fits m n (r ∷ rs) e h =
    let z : n + suc (length rs) ≡ n + 1 + length rs = omega arith in
    let room : 8 * n + 8 ≤ length m = omega arith in
    let all : 8 * (n + 1 + length rs) ≤ length (stored m n r) = omega (arith, stored_keeps m n r e.0) in
    stored_all_fits (stored m n r) (n + 1) rs e.1 all
    ∙ rw (stored_room m n r room, take_row m n r e.0 room, drop_row m n (length rs) r e.0 room, z)
    (ap (λ (x : List ℤ). x ++ drop (8 * (n + 1 + length rs)) m) (append_assoc (take (8 * n) m) r (joined rs)))

-- where there is no room for the first row there is none for a later one
pub stored_all_none : (m : List ℤ) (n : ℕ) (rows : List (List ℤ)) → length m < 8 * n + 8 → stored_all m n rows ≡ m
unfolding stored_all stored
stored_all_none m n [] h = refl
stored_all_none m n (r ∷ rs) h = rw (lt-leb (8 * n + 8) (length m) h) (stored_all_none m (n + 1) rs (omega arith))
