-- A row's line, part by part: a line ends in its last part, and the parts before stand each with a space. Assumes nothing.
use mathlib.Core.Path.{◌≡◌, refl, sym, ap, ◌∙◌}
use mathlib.Core.List.{List, [], ◌∷◌, ◌++◌, map, append_assoc}
use Prim.Native.Nat.{ℕ, ◌+◌, ◌<◌}
use native.Mathlib.Numerals.{add-one}
use native.Mathlib.Omega.{arith}
use lib.IntN.{ℤ}
use lib.ListN.{length, get_or, take}
use lib.Seq.{take-suc, take_all}
use Rattle.text.specs.Decimal.{signed_decimal}
use Rattle.text.specs.Lines.{space, line_feed, line, row_line}

-- the words before the last of a row, each with the space after it
abbrev pub spaced : List ℤ → List ℕ
spaced [] = []
spaced (w ∷ ws) = signed_decimal w ++ space ∷ spaced ws

spaced_more : (ws : List ℤ) (w : ℤ) → spaced (ws ++ w ∷ []) ≡ spaced ws ++ (signed_decimal w ++ space ∷ [])
spaced_more [] w = refl
spaced_more (v ∷ ws) w = ap (λ t. signed_decimal v ++ space ∷ t) (spaced_more ws w) ∙ sym (append_assoc (signed_decimal v) (space ∷ spaced ws) (signed_decimal w ++ space ∷ []))

line_last : (ws : List ℤ) (w : ℤ) → line (map signed_decimal (ws ++ w ∷ [])) ≡ spaced ws ++ (signed_decimal w ++ line_feed ∷ [])
unfolding line
line_last [] w = refl
line_last (v ∷ []) w = sym (append_assoc (signed_decimal v) (space ∷ []) (signed_decimal w ++ line_feed ∷ []))
line_last (v ∷ u ∷ ws) w = ap (λ t. signed_decimal v ++ space ∷ t) (line_last (u ∷ ws) w) ∙ sym (append_assoc (signed_decimal v) (space ∷ spaced (u ∷ ws)) (signed_decimal w ++ line_feed ∷ []))

-- one word more
pub spaced_next : (row : List ℤ) (i : ℕ) (d : ℤ) → i < length row → spaced (take (i + 1) row) ≡ spaced (take i row) ++ (signed_decimal (get_or row i d) ++ space ∷ [])
spaced_next row i d h = rw (add-one, take-suc row i d) (spaced_more (take i row) (get_or row i d))

-- the whole line
pub line_whole : (row : List ℤ) (d : ℤ) → length row ≡ 8 → spaced (take 7 row) ++ (signed_decimal (get_or row 7 d) ++ line_feed ∷ []) ≡ row_line row
unfolding row_line
line_whole row d e =
    let h : 7 < length row = omega arith in
    let all : take 7 row ++ get_or row 7 d ∷ [] ≡ row = sym (take-suc row 7 d h) ∙ take_all 8 row (omega arith) in
    sym (line_last (take 7 row) (get_or row 7 d)) ∙ ap (λ r. line (map signed_decimal r)) all
