-- The totals and a refusal, as labels with their numbers and a line feed. Assumes nothing.
use mathlib.Core.Path.{◌≡◌}
use mathlib.Core.List.{List, [], ◌∷◌, ◌++◌, append_assoc}
use Prim.Native.Nat.{ℕ}
use Rattle.text.specs.Decimal.{decimal}
use Rattle.text.specs.Lines.{space, line_feed, line, rows_word, failed_word, checks_word, refused_word, totals_line, refused_line}

pub totals_labels : (rows failed checks : ℕ) → (rows_word ++ space ∷ [] ++ decimal rows) ++ (space ∷ failed_word ++ space ∷ [] ++ decimal failed) ++ (space ∷ checks_word ++ space ∷ [] ++ decimal checks) ++ line_feed ∷ [] ≡ totals_line rows failed checks
unfolding line totals_line
totals_labels rows failed checks =
    regroup (rows_word ++ space ∷ []) (decimal rows) (space ∷ failed_word ++ space ∷ []) (decimal failed) (space ∷ checks_word ++ space ∷ []) (decimal checks) (line_feed ∷ [])
  where
    regroup : (a b c d e f g : List ℕ) → a ++ b ++ (c ++ d) ++ (e ++ f) ++ g ≡ a ++ (b ++ (c ++ (d ++ (e ++ (f ++ g)))))
    regroup a b c d e f g = simp append_assoc

pub refused_labels : (number offset : ℕ) → (refused_word ++ space ∷ [] ++ decimal number) ++ (space ∷ [] ++ decimal offset) ++ line_feed ∷ [] ≡ refused_line number offset
unfolding line refused_line
refused_labels number offset =
    regroup (refused_word ++ space ∷ []) (decimal number) (space ∷ []) (decimal offset) (line_feed ∷ [])
  where
    regroup : (a b c d e : List ℕ) → a ++ b ++ (c ++ d) ++ e ≡ a ++ (b ++ (c ++ (d ++ e)))
    regroup a b c d e = simp append_assoc
