-- Two lists of bytes alike but for four: what lies before or behind the four is the same, and the second is the first with what stands
-- around the four replaced. Assumes nothing.
use mathlib.Core.Path.{◌≡◌, sym, ap, ap₂, ◌∙◌}
use mathlib.Core.List.{List, ◌++◌}
use mathlib.Core.Logic.{◌⊎◌, inl, inr}
use Prim.Native.Nat.{ℕ, ◌+◌, ◌-◌, ◌≤◌, ◌<◌, min}
use native.Mathlib.Omega.{arith}
use lib.ListN.{length, length-take, length-drop, take, drop, take-append-drop}
use lib.Seq.{get_or-take, get_or-drop, drop-drop, take-append_seam, drop-append_seam, drop-append-add}
use Rattle.std.proofs.lemmas.List.{ext_get_or}
use Rattle.layout.specs.Operands.{byte_at}

-- as many bytes, and alike but for the four from an offset on
pub record AlikeBut (first second : List ℕ) (at : ℕ) : Type 0 where
  pub as_long : length second ≡ length first
  pub alike : (k : ℕ) → (k < at) ⊎ (at + 4 ≤ k) → byte_at second k ≡ byte_at first k

module _ {first second : List ℕ} {at : ℕ} (a : AlikeBut first second at) where
  -- k lies beside the four where it lies in a part that does
  beside : (from n k : ℕ) → k < n → (from + n ≤ at) ⊎ (at + 4 ≤ from) → (from + k < at) ⊎ (at + 4 ≤ from + k)
  beside from n k l (inl h) = inl (omega arith)
  beside from n k l (inr h) = inr (omega arith)

  -- n bytes before or behind the four
  pub same_part : (from n : ℕ) → (from + n ≤ at) ⊎ (at + 4 ≤ from) → take n (drop from second) ≡ take n (drop from first)
  same_part from n h =
      ext_get_or 0 (take n (drop from second)) (take n (drop from first)) same_length
      (λ k l.
      let m : k < n = omega (arith, length-take n (drop from second), l) in
      get_or-take n (drop from second) k 0 m ∙ get_or-drop from second k 0 ∙ a.alike (from + k) (beside from n k m h)
      ∙ sym (get_or-drop from first k 0) ∙ sym (get_or-take n (drop from first) k 0 m))
    where
      same_length : length (take n (drop from second)) ≡ length (take n (drop from first))
      same_length =
          length-take n (drop from second) ∙ ap (min n) (length-drop from second ∙ ap (λ (k : ℕ). k - from) a.as_long ∙ sym (length-drop from first))
          ∙ sym (length-take n (drop from first))

  -- all that stands behind the four
  pub same_rest : (from : ℕ) → at + 4 ≤ from → drop from second ≡ drop from first
  same_rest from h =
      ext_get_or 0 (drop from second) (drop from first) (length-drop from second ∙ ap (λ (k : ℕ). k - from) a.as_long ∙ sym (length-drop from first))
      (λ k l. get_or-drop from second k 0 ∙ a.alike (from + k) (inr (omega arith)) ∙ sym (get_or-drop from first k 0))

  -- the part with the four is another one, as long
  pub replaced : (front part rest : List ℕ) → first ≡ front ++ (part ++ rest) → length front ≤ at → at + 4 ≤ length front + length part → second ≡ front ++ (take (length part) (drop (length front) second) ++ rest)
  replaced front part rest e l m =
      let n = length front in
      let w = length part in
      let ahead : take n second ≡ front =
      same_part 0 n (inl (omega arith)) ∙ ap (take n) e ∙ take-append_seam front (part ++ rest) in
      let behind : drop w (drop n second) ≡ rest =
      drop-drop w n second ∙ same_rest (n + w) m ∙ ap (drop (n + w)) e ∙ drop-append-add front (part ++ rest) w ∙ drop-append_seam part rest in
      sym (take-append-drop n second) ∙ ap₂ ◌++◌ ahead (sym (take-append-drop w (drop n second)) ∙ ap (λ (l : List ℕ). take w (drop n second) ++ l) behind)
