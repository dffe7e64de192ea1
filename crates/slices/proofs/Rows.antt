-- The first rows of a slice of words, as the chunks of eight that the code goes over. Assumes nothing.
use mathlib.Core.Path.{◌≡◌, refl, ap, ◌∙◌}
use mathlib.Core.List.{List, [], ◌∷◌, ◌++◌}
use Prim.Native.Nat.{ℕ, zero, suc, ◌+◌, ◌*◌, ◌≤◌, ◌<◌}
use native.Mathlib.Omega.{arith}
use lib.ListN.{length, get_or, take, drop}
use lib.Seq.{drop-drop}
use Rattle.std.specs.Simd.{first_chunks}

pub length_chunks : {A : Type 0} (n k : ℕ) (words : List A) → length (first_chunks n k words) ≡ k
length_chunks n zero words = refl
length_chunks n (suc k) words = ap suc (length_chunks n k (drop n words))

-- of more chunks, the first ones
pub take_chunks : {A : Type 0} (n j k : ℕ) (words : List A) → j ≤ k → take j (first_chunks n k words) ≡ first_chunks n j words
take_chunks n zero k words h = refl
take_chunks n (suc j) zero words h = absurd (omega arith)
take_chunks n (suc j) (suc k) words h = ap (λ l. take n words ∷ l) (take_chunks n j k (drop n words) (omega arith))

-- row i
pub chunk_at : {A : Type 0} (k i : ℕ) (words : List A) (d : List A) → i < k → get_or (first_chunks 8 k words) i d ≡ take 8 (drop (8 * i) words)
chunk_at zero i words d h = absurd (omega arith)
chunk_at (suc k) zero words d h = refl
chunk_at (suc k) (suc i) words d h =
    let e : 8 + 8 * i ≡ 8 * suc i = omega arith in
    chunk_at k i (drop 8 words) d (omega arith) ∙ ap (take 8) (drop-drop (8 * i) 8 words ∙ ap (λ m. drop m words) e)

-- one chunk more stands behind the others
pub chunks_more : {A : Type 0} (k : ℕ) (words : List A) → first_chunks 8 (suc k) words ≡ first_chunks 8 k words ++ take 8 (drop (8 * k) words) ∷ []
chunks_more zero words = refl
chunks_more (suc k) words =
    let e : 8 + 8 * k ≡ 8 * suc k = omega arith in
    ap (λ l. take 8 words ∷ l) (chunks_more k (drop 8 words) ∙ ap (λ r. first_chunks 8 k (drop 8 words) ++ take 8 r ∷ []) (drop-drop (8 * k) 8 words ∙ ap (λ m. drop m words) e))
