-- The loops over the sets of a block that are given as words, over plain values: those before are in range, or their bytes are put.
-- Assumes nothing.
use mathlib.Core.Bool.{Bool, true, false}
use mathlib.Core.List.{List, [], ◌∷◌, ◌++◌, map, map-append}
use mathlib.Core.Path.{◌≡◌, refl, sym, ap, ◌∙◌, subst}
use Prim.Native.Nat.{ℕ, zero, suc, ◌+◌, ◌*◌, ◌/◌, ◌≤◌, ◌<◌}
use native.Mathlib.Numerals.{add-one}
use native.Mathlib.Omega.{arith}
use lib.Dec.{lit<}
use lib.ListN.{length, get_or, take, drop, length-map, take-append-drop}
use lib.Seq.{drop-drop, drop-cons, get_or-take, get_or-drop, length-take-le, take_all}
use Rattle.std.proofs.lemmas.List.{drop_all, take_more}
use Rattle.std.specs.Simd.{first_chunks}
use Rattle.walls.specs.declared.Storey.{Storey}
use borrow.Rule.Slice.PartMut.{put_mid}
use Rattle.slices.specs.Written.{Put}
use Rattle.slices.proofs.Writing.{written_none, behind, put_length}
use Rattle.format.specs.declared.Command.TheVariants.{Storey as storey}
use Rattle.format.specs.Commands.{in_range}
use Rattle.blocks.specs.Sets.{all_in_range}
use Rattle.blocks.proofs.Sets.{first_in_range, first_at_fault}
use Rattle.writing.specs.Bytes.{set_bytes}
use Rattle.writing.specs.BlockGiven.{storey_of_words, storeys_of_words}
use Rattle.writing.proofs.BlockWords.{storeys_kept}
use Rattle.writing.proofs.Filling.{put_here}
use Rattle.writing.proofs.SetBytes.{one_set, set_width, sets_width, sets_more}

-- ---- the storeys of words

pub given_length : (n : ℕ) (words : List ℕ) (at : ℕ) → length (storeys_of_words n words at) ≡ n
unfolding storeys_of_words
given_length zero words at = refl
given_length (suc n) words at = ap suc (given_length n words (at + 6))

-- ---- the storeys of sets, six words each

abbrev pub storeys : List (List ℕ) → List Storey
storeys sets = map (λ words. storey_of_words words 0) sets

chunk_storey : (words : List ℕ) (at : ℕ) → storey_of_words (take 6 (drop at words)) 0 ≡ storey_of_words words at
unfolding storey_of_words
chunk_storey words at =
    let same : (i : ℕ) → i < 6 → get_or (take 6 (drop at words)) i 0 ≡ get_or words (at + i) 0 = λ i l. get_or-take 6 (drop at words) i 0 l ∙ get_or-drop at words i 0 in
    rw (same 0 (lit< tt), same 1 (lit< tt), same 2 (lit< tt), same 3 (lit< tt), same 4 (lit< tt), same 5 (lit< tt))

chunk_storeys : (n : ℕ) (words : List ℕ) (at : ℕ) → storeys (first_chunks 6 n (drop at words)) ≡ storeys_of_words n words at
unfolding storeys_of_words
chunk_storeys zero words at = refl
chunk_storeys (suc n) words at = rw (chunk_storey words at, drop-drop 6 at words, chunk_storeys n words (at + 6))

-- the sets of the words that a block of so many takes
module _ (count : ℕ) (words : List ℕ) (sets : List (List ℕ)) (room : 6 * count ≤ length words) (f : sets ≡ first_chunks 6 (length (take (6 * count) words) / 6) (take (6 * count) words)) where
  counted : length (take (6 * count) words) / 6 ≡ count
  counted = omega (arith, length-take-le (6 * count) words room)

  pub sets_given : storeys sets ≡ storeys_of_words count words 0
  sets_given =
      ap storeys f
      ∙ ap (λ (n : ℕ). storeys (first_chunks 6 n (take (6 * count) words))) counted
      ∙ chunk_storeys count (take (6 * count) words) 0
      ∙ sym (storeys_kept count (take (6 * count) words) (drop (6 * count) words) 0 (omega (arith, length-take-le (6 * count) words room)))
      ∙ ap (λ (l : List ℕ). storeys_of_words count l 0) (take-append-drop (6 * count) words)

  pub sets_count : length sets ≡ count
  sets_count = sym (length-map sets (λ words. storey_of_words words 0)) ∙ ap (λ (ss : List Storey). length ss) sets_given ∙ given_length count words 0

-- ---- tested one after the other

-- the test of a set is that of its words
pub tested : {s : Storey} {t b : Bool} (words : List ℕ) → s ≡ storey_of_words words 0 → t ≡ in_range (storey s) → t ≡ b → in_range (storey (storey_of_words words 0)) ≡ b
tested words g e is = sym (e ∙ ap (λ (s : Storey). in_range (storey s)) g) ∙ is

pub record Testing (sets : List (List ℕ)) (set : ℕ) : Type 0 where
  pub range : all_in_range (storeys sets) ≡ all_in_range (storeys (drop set sets))

pub test_begins : (sets : List (List ℕ)) → Testing sets 0
test_begins sets = record { range = refl }

module _ (sets : List (List ℕ)) (set : ℕ) (s : Testing sets set) where
  module _ (l : set < length sets) where
    -- the next set, and those behind it
    split : storeys (drop set sets) ≡ storey_of_words (get_or sets set []) 0 ∷ storeys (drop (set + 1) sets)
    split = rw (add-one set) (ap storeys (drop-cons sets set [] l))

    pub tests_on : in_range (storey (storey_of_words (get_or sets set []) 0)) ≡ true → Testing sets (set + 1)
    tests_on r =
        record { range = s.range ∙ ap all_in_range split ∙ (first_in_range (storey_of_words (get_or sets set []) 0) (storeys (drop (set + 1) sets)) r).0 }

    pub test_fails : in_range (storey (storey_of_words (get_or sets set []) 0)) ≡ false → all_in_range (storeys sets) ≡ false
    test_fails r = s.range ∙ ap all_in_range split ∙ (first_at_fault (storey_of_words (get_or sets set []) 0) (storeys (drop (set + 1) sets)) r).0

  pub test_ends : length sets ≤ set → all_in_range (storeys sets) ≡ true
  unfolding all_in_range
  test_ends l = s.range ∙ ap (λ (rest : List (List ℕ)). all_in_range (storeys rest)) (drop_all set sets l)

-- ---- put one after the other

pub record Putting (before : List ℕ) (sets : List (List ℕ)) (bytes : List ℕ) (set : ℕ) : Type 0 where
  pub kept : length bytes ≡ length before
  pub put : Put before 2 (set_bytes (storeys (take set sets))) bytes

pub put_begins : (before : List ℕ) (sets : List (List ℕ)) → Putting before sets before 0
unfolding set_bytes
put_begins before sets = record { kept = refl; put = record { bytes = sym (written_none before 2) } }

module _ (before : List ℕ) (sets : List (List ℕ)) (bytes : List ℕ) (set : ℕ) (s : Putting before sets bytes set) where
  pub puts_on : {part : List ℕ} {n : ℕ} → set < length sets → 2 + 24 * length sets ≤ length before → part ≡ one_set (storey_of_words (get_or sets set []) 0) → n ≡ 24 → Putting before sets (put_mid (2 + 24 * set) n bytes part) (set + 1)
  puts_on {part} {n} l room q h =
      let here = storey_of_words (get_or sets set []) 0 in
      let after = put_mid (2 + 24 * set) n bytes part in
      let p : Put bytes (2 + 24 * set) (one_set here) after = put_here q (omega (arith, h, set_width here)) in
      let so_far = storeys (take set sets) in
      let more : storeys (take (set + 1) sets) ≡ so_far ++ here ∷ [] = ap storeys (take_more sets set [] l) ∙ map-append (λ words. storey_of_words words 0) (take set sets) (get_or sets set [] ∷ []) in
      let count : length so_far ≡ set = length-map (take set sets) (λ words. storey_of_words words 0) ∙ length-take-le set sets (omega arith) in
      let place : 2 + length (set_bytes so_far) ≡ 2 + 24 * set = omega (arith, sets_width so_far, count) in
      let fits : 2 + 24 * set + length (one_set here) ≤ length bytes = omega (arith, s.kept, set_width here) in
      let all : set_bytes so_far ++ one_set here ≡ set_bytes (storeys (take (set + 1) sets)) = sym (ap set_bytes more ∙ sets_more so_far here) in
      record {
        kept = put_length p fits ∙ s.kept;
        put = subst (λ (t : List ℕ). Put before 2 t after) all (behind s.put p place (omega arith));
      }

  pub put_ends : length sets ≤ set → Put before 2 (set_bytes (storeys sets)) bytes
  put_ends l = rw (take_all set sets l) at s.put
