-- A line value by value: its characters from value i on, its length, what holds at each turn, a turn, and the end. Assumes nothing.
use mathlib.Core.Path.{◌≡◌, refl, sym, ap, ap₂, ◌∙◌}
use mathlib.Core.Bool.{Bool, true, false, ◌||◌, true≢false}
use mathlib.Core.List.{List, [], ◌∷◌, ◌++◌, append_assoc, append-nil}
use Prim.Native.Nat.{ℕ, zero, suc, ◌+◌, ◌-◌, ◌*◌, ◌≤◌, ◌<◌}
use native.Mathlib.Numerals.{add-one}
use native.Mathlib.Omega.{arith}
use lib.IntN.{ℤ, pos}
use lib.ListN.{length, get_or, take, drop, set, replicate, length-append, length-drop, length-replicate}
use lib.Seq.{length-take-le, take_all, drop-drop, set_split}
use borrow.Rule.Slice.PartMut.{put_mid, mid_of, mid_len, same_len_mid}
use Rattle.std.proofs.lemmas.Slice.{take-put_mid, drop-put_mid}
use Rattle.std.proofs.lemmas.List.{drop_all, take-replicate, drop-replicate}
use Rattle.text.specs.Lines.{space, line_feed, row_words}
use Rattle.printing.specs.Page.{widths, right_aligned, aligned, page_line}
use Rattle.printing.specs.Answers.{too_wide, any_too_wide}
use Rattle.printing.proofs.Values.{length_right_aligned}

-- neither of two tests holds
pub first_false : (a b : Bool) → (a || b) ≡ false → a ≡ false
first_false true b e = e
first_false false b e = refl

pub second_false : (a b : Bool) → (a || b) ≡ false → b ≡ false
second_false true b e = absurd (true≢false e)
second_false false b e = e

-- ---- values side by side

abbrev sum : List ℕ → ℕ
sum [] = 0
sum (w ∷ ws) = w + sum ws

-- values that are not too wide take their widths
length_aligned : (ws : List ℕ) (vs : List ℤ) → length ws ≡ length vs → any_too_wide ws vs ≡ false → length (aligned ws vs) ≡ sum ws
unfolding aligned any_too_wide
length_aligned [] vs h e = refl
length_aligned (w ∷ ws) [] h e = absurd (omega arith)
length_aligned (w ∷ ws) (v ∷ vs) h e =
    omega (arith, length-append (right_aligned w v) (aligned ws vs), length_right_aligned w v (first_false (too_wide w v) (any_too_wide ws vs) e), length_aligned ws vs (omega arith) (second_false (too_wide w v) (any_too_wide ws vs) e))

-- ---- word i of values that are not too wide

narrow_at : (ws : List ℕ) (vs : List ℤ) (i : ℕ) → i < length ws → i < length vs → any_too_wide ws vs ≡ false → too_wide (get_or ws i 0) (get_or vs i (pos 0)) ≡ false
unfolding any_too_wide
narrow_at [] vs i h k e = absurd (omega arith)
narrow_at (w ∷ ws) [] i h k e = absurd (omega arith)
narrow_at (w ∷ ws) (v ∷ vs) zero h k e = first_false (too_wide w v) (any_too_wide ws vs) e
narrow_at (w ∷ ws) (v ∷ vs) (suc i) h k e = narrow_at ws vs i (omega arith) (omega arith) (second_false (too_wide w v) (any_too_wide ws vs) e)

-- it stands behind those before it
aligned_next : (ws : List ℕ) (vs : List ℤ) (i : ℕ) → i < length ws → i < length vs →
    aligned (take (suc i) ws) (take (suc i) vs) ≡ aligned (take i ws) (take i vs) ++ right_aligned (get_or ws i 0) (get_or vs i (pos 0))
unfolding aligned
aligned_next [] vs i h k = absurd (omega arith)
aligned_next (w ∷ ws) [] i h k = absurd (omega arith)
aligned_next (w ∷ ws) (v ∷ vs) zero h k = append-nil (right_aligned w v)
aligned_next (w ∷ ws) (v ∷ vs) (suc i) h k =
    ap (λ t. right_aligned w v ++ t) (aligned_next ws vs i (omega arith) (omega arith))
    ∙ sym (append_assoc (right_aligned w v) (aligned (take i ws) (take i vs)) (right_aligned (get_or ws i 0) (get_or vs i (pos 0))))

sum_next : (ws : List ℕ) (i : ℕ) → i < length ws → (sum (take (suc i) ws) ≡ sum (take i ws) + get_or ws i 0) × (sum (take (suc i) ws) ≤ sum ws)
sum_next [] i h = absurd (omega arith)
sum_next (w ∷ ws) zero h = (omega arith, omega arith)
sum_next (w ∷ ws) (suc i) h = let n = sum_next ws i (omega arith) in (omega (arith, n.0), omega (arith, n.1))

-- ---- a row's words

pub eight_words : (words : List ℤ) (row : ℕ) → 8 * row + 8 ≤ length words → length (row_words words row) ≡ 8
eight_words words row whole = length-take-le 8 (drop (8 * row) words) (rw length-drop (omega arith))

pub eighty_characters : (words : List ℤ) (row : ℕ) → 8 * row + 8 ≤ length words → any_too_wide widths (row_words words row) ≡ false → length (aligned widths (row_words words row)) ≡ 80
eighty_characters words row whole e = length_aligned widths (row_words words row) (sym (eight_words words row whole)) e

pub length_line : (words : List ℤ) (row : ℕ) → 8 * row + 8 ≤ length words → any_too_wide widths (row_words words row) ≡ false → length (page_line (row_words words row)) ≡ 81
unfolding page_line
length_line words row whole e =
    length-append (aligned widths (row_words words row)) (line_feed ∷ []) ∙ omega (arith, eighty_characters words row whole e)

-- ---- writing a line

-- the values before word i stand in the line, and blanks behind them
pub record LinePart (row : List ℤ) (line : List ℕ) (at i : ℕ) : Type 0 where
  pub within : i ≤ 8
  pub place : at ≡ sum (take i widths)
  pub long : length line ≡ 81
  pub values : take at line ≡ aligned (take i widths) (take i row)
  pub rest : drop at line ≡ replicate (81 - at) space

module _ (row : List ℤ) (eight : length row ≡ 8) where
  pub line_begun : {line : List ℕ} → line ≡ replicate 81 space → LinePart row line 0 0
  unfolding aligned
  line_begun b = record { within = omega arith; place = refl; long = ap length b ∙ length-replicate 81 space; values = refl; rest = b }

  module _ {line : List ℕ} {at i : ℕ} (p : LinePart row line at i) (h : i < 8) where
    pub line_room : at + get_or widths i 0 ≤ 80
    line_room = let n = sum_next widths i h in omega (arith, n.0, n.1, p.place)

    pub field_size : {width : ℕ} → width ≡ get_or widths i 0 → length (take (at + width - at) (drop at line)) ≡ width
    field_size {width} w = mid_len at (at + width) line (omega (arith, line_room, p.long, w)) ∙ omega arith

    pub field_blank : {width : ℕ} → width ≡ get_or widths i 0 → take (at + width - at) (drop at line) ≡ replicate width space
    field_blank {width} w =
        let size : at + width - at ≡ width = omega arith in
        rw (size, p.rest) (take-replicate width (81 - at) space (omega (arith, line_room, w)))

    pub narrow_word : any_too_wide widths row ≡ false → too_wide (get_or widths i 0) (get_or row i (pos 0)) ≡ false
    narrow_word e = narrow_at widths row i h (omega arith) e

    pub line_turn : any_too_wide widths row ≡ false → {width : ℕ} {field : List ℕ} → width ≡ get_or widths i 0 → field ≡ right_aligned width (get_or row i (pos 0)) → LinePart row (put_mid at (at + width - at) line field) (at + width) (i + 1)
    line_turn e {width} {field} w f =
        let room = line_room in
        let value = get_or row i (pos 0) in
        let narrow : too_wide width value ≡ false = rw w (narrow_word e) in
        let size : length field ≡ width = ap length f ∙ length_right_aligned width value narrow in
        let part : length field ≡ length (mid_of at (at + width - at) line) = omega (arith, mid_len at (at + width) line (omega (arith, p.long, w)), size) in
        record {
          within = omega arith;
          place = rw add-one (omega (arith, sum_next widths i h, p.place, w));
          long = same_len_mid at (at + width - at) line field part ∙ p.long;
          values =
              take-put_mid at (at + width - at) line field (at + width) (omega (arith, size)) (omega (arith, p.long))
              ∙ ap₂ (λ (a b : List ℕ). a ++ b) p.values (f ∙ ap (λ n. right_aligned n value) w)
              ∙ rw add-one (sym (aligned_next widths row i h (omega arith)));
          rest =
              drop-put_mid at (at + width - at) line field (at + width) (omega arith) (omega (arith, p.long)) (omega (arith, size))
              ∙ sym (drop-drop width at line)
              ∙ ap (drop width) p.rest
              ∙ drop-replicate width (81 - at) space
              ∙ ap (λ n. replicate n space) (omega arith);
        }

  pub line_ended : {line : List ℕ} {at i : ℕ} → LinePart row line at i → 8 ≤ i → (at < length line) × (set line at line_feed ≡ page_line row)
  unfolding page_line
  line_ended {line} {at} {i} p h =
      let e : i ≡ 8 = omega (arith, p.within) in
      let full : at ≡ 80 = p.place ∙ ap (λ n. sum (take n widths)) e in
      let whole : take at line ≡ aligned widths row = p.values ∙ ap (λ n. aligned (take n widths) (take n row)) e ∙ ap (aligned widths) (take_all 8 row (omega arith)) in
      let none : drop (suc at) line ≡ [] = drop_all (suc at) line (omega (arith, p.long)) in
      let room : at < length line = omega (arith, p.long) in
      (room, set_split line at line_feed room ∙ rw (whole, none))
