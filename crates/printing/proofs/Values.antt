-- One value on a page: when it is too wide, by its characters and by its size, and what it takes in its width. Assumes nothing.
use mathlib.Core.Path.{◌≡◌, refl, sym, ap, ap₂, ◌∙◌}
use mathlib.Core.Bool.{Bool, true, false}
use Prim.Native.Nat.{ℕ, suc, ◌+◌, ◌-◌, ◌≤◌, ◌<◌}
use native.Mathlib.Omega.{arith}
use borrow.Author.Tests.{ltb-false, leb-true, leb-false, lt-ltb, le-ltb}
use lib.Dec.{leb}
use lib.IntN.{ℤ, pos, negsuc}
use lib.ListN.{length, take, drop, set, replicate, length-append, length-replicate, take-append-drop, replicate-append-replicate}
use lib.Seq.{set_at}
use Rattle.std.proofs.lemmas.List.{take-replicate, drop_all}
use mathlib.Core.List.{List, [], ◌∷◌, ◌++◌, append_assoc, append-nil}
use Rattle.text.specs.Decimal.{signed_decimal, minus}
use Rattle.text.specs.Lines.{space}
use Rattle.text.proofs.Digits.{some_digit}
use Rattle.printing.specs.Page.{right_aligned}
use Rattle.printing.specs.Answers.{too_wide}

-- a value takes a character at least
pub some_character : (z : ℤ) → 1 ≤ length (signed_decimal z)
unfolding signed_decimal
some_character (pos n) = some_digit n
some_character (negsuc n) = omega (arith, some_digit (suc n))

pub wide : (width : ℕ) (z : ℤ) → width ≤ length (signed_decimal z) → too_wide width z ≡ true
unfolding too_wide
wide width z h = lt-ltb (width - 1) (length (signed_decimal z)) (omega (arith, some_character z))

pub narrow : (width : ℕ) (z : ℤ) → length (signed_decimal z) < width → too_wide width z ≡ false
unfolding too_wide
narrow width z h = le-ltb (width - 1) (length (signed_decimal z)) (omega arith)

-- a test of the order is another test that holds exactly when the order does
pub same_test : (a b : ℕ) (t : Bool) → (a ≤ b → t ≡ true) → (b < a → t ≡ false) → leb a b ≡ t
same_test a b t holds fails = go (leb a b) refl
  where
    go : (r : Bool) → leb a b ≡ r → leb a b ≡ t
    go true e = e ∙ sym (holds (leb-true a b e))
    go false e = e ∙ sym (fails (leb-false a b e))

-- a blank stands before a value that is not too wide
pub blank_before : (width : ℕ) (z : ℤ) → too_wide width z ≡ false → length (signed_decimal z) < width
unfolding too_wide
blank_before width z e = omega (arith, ltb-false (width - 1) (length (signed_decimal z)) e, some_character z)

-- such a value takes its width
pub length_right_aligned : (width : ℕ) (z : ℤ) → too_wide width z ≡ false → length (right_aligned width z) ≡ width
unfolding right_aligned
length_right_aligned width z e =
    rw (length-append, length-replicate) (omega (arith, blank_before width z e))

-- ---- a value at the end of blanks

-- digits up to the end of blanks, in a field of so many characters
pub record Placed (width : ℕ) (digits : List ℕ) (field : List ℕ) (first : ℕ) : Type 0 where
  pub position : first + length digits ≡ width
  pub is : field ≡ replicate first space ++ digits

pub placed : (width : ℕ) (digits blanks field : List ℕ) (first : ℕ) → first + length digits ≡ width → blanks ≡ replicate width space
    → drop first field ≡ digits ++ drop width blanks → take first field ≡ take first blanks → Placed width digits field first
placed width digits blanks field first e b after before =
    let none : drop width blanks ≡ [] = drop_all width blanks (omega (arith, ap length b, length-replicate width space)) in
    let front : take first blanks ≡ replicate first space = ap (take first) b ∙ take-replicate first width space (omega arith) in
    record {
      position = e;
      is = sym (take-append-drop first field) ∙ ap₂ (λ (x y : List ℕ). x ++ y) (before ∙ front) (after ∙ ap (λ r. digits ++ r) none ∙ append-nil digits);
    }

module _ (width : ℕ) (z : ℤ) {digits field : List ℕ} {first : ℕ} (p : Placed width digits field first) where
  pub natural_placed : signed_decimal z ≡ digits → field ≡ right_aligned width z
  unfolding right_aligned
  natural_placed e =
      let front : width - length digits ≡ first = omega (arith, p.position) in
      rw (e, front) p.is

  pub negative_placed : signed_decimal z ≡ minus ∷ digits → length (signed_decimal z) < width → (0 < first) × (set field (first - 1) minus ≡ right_aligned width z)
  unfolding right_aligned
  negative_placed e h =
      let room : 0 < first = omega (arith, p.position, ap length e) in
      let front : width - length (minus ∷ digits) ≡ first - 1 = omega (arith, p.position) in
      let blanks : replicate first space ≡ replicate (first - 1) space ++ space ∷ [] =
      ap (λ k. replicate k space) (omega arith) ∙ sym (replicate-append-replicate (first - 1) 1 space) in
      let text : field ≡ replicate (first - 1) space ++ space ∷ digits =
      p.is ∙ ap (λ b. b ++ digits) blanks ∙ append_assoc (replicate (first - 1) space) (space ∷ []) digits in
      (room, rw (e, front) (ap (λ t. set t (first - 1) minus) text ∙ set_at (replicate (first - 1) space) space digits minus (first - 1) (length-replicate (first - 1) space)))
