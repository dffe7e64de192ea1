-- The range test of a command's values is the test of its operands one by one, as they stand in the file. Assumes nothing.
use mathlib.Core.Bool.{Bool, true, false, ◌&&◌, and-true, and-false, and_assoc}
use mathlib.Core.List.{List, [], ◌∷◌}
use mathlib.Core.Path.{◌≡◌, refl, sym, ap, ◌∙◌}
use Prim.Native.Nat.{ℕ, zero, suc, ◌<◌}
use native.Mathlib.Nat.{not-suc-le-zero}
use native.Mathlib.Omega.{arith}
use lib.ListN.{length, get_or}
use Rattle.layout.specs.declared.Form.{Form}
use Rattle.layout.specs.declared.Form.TheVariants.{Id}
use Rattle.layout.specs.Forms.{form_in_range}
use Rattle.layout.specs.Layouts.{forms_of, forms_in}
use Rattle.format.specs.Commands.{Command, finish, building, byte_of, operands_of, related, all_in_range, in_range}
use Rattle.layout.proofs.OperandsRead.{at}

pub and_first : (a b : Bool) → (a && b) ≡ true → a ≡ true
and_first true b h = refl
and_first false b h = h

pub and_second : (a b : Bool) → (a && b) ≡ true → b ≡ true
and_second true b h = h
and_second false true h = refl
and_second false false h = h

-- operand i of these forms is in range
abbrev pub InAt : List Form → (ℕ → ℕ) → ℕ → Type 0
InAt fs v i = form_in_range (get_or fs i Id) (v i) ≡ true

pub all_at : (fs : List Form) (vs : List ℕ) → all_in_range fs vs ≡ true → (i : ℕ) → i < length fs → InAt fs (at vs) i
unfolding all_in_range
all_at [] vs h i l = absurd (not-suc-le-zero l)
all_at (f ∷ fs) [] h i l = absurd (differ h)
  where
    differ : false ≡ true → ⊥
    differ e = let z : ◌≡◌ {A = ℕ} 0 1 = cc in omega arith
all_at (f ∷ fs) (v ∷ vs) h zero l = and_first (form_in_range f v) (all_in_range fs vs) h
all_at (f ∷ fs) (v ∷ vs) h (suc i) l = all_at fs vs (and_second (form_in_range f v) (all_in_range fs vs) h) i (omega arith)

-- each operand of a command is in range
abbrev pub EachIn : ℕ → (ℕ → ℕ) → Type 0
EachIn byte v = (i : ℕ) → i < length (forms_of byte) → InAt (forms_of byte) v i

-- of a command's own values
pub values_each : (c : Command) → in_range c ≡ true → EachIn (byte_of c) (at (operands_of c))
unfolding in_range
values_each c h = all_at (forms_of (byte_of c)) (operands_of c) (and_first (all_in_range (forms_of (byte_of c)) (operands_of c)) (related c) h)

pub values_related : (c : Command) → in_range c ≡ true → related c ≡ true
unfolding in_range
values_related c h = and_second (all_in_range (forms_of (byte_of c)) (operands_of c)) (related c) h

-- ---- the tests of a command's operands one after the other, as `&` takes them

unfoldable pub in_turn : Bool → List Form → List ℕ → Bool
unfolding form_in_range
in_turn t [] vs = t
in_turn t (f ∷ fs) [] = false
in_turn t (f ∷ fs) (v ∷ vs) = in_turn (t && form_in_range f v) fs vs

turn_all : (t : Bool) (fs : List Form) (vs : List ℕ) → (t && all_in_range fs vs) ≡ in_turn t fs vs
unfolding all_in_range in_turn
turn_all t [] vs = and-true t
turn_all t (f ∷ fs) [] = and-false t
turn_all t (f ∷ fs) (v ∷ vs) = sym (and_assoc t (form_in_range f v) (all_in_range fs vs)) ∙ turn_all (t && form_in_range f v) fs vs

pub in_turn_lem : (c : Command) → (in_turn true (forms_of (byte_of c)) (operands_of c) && related c) ≡ in_range c
unfolding in_range
in_turn_lem c = sym (ap (λ (t : Bool). t && related c) (turn_all true (forms_of (byte_of c)) (operands_of c)))

-- where there is no relation
pub in_turn_alone : (c : Command) → related c ≡ true → in_turn true (forms_of (byte_of c)) (operands_of c) ≡ in_range c
in_turn_alone c h =
    sym (and-true (in_turn true (forms_of (byte_of c)) (operands_of c)))
    ∙ ap (λ (t : Bool). in_turn true (forms_of (byte_of c)) (operands_of c) && t) (sym h)
    ∙ in_turn_lem c

-- ---- a command without operands

-- the end and another building have none that could be out of range
pub end_in_range : in_range finish ≡ true
unfolding in_range all_in_range related forms_of forms_in
end_in_range = refl

pub building_in_range : in_range building ≡ true
unfolding in_range all_in_range related forms_of forms_in
building_in_range = refl
