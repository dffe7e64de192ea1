-- A command that is in range stays so where one of its operands is replaced by another in range. Assumes nothing.
use mathlib.Core.Path.{◌≡◌, refl}
use mathlib.Core.Bool.{Bool, true, ◌&&◌}
use mathlib.Core.List.{List, [], ◌∷◌}
use Prim.Native.Nat.{ℕ, zero, suc, ◌≤◌, zero-le}
use lib.Dec.{leb}
use lib.ListN.{get_or, set}
use borrow.Author.Tests.{le-leb}
use Rattle.quantity.specs.Range.{within}
use Rattle.layout.specs.declared.Form.{Form}
use Rattle.layout.specs.declared.Form.TheVariants.{Id, Force, Moment}
use Rattle.layout.specs.Forms.{form_in_range}
use Rattle.layout.specs.Layouts.{forms_of}
use Rattle.format.specs.declared.Command.{Command}
use Rattle.format.specs.Commands.{byte_of, operands_of, related, all_in_range, in_range}
use Rattle.format.proofs.RangeTest.{and_first, and_second}

both : (a b : Bool) → a ≡ true → b ≡ true → (a && b) ≡ true
both a b e f = rw (e, f)

set_in_range : (fs : List Form) (vs : List ℕ) (i new : ℕ) → all_in_range fs vs ≡ true → form_in_range (get_or fs i Id) new ≡ true → all_in_range fs (set vs i new) ≡ true
unfolding all_in_range
set_in_range [] vs i new h n = refl
set_in_range (f ∷ fs) [] i new h n = h
set_in_range (f ∷ fs) (v ∷ vs) zero new h n = both (form_in_range f new) (all_in_range fs vs) n (and_second (form_in_range f v) (all_in_range fs vs) h)
set_in_range (f ∷ fs) (v ∷ vs) (suc i) new h n =
    both (form_in_range f v) (all_in_range fs (set vs i new)) (and_first (form_in_range f v) (all_in_range fs vs) h) (set_in_range fs vs i new (and_second (form_in_range f v) (all_in_range fs vs) h) n)

-- a force and a moment have the same greatest value
pub force_in_range : (n : ℕ) → n ≤ 100000000 → form_in_range Force n ≡ true
unfolding form_in_range within
force_in_range n l = both (leb 0 n) (leb n 100000000) (le-leb 0 n zero-le) (le-leb n 100000000 l)

pub moment_in_range : (n : ℕ) → n ≤ 100000000 → form_in_range Moment n ≡ true
unfolding form_in_range within
moment_in_range n l = both (leb 0 n) (leb n 100000000) (le-leb 0 n zero-le) (le-leb n 100000000 l)

pub still_in_range : (c d : Command) (i new : ℕ) → byte_of d ≡ byte_of c → operands_of d ≡ set (operands_of c) i new → related d ≡ related c → form_in_range (get_or (forms_of (byte_of c)) i Id) new ≡ true → in_range c ≡ true → in_range d ≡ true
unfolding in_range
still_in_range c d i new b o r n h =
    rw (b, o, r)
    (both (all_in_range (forms_of (byte_of c)) (set (operands_of c) i new)) (related c)
    (set_in_range (forms_of (byte_of c)) (operands_of c) i new (and_first (all_in_range (forms_of (byte_of c)) (operands_of c)) (related c) h) n)
    (and_second (all_in_range (forms_of (byte_of c)) (operands_of c)) (related c) h))
