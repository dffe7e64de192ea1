-- A word that is 1 for yes, else 0, tells what its test tells. Assumes nothing.
use mathlib.Core.Path.{◌≡◌, refl, sym, ap, ◌∙◌}
use mathlib.Core.Bool.{Bool, true, false, true≢false}
use Prim.Native.Nat.{ℕ}
use native.Mathlib.Omega.{arith}
use lib.IntN.{ℤ, pos, nat_abs}
use mir.Val.{bool_byte}
use Rattle.claims.specs.Verdict.{flag}
use Rattle.claims.specs.Told.{Tells}

-- the word that code makes of a test
pub told : (t : Bool) → bool_byte t ≡ flag 1 t
told true = refl
told false = refl

pub is_one : (t : Bool) → pos (flag 1 t) ≡ pos 1 → t ≡ true
is_one true e = refl
is_one false e = let z : ◌≡◌ {A = ℕ} 0 1 = ap nat_abs e in absurd (omega arith)

pub is_zero : (t : Bool) → pos (flag 1 t) ≡ pos 0 → t ≡ false
is_zero true e = let z : ◌≡◌ {A = ℕ} 1 0 = ap nat_abs e in absurd (omega arith)
is_zero false e = refl

pub one_of : (t : Bool) → t ≡ true → pos (flag 1 t) ≡ pos 1
one_of t e = rw e

pub zero_of : (t : Bool) → t ≡ false → pos (flag 1 t) ≡ pos 0
zero_of t e = rw e

-- not yes is no
no : (t : Bool) → (t ≡ true → ⊥) → t ≡ false
no true h = absurd (h refl)
no false h = refl

pub tells : (t : Bool) (CapGoverns : Type 0) (design of_cap of_resistances : ℤ) → (t ≡ true → CapGoverns) → (CapGoverns → t ≡ true) →
    (t ≡ true → design ≡ of_cap) → (t ≡ false → design ≡ of_resistances) → Tells (pos (flag 1 t)) CapGoverns design of_cap of_resistances
tells t CapGoverns design of_cap of_resistances there back capped free =
    record {
      one = (λ e. there (is_one t e), λ h. one_of t (back h));
      zero = (λ e h. true≢false (sym (back h) ∙ is_zero t e), λ n. zero_of t (no t (λ e. n (there e))));
      capped = λ e. capped (is_one t e);
      free = λ e. free (is_zero t e);
    }
