-- A command made of operands has those operands and its byte: reading loses nothing. Assumes nothing.
use mathlib.Core.Bool.{true}
use mathlib.Core.List.{List, [], ◌∷◌}
use mathlib.Core.Path.{◌≡◌, refl, ap, subst}
use Prim.Native.Nat.{ℕ, zero, suc}
use lib.Dec.{lit<}
use lib.ListN.{length}
use Rattle.layout.specs.Forms.{width}
use Rattle.layout.specs.Layouts.{known, forms_of, forms_in}
use Rattle.format.specs.Commands.{byte_of, operands_of, command_of}
use Rattle.layout.proofs.Numbers.{bits_of_signed}
use Rattle.layout.proofs.OperandsRead.{at, Fit}
use Rattle.layout.proofs.KnownBytes.{each_byte, not_both, no_forms}
use Rattle.format.proofs.OtherBytes.{command_other}

firsts : ℕ → (ℕ → ℕ) → List ℕ
firsts zero v = []
firsts (suc n) v = v 0 ∷ firsts n (λ i. v (suc i))

listed : (vs : List ℕ) → firsts (length vs) (at vs) ≡ vs
unfolding firsts
listed [] = refl
listed (v ∷ vs) = ap (λ (l : List ℕ). v ∷ l) (listed vs)

listed_to : (n : ℕ) (vs : List ℕ) → length vs ≡ n → firsts n (at vs) ≡ vs
listed_to n vs e = subst (λ (k : ℕ). firsts k (at vs) ≡ vs) e (listed vs)

abbrev Back : ℕ → Type 0
Back byte = (vs : List ℕ) → length vs ≡ length (forms_of byte) → Fit byte (at vs) → operands_of (command_of byte (at vs)) ≡ vs

pub operands_back : (byte : ℕ) (vs : List ℕ) → length vs ≡ length (forms_of byte) → Fit byte (at vs) → operands_of (command_of byte (at vs)) ≡ vs
unfolding forms_of forms_in command_of width firsts
operands_back =
    each_byte Back
    (λ vs e f. listed_to 0 vs e)
    (λ vs e f. listed_to 3 vs e)
    (λ vs e f. listed_to 4 vs e)
    (λ vs e f. listed_to 7 vs e)
    (λ vs e f. rw (bits_of_signed (at vs 5) (f 5 (lit< tt))) (listed_to 8 vs e))
    (λ vs e f. rw (bits_of_signed (at vs 5) (f 5 (lit< tt))) (listed_to 7 vs e))
    (λ vs e f. listed_to 6 vs e)
    (λ vs e f. listed_to 6 vs e)
    (λ vs e f. listed_to 3 vs e)
    (λ vs e f.
    rw (
      bits_of_signed (at vs 4) (f 4 (lit< tt)),
      bits_of_signed (at vs 5) (f 5 (lit< tt)),
      bits_of_signed (at vs 6) (f 6 (lit< tt)),
      bits_of_signed (at vs 7) (f 7 (lit< tt)),
      bits_of_signed (at vs 8) (f 8 (lit< tt)),
      bits_of_signed (at vs 9) (f 9 (lit< tt)),
      bits_of_signed (at vs 10) (f 10 (lit< tt)),
      bits_of_signed (at vs 11) (f 11 (lit< tt)),
    ) (listed_to 15 vs e))
    (λ vs e f. listed_to 5 vs e)
    (λ vs e f. rw (bits_of_signed (at vs 2) (f 2 (lit< tt)), bits_of_signed (at vs 4) (f 4 (lit< tt))) (listed_to 8 vs e))
    (λ vs e f. listed_to 0 vs e)
    (λ b h vs e f. rw (command_other b (at vs) h) (listed_to 0 vs (rw (no_forms b h) at e)))

pub byte_back : (byte : ℕ) (v : ℕ → ℕ) → known byte ≡ true → byte_of (command_of byte v) ≡ byte
unfolding command_of
byte_back byte v =
    each_byte (λ b. known b ≡ true → byte_of (command_of b v) ≡ b) (λ h. refl) (λ h. refl) (λ h. refl) (λ h. refl) (λ h. refl)
    (λ h. refl) (λ h. refl) (λ h. refl) (λ h. refl) (λ h. refl) (λ h. refl) (λ h. refl) (λ h. refl) (λ b h k. not_both b k h) byte

-- the forms of a command made of operands, at any byte
pub forms_back : (byte : ℕ) (v : ℕ → ℕ) → forms_of (byte_of (command_of byte v)) ≡ forms_of byte
unfolding forms_of forms_in command_of
forms_back byte v =
    each_byte (λ b. forms_of (byte_of (command_of b v)) ≡ forms_of b) refl refl refl refl refl refl refl refl refl refl refl refl refl
    (λ b h. rw (command_other b v h, no_forms b h)) byte
