-- The operand at fault, found operand by operand in the file: the first that is out of its range, else that of the relation.
-- Assumes nothing.
use mathlib.Core.Bool.{true, false}
use mathlib.Core.List.{List, [], ◌∷◌}
use mathlib.Core.Path.{◌≡◌, refl, ap}
use Prim.Native.Nat.{ℕ, zero, suc, ◌<◌}
use native.Mathlib.Nat.{not-suc-le-zero}
use native.Mathlib.Omega.{arith}
use lib.ListN.{length, get_or}
use borrow.Author.Tests.{lt-ltb, le-ltb}
use Rattle.layout.specs.declared.Form.{Form}
use Rattle.layout.specs.declared.Form.TheVariants.{Id}
use Rattle.layout.specs.Forms.{form_in_range}
use Rattle.layout.specs.Layouts.{forms_of}
use Rattle.layout.proofs.OperandsRead.{at}
use Rattle.format.specs.declared.Command.{Command}
use Rattle.format.specs.Commands.{byte_of, operands_of, first_outside, relation_names, operand_at_fault}

-- each of the first i operands is in its range
abbrev pub InBefore : List Form → List ℕ → ℕ → Type 0
InBefore fs vs i = (k : ℕ) → k < i → form_in_range (get_or fs k Id) (at vs k) ≡ true

first_is : (fs : List Form) (vs : List ℕ) (i : ℕ) → length vs ≡ length fs → i < length fs → InBefore fs vs i → form_in_range (get_or fs i Id) (at vs i) ≡ false → first_outside fs vs ≡ i
unfolding first_outside
first_is [] vs i e l b h = absurd (not-suc-le-zero l)
first_is (f ∷ fs) [] i e l b h = absurd (none (length fs) e)
  where
    none : (n : ℕ) → 0 ≡ suc n → ⊥
    none n e = omega arith
first_is (f ∷ fs) (v ∷ vs) zero e l b h = rw h
first_is (f ∷ fs) (v ∷ vs) (suc i) e l b h =
    rw (b 0 (omega arith)) (ap suc (first_is fs vs i (omega arith) (omega arith) (λ k m. b (suc k) (omega arith)) h))

first_none : (fs : List Form) (vs : List ℕ) → length vs ≡ length fs → InBefore fs vs (length fs) → first_outside fs vs ≡ length fs
unfolding first_outside
first_none [] vs e b = refl
first_none (f ∷ fs) [] e b = absurd (none (length fs) e)
  where
    none : (n : ℕ) → 0 ≡ suc n → ⊥
    none n e = omega arith
first_none (f ∷ fs) (v ∷ vs) e b = rw (b 0 (omega arith)) (ap suc (first_none fs vs (omega arith) (λ k m. b (suc k) (omega arith))))

-- a command with this byte and these operands
module _ (c : Command) (byte : ℕ) (vs : List ℕ) (e : byte_of c ≡ byte) (o : operands_of c ≡ vs) (n : length vs ≡ length (forms_of byte)) where
  pub operand_found : (i : ℕ) → i < length (forms_of byte) → InBefore (forms_of byte) vs i → form_in_range (get_or (forms_of byte) i Id) (at vs i) ≡ false → operand_at_fault c ≡ i
  unfolding operand_at_fault
  operand_found i l h f = rw (e, o, first_is (forms_of byte) vs i n l h f, lt-ltb i (length (forms_of byte)) l)

  pub relation_found : InBefore (forms_of byte) vs (length (forms_of byte)) → operand_at_fault c ≡ relation_names byte
  unfolding operand_at_fault
  relation_found h = rw (e, o, first_none (forms_of byte) vs n h, le-ltb (length (forms_of byte)) (length (forms_of byte)) (omega arith))
