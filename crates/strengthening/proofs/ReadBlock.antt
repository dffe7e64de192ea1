-- What is read of a block of the second job, where an operand of one of its sets is greater: every other set is the same, and that one has
-- the operand put in. Assumes nothing.
use mathlib.Core.Path.{◌≡◌, refl, sym, ap, ap₂, ◌∙◌}
use mathlib.Core.List.{List, [], ◌∷◌, ◌++◌}
use mathlib.Core.Logic.{◌⊎◌, inl, inr}
use Prim.Native.Nat.{ℕ, zero, suc, ◌+◌, ◌*◌, ◌≤◌, ◌<◌}
use native.Mathlib.Omega.{arith}
use lib.ListN.{length, get_or}
use Rattle.layout.specs.declared.Form.TheVariants.{Id}
use Rattle.layout.specs.Number.{number}
use Rattle.layout.specs.Forms.{width}
use Rattle.layout.specs.Layouts.{forms_of}
use Rattle.layout.specs.Operands.{offset_of, operand}
use Rattle.layout.proofs.OperandsRead.{offset_in_command}
use Rattle.layout.proofs.Widths.{widths}
use Rattle.walls.specs.declared.Storey.{Storey}
use Rattle.format.specs.declared.Command.TheVariants.{Storey as storey}
use Rattle.format.specs.Commands.{storey_of, command_of}
use Rattle.format.proofs.CommandRead.{command_same}
use Rattle.blocks.specs.Sets.{storey_at, storeys_at}
use Rattle.strengthening.specs.Raised.{Strength, begins, Raised}
use Rattle.strengthening.proofs.AlikeBytes.{same_part}
use Rattle.strengthening.proofs.ReadRaised.{FourBytes, alike_but, operands, operands_with, operands_put}

same_operands : (v w : ℕ → ℕ) → ((j : ℕ) → j < length (forms_of 7) → v j ≡ w j) → storey_of v ≡ storey_of w
unfolding command_of
same_operands v w h = let e : storey (storey_of v) ≡ storey (storey_of w) = command_same 7 v w h in cc

-- a set whose operands begin at an offset, of which one is a strength
abbrev pub at_set : (from i word bit : ℕ) → Strength
at_set from i word bit = record { byte = 7; from = from; index = i; word = word; bit = bit }

module _ {first second : List ℕ} {from i word bit : ℕ} (r : Raised first second (at_set from i word bit)) (four : FourBytes (at_set from i word bit)) (among : i < length (forms_of 7)) where
  abbrev s : Strength
  s = at_set from i word bit

  -- a set before or behind that one
  away : (at : ℕ) → (at + 24 ≤ from) ⊎ (from + 24 ≤ at) → storey_at second at ≡ storey_at first at
  unfolding storey_at operand
  away at h =
      same_operands (operand 7 second at) (operand 7 first at)
      (λ j l. ap number (same_part (alike_but r) (at + offset_of (forms_of 7) j) (width (get_or (forms_of 7) j Id)) (beside j l h)))
    where
      beside : (j : ℕ) → j < length (forms_of 7) → (at + 24 ≤ from) ⊎ (from + 24 ≤ at) →
          (at + offset_of (forms_of 7) j + width (get_or (forms_of 7) j Id) ≤ begins s) ⊎ (begins s + 4 ≤ at + offset_of (forms_of 7) j)
      beside j l (inl m) = inl (omega (arith, offset_in_command 7 j l, widths.storey))
      beside j l (inr m) = inr (omega (arith, offset_in_command 7 i among, four, widths.storey))

  all_away : (n at : ℕ) → from + 24 ≤ at → storeys_at n second at ≡ storeys_at n first at
  unfolding storeys_at
  all_away zero at h = refl
  all_away (suc n) at h = ap₂ ◌∷◌ (away at (inr h)) (all_away n (at + 24) (omega arith))

  its_set : storey_at second from ≡ storey_of (operands_with first second s)
  unfolding storey_at
  its_set = same_operands (operands second s) (operands_with first second s) (λ j l. operands_put r four j)

  -- the sets of the first job are these, and those of the second are they with another in the place of one
  pub record SetPut (n at : ℕ) (ss : List Storey) (t : Storey) (rest : List Storey) : Type 0 where
    pub old : t ≡ storey_of (operands first s)
    pub sets : storeys_at n second at ≡ ss ++ storey_of (operands_with first second s) ∷ rest

  pub set_put : (n at : ℕ) (ss : List Storey) (t : Storey) (rest : List Storey) → storeys_at n first at ≡ ss ++ t ∷ rest → from ≡ at + 24 * length ss → SetPut n at ss t rest
  unfolding storeys_at storey_at
  set_put zero at [] t rest q l = absurd cc
  set_put zero at (u ∷ ss) t rest q l = absurd cc
  set_put (suc n) at [] t rest q l =
      let here : from ≡ at = omega (arith, l) in
      let one : storey_at first at ≡ t = cc in
      let others : storeys_at n first (at + 24) ≡ rest = cc in
      record {
        old = sym one ∙ ap (storey_at first) (sym here);
        sets = ap₂ ◌∷◌ (ap (storey_at second) (sym here) ∙ its_set) (all_away n (at + 24) (omega (arith, l)) ∙ others);
      }
  set_put (suc n) at (u ∷ ss) t rest q l =
      let one : storey_at first at ≡ u = cc in
      let others : storeys_at n first (at + 24) ≡ ss ++ t ∷ rest = cc in
      let k = set_put n (at + 24) ss t rest others (omega (arith, l)) in
      record { old = k.old; sets = ap₂ ◌∷◌ (away at (inl (omega (arith, l))) ∙ one) k.sets }
