-- What is read of the second job: every operand but the greater one is that of the first, so the command is the first's with that operand
-- put in. Assumes nothing.
use mathlib.Core.Path.{◌≡◌, refl, sym, ap, ap₂, ◌∙◌}
use mathlib.Core.Bool.{Bool, true, false, cond}
use mathlib.Core.List.{List}
use mathlib.Core.Logic.{◌⊎◌, inl, inr}
use Prim.Native.Nat.{ℕ, zero, suc, ◌+◌, ◌-◌, ◌≤◌, ◌<◌}
use native.Mathlib.Omega.{arith}
use native.Mathlib.Nat.{add-zero, add-suc, le_refl}
use lib.Dec.{eqb}
use lib.ListN.{get_or}
use borrow.Author.Tests.{eqb-true, eqb-false}
use Rattle.layout.specs.declared.Form.{Form}
use Rattle.layout.specs.declared.Form.TheVariants.{Id}
use Rattle.layout.specs.Number.{number}
use Rattle.layout.specs.Forms.{width}
use Rattle.layout.specs.Layouts.{forms_of}
use Rattle.layout.specs.Operands.{offset_of, operand, byte_at}
use Rattle.layout.proofs.OperandsRead.{offset_next}
use Rattle.format.specs.Commands.{command_of}
use Rattle.format.specs.Reading.{command_at}
use Rattle.format.proofs.CommandRead.{command_same, command_at_offset}
use Rattle.claims.proofs.Orders.{≤_or}
use Rattle.strengthening.specs.Raised.{Strength, begins, value, Raised}
use Rattle.strengthening.proofs.AlikeBytes.{AlikeBut, same_part}

-- ---- one operand ends before the other, or begins behind it

offset_further : (fs : List Form) (j d : ℕ) → offset_of fs j ≤ offset_of fs (j + d)
offset_further fs j zero = rw (add-zero j) (le_refl (offset_of fs j))
offset_further fs j (suc d) = rw (add-suc, offset_next fs (j + d)) (omega (arith, offset_further fs j d))

offset_grows : (fs : List Form) (j k : ℕ) → j ≤ k → offset_of fs j ≤ offset_of fs k
offset_grows fs j k l = let e : k ≡ j + (k - j) = omega arith in rw e (offset_further fs j (k - j))

-- operand i has four bytes
beside : (fs : List Form) (from i j : ℕ) → width (get_or fs i Id) ≡ 4 → (j ≡ i → ⊥) →
    (from + offset_of fs j + width (get_or fs j Id) ≤ from + offset_of fs i) ⊎ (from + offset_of fs i + 4 ≤ from + offset_of fs j)
beside fs from i j w n = by (≤_or (suc j) i)
  where
    by : (suc j ≤ i) ⊎ (i < suc j) → (from + offset_of fs j + width (get_or fs j Id) ≤ from + offset_of fs i) ⊎ (from + offset_of fs i + 4 ≤ from + offset_of fs j)
    by (inl l) = inl (omega (arith, offset_next fs j, offset_grows fs (suc j) i l))
    by (inr l) = inr (omega (arith, w, offset_next fs i, offset_grows fs (suc i) j (omega (arith, n))))

-- ---- the operands of the second job

-- operand i is another one
abbrev pub put : (i x : ℕ) → (ℕ → ℕ) → ℕ → ℕ
put i x v j = cond (eqb j i) x (v j)

abbrev pub FourBytes : Strength → Type 0
FourBytes s = width (get_or (forms_of s.byte) s.index Id) ≡ 4

-- the operands of its command, in each job
abbrev pub operands : List ℕ → Strength → ℕ → ℕ
operands job s = operand s.byte job s.from

abbrev pub operands_with : List ℕ → List ℕ → Strength → ℕ → ℕ
operands_with first second s = put s.index (value second s) (operands first s)

pub alike_but : {first second : List ℕ} {s : Strength} → Raised first second s → AlikeBut first second (begins s)
alike_but r = record { as_long = r.as_long; alike = r.alike }

module _ {first second : List ℕ} {s : Strength} (r : Raised first second s) (w : FourBytes s) where
  -- another operand
  operand_same : (j : ℕ) → (j ≡ s.index → ⊥) → operands second s j ≡ operands first s j
  unfolding operand
  operand_same j n =
      ap number (same_part (alike_but r) (s.from + offset_of (forms_of s.byte) j) (width (get_or (forms_of s.byte) j Id)) (beside (forms_of s.byte) s.from s.index j w n))

  pub operands_put : (j : ℕ) → operands second s j ≡ operands_with first second s j
  operands_put j = by (eqb j s.index) refl
    where
      by : (b : Bool) → eqb j s.index ≡ b → operands second s j ≡ cond b (value second s) (operands first s j)
      by true e = ap (operands second s) (eqb-true j s.index e)
      by false e = operand_same j (eqb-false j s.index e)

-- ---- the command that stands there, of the first job and of the second

pub command_read : (job : List ℕ) (start : ℕ) (s : Strength) → s.from ≡ start + 1 → byte_at job start ≡ s.byte → command_at job start ≡ command_of s.byte (operands job s)
command_read job start s f b =
    sym (command_at_offset job start) ∙ ap₂ (λ (k at : ℕ). command_of k (operand k job at)) b (sym f)

module _ {first second : List ℕ} {s : Strength} (r : Raised first second s) (w : FourBytes s) (start : ℕ) (f : s.from ≡ start + 1) (b : byte_at first start ≡ s.byte) where
  pub raised_read : command_at second start ≡ command_of s.byte (operands_with first second s)
  raised_read =
      command_read second start s f (r.alike start (inl (omega (arith, f))) ∙ b)
      ∙ command_same s.byte (operands second s) (operands_with first second s) (λ j l. operands_put r w j)
