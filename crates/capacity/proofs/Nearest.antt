-- The coefficient of a basement member is within its bounds, where what holds is in range. Assumes nothing.
use mathlib.Core.Path.{◌≡◌, refl, subst}
use mathlib.Core.Bool.{Bool, true, false, cond}
use Prim.Native.Nat.{ℕ}
use lib.Dec.{eqb}
use Rattle.std.specs.Prelude.{Option, None, Some}
use Rattle.std.specs.Option.{option_map}
use Rattle.exact.specs.Fraction.{Fraction}
use Rattle.coefficient.specs.declared.Settings.{Settings}
use Rattle.coefficient.specs.declared.Quotient.{Quotient}
use Rattle.coefficient.specs.Coefficient.{Capped}
use Rattle.coefficient.proofs.Bounds.{coefficient_capped}
use Rattle.members.specs.declared.Joint.{Joint}
use Rattle.members.specs.Hingeless.{joint_coefficient}
use Rattle.walls.specs.declared.WallBase.{WallBase}
use Rattle.walls.specs.Base.{wall_coefficient}
use Rattle.walls.proofs.Running.{coefficient_range}
use Rattle.context.specs.Context.{Context}
use Rattle.context.specs.Running.{SettingsRange}
use Rattle.context.proofs.Ranges.{joint_coefficient_range, wall_base_range}
use Rattle.rows.specs.Nearest.{nearest_coefficient}
use Rattle.capacity.proofs.Ranges.{ContextRange, no_some, same_some}

-- a fraction as the code has it
abbrev pub quotient : Fraction → Quotient
quotient a = record { num = a.num; den = a.den }

-- what holds of what is made of every thing that may be given holds of what is made
made : {A : Type 0} (P : Fraction → Type 0) (f : A → Fraction) (o : Option A) → ((x : A) → o ≡ Some x → P (f x)) → (a : Fraction) → option_map f o ≡ Some a → P a
made P f None k a e = absurd (no_some a e)
made P f (Some x) k a e = subst P (same_some (f x) a e) (k x refl)

pub nearest_capped : (h : Context) (s : Settings) → ContextRange h → SettingsRange s → (id place : ℕ) (a : Fraction) → nearest_coefficient h s id place ≡ Some a → Capped (quotient a)
nearest_capped h s range r id place a = by (eqb place 0)
  where
    of_joint : (j : Joint) → h.joints id ≡ Some j → Capped (quotient (joint_coefficient s j))
    of_joint j e = coefficient_capped (quotient (joint_coefficient s j)) refl (joint_coefficient_range s r j (range.joints id j e))

    of_wall : (b : WallBase) → h.wall ≡ Some b → Capped (quotient (wall_coefficient s.behaviour b))
    of_wall b e = coefficient_capped (quotient (wall_coefficient s.behaviour b)) refl (coefficient_range s.behaviour b (wall_base_range s.behaviour r.behaviour b (range.wall b e)))

    by : (b : Bool) → cond b (option_map (joint_coefficient s) (h.joints id)) (option_map (wall_coefficient s.behaviour) h.wall) ≡ Some a → Capped (quotient a)
    by true e = made (λ x. Capped (quotient x)) (joint_coefficient s) (h.joints id) of_joint a e
    by false e = made (λ x. Capped (quotient x)) (wall_coefficient s.behaviour) h.wall of_wall a e
