-- VR and MR of a basement member are strengths of which its shear row and its moment row tell. Assumes nothing.
use mathlib.Core.Path.{◌≡◌, refl}
use mathlib.Core.Bool.{Bool, true, false, true≢false, cond}
use mathlib.Core.List.{[], ◌∷◌}
use Rattle.std.specs.Prelude.{Option, None, Some}
use Prim.Native.Nat.{ℕ, ◌≤◌}
use lib.Dec.{lit<, eqb}
use lib.IntN.{ℤ, pos}
use Rattle.std.specs.Option.{option_map}
use Rattle.exact.specs.Fraction.{Fraction}
use Rattle.coefficient.specs.declared.Settings.{Settings}
use Rattle.claims.specs.Verdict.{flag}
use Rattle.members.specs.Hingeless.{joint_coefficient}
use Rattle.basement.specs.Basement.{basement_row, basement_shear_row, basement_moment_row}
use Rattle.walls.specs.Base.{wall_coefficient}
use Rattle.layout.specs.Number.{signed32}
use Rattle.layout.specs.Forms.{width}
use Rattle.layout.specs.Layouts.{forms_of, forms_in}
use Rattle.format.specs.Commands.{related, basement_of, command_of}
use Rattle.context.specs.Context.{Context, next, missing, absent}
use Rattle.rows.specs.Rows.{rows_of, rows_with}
use Rattle.rows.specs.Nearest.{nearest_coefficient}
use Rattle.strengthening.proofs.ReadRaised.{put}
use Rattle.strengthening.proofs.AlikeContexts.{alike_itself}
use Rattle.strengthening.proofs.StillInRange.{force_in_range, moment_in_range, still_in_range}
use Rattle.strengthening.proofs.RowRaised.{OneFlag, flag_1, flag_2, either_exceeds, RowRaised, row_raised}
use Rattle.strengthening.proofs.Strengths.{OneRaised, IsStrength, one_stands, but_4}

-- ---- basement members

module _ (bit : ℕ) (f : OneFlag bit (λ b. pos (flag bit b))) (a : Fraction) (z : ℤ) (e old new : ℕ) where
  basement_raised : old ≤ new → RowRaised (basement_row bit a z e old) (basement_row bit a z e new) 4 bit
  unfolding basement_row
  basement_raised l =
      row_raised (basement_row bit a z e old) (basement_row bit a z e new) 4 bit (λ b. pos (flag bit b)) f (but_4 (basement_row bit a z e old) _ _) _ _ refl refl (either_exceeds old new _ _ l)

-- the coefficient of the nearest possible hinge holds
made_of : {A : Type 0} (f : A → Fraction) (o : Option A) → missing o ≡ false → (a : Fraction) × (option_map f o ≡ Some a)
made_of f (Some x) m = (f x, refl)
made_of f None m = absurd (true≢false m)

nearest_there : (h : Context) (s : Settings) (id place : ℕ) → cond (eqb place 0) (missing (h.joints id)) (missing h.wall) ≡ false → (a : Fraction) × (nearest_coefficient h s id place ≡ Some a)
nearest_there h s id place m = by (eqb place 0) m
  where
    by : (t : Bool) → cond t (missing (h.joints id)) (missing h.wall) ≡ false → (a : Fraction) × (cond t (option_map (joint_coefficient s) (h.joints id)) (option_map (wall_coefficient s.behaviour) h.wall) ≡ Some a)
    by true k = made_of (joint_coefficient s) (h.joints id) k
    by false k = made_of (wall_coefficient s.behaviour) h.wall k

module _ (s : Settings) (a : Fraction) (v : ℕ → ℕ) (new : ℕ) (h : Context) (e : h.settings ≡ Some s) (n : nearest_coefficient h s (v 1) (v 0) ≡ Some a) where
  basement_VR_rows : v 6 ≤ new → OneRaised h (command_of 12 v) (command_of 12 (put 6 new v)) 0 4 1 (v 6) new
  unfolding command_of rows_of rows_with basement_row
  basement_VR_rows l =
      record {
        before = [];
        behind = basement_moment_row a (basement_of v) ∷ [];
        row = basement_shear_row a (basement_of v);
        other = basement_shear_row a (basement_of (put 6 new v));
        first = rw (e, n);
        second = rw (e, n);
        place = refl;
        raised = basement_raised 1 flag_1 a (signed32 (v 2)) (v 3) (v 6) new l;
        old_is = λ o b. refl;
        new_is = λ o b. refl;
      }

  basement_MR_rows : v 7 ≤ new → OneRaised h (command_of 12 v) (command_of 12 (put 7 new v)) 1 4 2 (v 7) new
  unfolding command_of rows_of rows_with basement_row
  basement_MR_rows l =
      record {
        before = basement_shear_row a (basement_of v) ∷ [];
        behind = [];
        row = basement_moment_row a (basement_of v);
        other = basement_moment_row a (basement_of (put 7 new v));
        first = rw (e, n);
        second = rw (e, n);
        place = refl;
        raised = basement_raised 2 flag_2 a (signed32 (v 4)) (v 5) (v 7) new l;
        old_is = λ o b. refl;
        new_is = λ o b. refl;
      }

pub basement_VR : IsStrength 12 6 0 4 1
unfolding related forms_of forms_in width command_of next absent
basement_VR =
    record {
      operand = record {
        four = refl;
        among = lit< tt;
        other = refl;
        ranged = λ v new l h. still_in_range _ _ 6 new refl refl refl (force_in_range new l) h;
        stands = λ v new. one_stands _ _ refl (λ h. refl) (λ h. alike_itself h);
      };
      rows = λ v new l h s e m. let (a, n) = nearest_there h s (v 1) (v 0) m in basement_VR_rows s a v new h e n l;
    }

pub basement_MR : IsStrength 12 7 1 4 2
unfolding related forms_of forms_in width command_of next absent
basement_MR =
    record {
      operand = record {
        four = refl;
        among = lit< tt;
        other = refl;
        ranged = λ v new l h. still_in_range _ _ 7 new refl refl refl (moment_in_range new l) h;
        stands = λ v new. one_stands _ _ refl (λ h. refl) (λ h. alike_itself h);
      };
      rows = λ v new l h s e m. let (a, n) = nearest_there h s (v 1) (v 0) m in basement_MR_rows s a v new h e n l;
    }
