-- VR of a column, a beam and a member without hinges is a strength of which its row tells. Assumes nothing.
use mathlib.Core.Path.{◌≡◌, refl}
use mathlib.Core.Bool.{Bool, true, false, ◌||◌}
use Rattle.std.specs.Prelude.{Some}
use Prim.Native.Nat.{ℕ, ◌≤◌}
use lib.Dec.{lit<}
use lib.IntN.{pos}
use Rattle.coefficient.specs.declared.Settings.{Settings}
use Rattle.claims.specs.Verdict.{flag}
use Rattle.members.specs.declared.Joint.{Joint}
use Rattle.members.specs.Column.{column_row}
use Rattle.members.specs.Beam.{beam_row}
use Rattle.members.specs.Hingeless.{hingeless_row}
use Rattle.layout.specs.Forms.{width}
use Rattle.layout.specs.Layouts.{forms_of, forms_in}
use Rattle.format.specs.Commands.{related, column_of, beam_of, hingeless_of, command_of}
use Rattle.context.specs.Context.{Context, next, missing, absent}
use Rattle.context.proofs.Shown.{present}
use Rattle.rows.specs.Rows.{rows_of, rows_with}
use Rattle.strengthening.proofs.ReadRaised.{put}
use Rattle.strengthening.proofs.AlikeContexts.{alike_itself}
use Rattle.strengthening.proofs.StillInRange.{force_in_range, still_in_range}
use Rattle.strengthening.proofs.RowRaised.{flag_1, exceeds_less, either_exceeds, RowRaised, row_raised}
use Rattle.strengthening.proofs.Strengths.{OneRaised, IsStrength, one_stands, only_row, but_3, but_4}

-- ---- columns, beams and members without hinges

column_raised : (q : ℕ) (v : ℕ → ℕ) (new : ℕ) → v 6 ≤ new → RowRaised (column_row q (column_of v)) (column_row q (column_of (put 6 new v))) 3 1
unfolding column_row
column_raised q v new l =
    row_raised (column_row q (column_of v)) (column_row q (column_of (put 6 new v))) 3 1 (λ b. pos (flag 1 b)) flag_1 (but_3 (column_row q (column_of v)) _ _) _ _ refl refl
    (exceeds_less (v 6) new _ l)

pub column_VR : IsStrength 3 6 0 3 1
unfolding related forms_of forms_in width command_of next absent rows_of rows_with column_row
column_VR =
    record {
      operand = record {
        four = refl;
        among = lit< tt;
        other = refl;
        ranged = λ v new l h. still_in_range _ _ 6 new refl refl refl (force_in_range new l) h;
        stands = λ v new. one_stands _ _ refl (λ h. refl) (λ h. alike_itself h);
      };
      rows = λ v new l h s e a. only_row (column_row s.behaviour (column_of v)) (column_row s.behaviour (column_of (put 6 new v))) (rw e) (rw e) (column_raised s.behaviour v new l) (λ o b. refl) (λ o b. refl);
    }

beam_raised : (q : ℕ) (v : ℕ → ℕ) (new : ℕ) → v 7 ≤ new → RowRaised (beam_row q (beam_of v)) (beam_row q (beam_of (put 7 new v))) 4 1
unfolding beam_row
beam_raised q v new l =
    row_raised (beam_row q (beam_of v)) (beam_row q (beam_of (put 7 new v))) 4 1 (λ b. pos (flag 1 b)) flag_1 (but_4 (beam_row q (beam_of v)) _ _) _ _ refl refl
    (either_exceeds (v 7) new _ _ l)

pub beam_VR : IsStrength 4 7 0 4 1
unfolding related forms_of forms_in width command_of next absent rows_of rows_with beam_row
beam_VR =
    record {
      operand = record {
        four = refl;
        among = lit< tt;
        other = refl;
        ranged = λ v new l h. still_in_range _ _ 7 new refl refl refl (force_in_range new l) h;
        stands = λ v new. one_stands _ _ refl (λ h. refl) (λ h. alike_itself h);
      };
      rows = λ v new l h s e a. only_row (beam_row s.behaviour (beam_of v)) (beam_row s.behaviour (beam_of (put 7 new v))) (rw e) (rw e) (beam_raised s.behaviour v new l) (λ o b. refl) (λ o b. refl);
    }

either_missing : (a b : Bool) → (a || b) ≡ false → (a ≡ false) × (b ≡ false)
either_missing false b e = (refl, e)
either_missing true b e = cc

module _ (s : Settings) (i j : Joint) (v : ℕ → ℕ) (new : ℕ) (l : v 6 ≤ new) where
  hingeless_raised : RowRaised (hingeless_row s i j (hingeless_of v)) (hingeless_row s i j (hingeless_of (put 6 new v))) 4 1
  unfolding hingeless_row
  hingeless_raised =
      row_raised (hingeless_row s i j (hingeless_of v)) (hingeless_row s i j (hingeless_of (put 6 new v))) 4 1 (λ b. pos (flag 1 b)) flag_1 (but_4 (hingeless_row s i j (hingeless_of v)) _ _) _ _ refl refl
      (either_exceeds (v 6) new _ _ l)

  -- where the settings and the joints hold
  hingeless_rows : (h : Context) → h.settings ≡ Some s → h.joints (v 1) ≡ Some i → h.joints (v 2) ≡ Some j → OneRaised h (command_of 5 v) (command_of 5 (put 6 new v)) 0 4 1 (v 6) new
  unfolding command_of rows_of rows_with hingeless_row
  hingeless_rows h e ei ej = only_row (hingeless_row s i j (hingeless_of v)) (hingeless_row s i j (hingeless_of (put 6 new v))) (rw (e, ei, ej)) (rw (e, ei, ej)) hingeless_raised (λ o b. refl) (λ o b. refl)

pub hingeless_VR : IsStrength 5 6 0 4 1
unfolding related forms_of forms_in width command_of next absent rows_of rows_with hingeless_row
hingeless_VR =
    record {
      operand = record {
        four = refl;
        among = lit< tt;
        other = refl;
        ranged = λ v new l h. still_in_range _ _ 6 new refl refl refl (force_in_range new l) h;
        stands = λ v new. one_stands _ _ refl (λ h. refl) (λ h. alike_itself h);
      };
      rows = λ v new l h s e a.
          let m = either_missing (missing (h.joints (v 1))) (missing (h.joints (v 2))) a in
          let (i, ei) = present (h.joints (v 1)) m.0 in
          let (j, ej) = present (h.joints (v 2)) m.1 in
          hingeless_rows s i j v new l h e ei ej;
    }
