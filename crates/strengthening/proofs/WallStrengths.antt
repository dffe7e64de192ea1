-- VR of a wall base, and VR and MS of a storey, are strengths of which their rows tell. Assumes nothing.
use mathlib.Core.Path.{◌≡◌, refl}
use mathlib.Core.Bool.{Bool}
use Rattle.std.specs.Prelude.{Some}
use Prim.Native.Nat.{ℕ, ◌+◌, ◌*◌, ◌≤◌}
use lib.Dec.{lit<, leb, ltb}
use lib.IntN.{pos}
use Rattle.coefficient.specs.declared.Settings.{Settings}
use Rattle.claims.specs.Verdict.{flag}
use Rattle.walls.specs.declared.WallBase.{WallBase}
use Rattle.cubes.specs.Root.{least_root}
use Rattle.walls.specs.Base.{wall_coefficient, base_shear, design_moment, base_row, base_row_from}
use Rattle.walls.specs.Storey.{design_shear, storey_row, storey_row_from}
use Rattle.layout.specs.Forms.{width}
use Rattle.layout.specs.Layouts.{forms_of, forms_in}
use Rattle.format.specs.Commands.{related, wall_base_of, storey_of, command_of}
use Rattle.context.specs.Context.{Context, next, absent}
use Rattle.context.proofs.Shown.{present}
use Rattle.rows.specs.Rows.{rows_of, rows_with}
use Rattle.strengthening.proofs.ReadRaised.{put}
use Rattle.strengthening.proofs.AlikeContexts.{alike_itself}
use Rattle.strengthening.proofs.StillInRange.{force_in_range, moment_in_range, still_in_range}
use Rattle.strengthening.proofs.RowRaised.{flag_1_beside_2, flag_1_beside_128, flag_2_beside_1, exceeds_less, RowRaised, row_raised}
use Rattle.strengthening.proofs.Strengths.{OneRaised, IsStrength, one_stands, only_row, but_3, but_5}

-- ---- wall bases

module _ (q : ℕ) (v : ℕ → ℕ) (new : ℕ) (l : v 5 ≤ new) where
  abbrev light : Bool
  light = leb (v 0) (4 * v 1)

  base_raised : RowRaised (base_row q (wall_base_of v)) (base_row q (wall_base_of (put 5 new v))) 3 1
  unfolding base_row base_row_from
  base_raised =
      row_raised (base_row q (wall_base_of v)) (base_row q (wall_base_of (put 5 new v))) 3 1 (λ t. pos (flag 1 t + flag 128 light)) (flag_1_beside_128 light) (but_3 (base_row q (wall_base_of v)) _ _)
      (ltb (v 5) (base_shear q (wall_base_of v))) (ltb new (base_shear q (wall_base_of v))) refl refl (exceeds_less (v 5) new (base_shear q (wall_base_of v)) l)

-- no row of a storey takes VR of the base
pub base_VR : IsStrength 6 5 0 3 1
unfolding related forms_of forms_in width command_of next absent rows_of rows_with base_row base_row_from
base_VR =
    record {
      operand = record {
        four = refl;
        among = lit< tt;
        other = refl;
        ranged = λ v new l h. still_in_range _ _ 5 new refl refl refl (force_in_range new l) h;
        stands = λ v new. one_stands _ _ refl (λ h. refl) (λ h. record { settings = refl; joints = refl; wall = record { resistance = refl; moment = refl; shear = refl }; ground = refl });
      };
      rows = λ v new l h s e a. only_row (base_row s.behaviour (wall_base_of v)) (base_row s.behaviour (wall_base_of (put 5 new v))) (rw e) (rw e) (base_raised s.behaviour v new l) (λ o b. refl) (λ o b. refl);
    }

-- ---- storeys

module _ (q : ℕ) (b : WallBase) (v : ℕ → ℕ) where
  -- the shear and the moment of the storey
  abbrev shear : ℕ
  shear = design_shear (wall_coefficient q b) (least_root (v 2) (v 3)) (v 1) (base_shear q b)

  abbrev moment : ℕ
  moment = design_moment (wall_coefficient q b) (least_root (v 2) (v 3)) (v 0) b.resistance

  pub storey_VR_raised : (new : ℕ) → v 4 ≤ new → RowRaised (storey_row q b (storey_of v)) (storey_row q b (storey_of (put 4 new v))) 3 1
  unfolding storey_row storey_row_from
  storey_VR_raised new l =
      row_raised (storey_row q b (storey_of v)) (storey_row q b (storey_of (put 4 new v))) 3 1 (λ t. pos (flag 1 t + flag 2 (ltb (v 5) moment))) (flag_1_beside_2 (ltb (v 5) moment)) (but_3 (storey_row q b (storey_of v)) _ _)
      (ltb (v 4) shear) (ltb new shear) refl refl (exceeds_less (v 4) new shear l)

  pub storey_MS_raised : (new : ℕ) → v 5 ≤ new → RowRaised (storey_row q b (storey_of v)) (storey_row q b (storey_of (put 5 new v))) 5 2
  unfolding storey_row storey_row_from
  storey_MS_raised new l =
      row_raised (storey_row q b (storey_of v)) (storey_row q b (storey_of (put 5 new v))) 5 2 (λ t. pos (flag 1 (ltb (v 4) shear) + flag 2 t)) (flag_2_beside_1 (ltb (v 4) shear)) (but_5 (storey_row q b (storey_of v)) _ _)
      (ltb (v 5) moment) (ltb new moment) refl refl (exceeds_less (v 5) new moment l)

-- where the settings and the base hold
module _ (s : Settings) (b : WallBase) (v : ℕ → ℕ) (new : ℕ) (h : Context) (e : h.settings ≡ Some s) (w : h.wall ≡ Some b) where
  storey_VR_rows : v 4 ≤ new → OneRaised h (command_of 7 v) (command_of 7 (put 4 new v)) 0 3 1 (v 4) new
  unfolding command_of rows_of rows_with storey_row storey_row_from
  storey_VR_rows l = only_row (storey_row s.behaviour b (storey_of v)) (storey_row s.behaviour b (storey_of (put 4 new v))) (rw (e, w)) (rw (e, w)) (storey_VR_raised s.behaviour b v new l) (λ o k. refl) (λ o k. refl)

  storey_MS_rows : v 5 ≤ new → OneRaised h (command_of 7 v) (command_of 7 (put 5 new v)) 0 5 2 (v 5) new
  unfolding command_of rows_of rows_with storey_row storey_row_from
  storey_MS_rows l = only_row (storey_row s.behaviour b (storey_of v)) (storey_row s.behaviour b (storey_of (put 5 new v))) (rw (e, w)) (rw (e, w)) (storey_MS_raised s.behaviour b v new l) (λ o k. refl) (λ o k. refl)

pub storey_VR : IsStrength 7 4 0 3 1
unfolding related forms_of forms_in width command_of next absent rows_of rows_with storey_row storey_row_from
storey_VR =
    record {
      operand = record {
        four = refl;
        among = lit< tt;
        other = refl;
        ranged = λ v new l h. still_in_range _ _ 4 new refl refl refl (force_in_range new l) h;
        stands = λ v new. one_stands _ _ refl (λ h. refl) (λ h. alike_itself h);
      };
      rows = λ v new l h s e a.
          let (b, w) = present h.wall a in
          storey_VR_rows s b v new h e w l;
    }

pub storey_MS : IsStrength 7 5 0 5 2
unfolding related forms_of forms_in width command_of next absent rows_of rows_with storey_row storey_row_from
storey_MS =
    record {
      operand = record {
        four = refl;
        among = lit< tt;
        other = refl;
        ranged = λ v new l h. still_in_range _ _ 5 new refl refl refl (moment_in_range new l) h;
        stands = λ v new. one_stands _ _ refl (λ h. refl) (λ h. alike_itself h);
      };
      rows = λ v new l h s e a.
          let (b, w) = present h.wall a in
          storey_MS_rows s b v new h e w l;
    }
