-- Basement members in the words that `run` writes. 02, No. 9: "Annex B, B.2 [4], sizes members below the hinge zone by the coefficient of
-- the nearest possible hinge"; "Both reported values stray from the exact by under one unit, away from safety never." For every accepted
-- job and every basement member of it (proofs/Basement.antt, `basements_written`).
use Rattle.std.specs.Prelude.{◌≡◌, List, ◌∷◌, ◌++◌, ℕ, ◌+◌, ◌*◌, ◌≤◌, ℤ, length, Some}
use Rattle.exact.specs.Fraction.{Fraction, Proper}
use Rattle.coefficient.specs.declared.Settings.{Settings}
use Rattle.coefficient.specs.Coefficient.{fraction}
use Rattle.members.specs.declared.Joint.{Joint}
use Rattle.members.specs.Hingeless.{joint_coefficient}
use Rattle.basement.specs.declared.Basement.{Basement}
use Rattle.basement.specs.Basement.{basement_shear_row, basement_moment_row, Strays}
use Rattle.walls.specs.declared.Wall.{Wall}
use Rattle.walls.specs.declared.WallBase.{WallBase}
use Rattle.walls.specs.Base.{wall_coefficient}
use Rattle.format.specs.declared.Command.TheVariants.{Basement as basement}
use Rattle.job.specs.Placed.{Placed, accepted, placed, all_rows}
use Rattle.job.specs.Earlier.{latest_settings, latest_joint, latest_base}
use Rattle.job.specs.LatestWall.{wall_after}
use Rattle.capacity.specs.Calls.{rows_after}
use Rattle.capacity.specs.DemandThree.{row_read}

-- a is that of the members without hinges, for the joint given latest under the id before the member
pub record OfJoint (earlier : List Placed) (id : ℕ) (s : Settings) (a : Fraction) : Type 0 where
  pub joint : Joint
  pub latest : latest_joint id earlier ≡ Some joint
  pub is : a ≡ joint_coefficient s joint

-- a is that of the wall base given latest before the member, which the walk carries as a running value
pub record OfWall (earlier : List Placed) (s : Settings) (a : Fraction) : Type 0 where
  pub base : WallBase
  pub latest : latest_base earlier ≡ Some base
  pub is : a ≡ wall_coefficient s.behaviour base
  pub wall : Wall
  pub running_values : wall_after earlier ≡ Some wall
  pub running : fraction wall.coefficient ≡ a

-- a basement member behind these commands, and its rows n and n + 1 of the words
pub record BasementWritten (words : List ℤ) (n : ℕ) (earlier : List Placed) (id : ℕ) (m : Basement) : Type 0 where
  pub settings : Settings
  pub settings_given : latest_settings earlier ≡ Some settings
  -- the coefficient of the nearest possible hinge
  pub coefficient : Fraction
  pub is_proper : Proper coefficient
  pub of_joint : m.place ≡ 0 → OfJoint earlier id settings coefficient
  pub of_wall : m.place ≡ 1 → OfWall earlier settings coefficient
  -- words 2 to 7 of the shear row and of the moment row, which follows it
  pub shear_row : row_read words n ≡ basement_shear_row coefficient m
  pub moment_row : row_read words (n + 1) ≡ basement_moment_row coefficient m
  -- upper and lower of each, beside the exact values
  pub shear_strays : Strays coefficient m.nonseismic_shear m.seismic_shear (row_read words n)
  pub moment_strays : Strays coefficient m.nonseismic_moment m.seismic_moment (row_read words (n + 1))

abbrev pub BasementsWritten : List ℕ → Type 0
BasementsWritten job =
    (ps : List Placed) → placed job ≡ accepted ps → (earlier : List Placed) (p : Placed) (later : List Placed) → ps ≡ earlier ++ p ∷ later →
    (id : ℕ) (m : Basement) → p.command ≡ basement id m →
    (lent : List ℤ) → 8 * length (all_rows ps) ≤ length lent → BasementWritten (rows_after job lent) (length (all_rows earlier)) earlier id m
