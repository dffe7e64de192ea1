-- The latest wall as the walk carries it. 02, No. 4: "the coefficient and the base shear of a forty-storey wall are to be worked out
-- once, at the base command, and kept as running values from there onwards"; "at every storey of every job the two are those that
-- document 01 gives for the latest base command". The walk here is one with room for rows; one without writes no row and works out
-- no coefficient.
use Rattle.std.specs.Prelude.{◌≡◌, true, List, [], ◌∷◌, ◌++◌, ℕ, ℤ, length, Option, Some}
use Rattle.coefficient.specs.declared.Settings.{Settings}
use Rattle.coefficient.specs.Coefficient.{fraction}
use Rattle.walls.specs.declared.WallBase.{WallBase}
use Rattle.walls.specs.declared.Storey.{Storey}
use Rattle.walls.specs.declared.Wall.{Wall}
use Rattle.walls.specs.Base.{wall_coefficient, base_shear}
use Rattle.format.specs.declared.Command.TheVariants.{Storey as storey}
use Rattle.context.specs.Running.{room_for, no_joints, running, start_state}
use Rattle.rows.specs.Rows.{words}
use Rattle.rows.specs.Writing.{running_storey_row}
use Rattle.job.specs.Placed.{Placed, Entry, placed_in, placed_all, rows_at}
use Rattle.job.specs.Earlier.{latest_settings, latest_base}
use Rattle.job.specs.Walking.{Paused, state_through, first_place, walk_from}
use Rattle.job.specs.Reached.{reached, located, place_after, StandsAfter}

-- the running values in the state after these commands
abbrev pub wall_after : List Placed → Option Wall
wall_after earlier = running (state_through true start_state (located earlier)).wall

-- they are those of 01 for this base: a and W by the settings, and MR
pub record Carries (earlier : List Placed) (b : WallBase) : Type 0 where
  pub settings : Settings
  pub given : latest_settings earlier ≡ Some settings
  pub wall : Wall
  pub running_values : wall_after earlier ≡ Some wall
  pub coefficient : fraction wall.coefficient ≡ wall_coefficient settings.behaviour b
  pub shear : wall.shear ≡ base_shear settings.behaviour b
  pub resistance : wall.resistance ≡ b.resistance

-- ---- at every place

-- wherever the walk stands behind a wall base, at whatever command of the file, and at one that it refuses too: they are those of the
-- latest one
abbrev pub AtEveryPlace : List ℕ → Type 0
AtEveryPlace job =
    (before later : List Entry) → reached job ≡ before ++ later → (b : WallBase) → latest_base (placed_all before) ≡ Some b →
    (running (place_after true first_place before).state.wall ≡ wall_after (placed_all before)) × Carries (placed_all before) b

-- ---- at every storey, given by itself or in a block

pub record AtStorey (job : List ℕ) (earlier : List Placed) (p : Placed) (s : Storey) : Type 0 where
  -- the latest base command before the storey; it is what holds there
  pub base : WallBase
  pub latest : latest_base earlier ≡ Some base
  pub holds : p.context.wall ≡ Some base
  -- the command of the file that gives the storey, those before it, and the storeys of the same block before this one
  pub before : List Entry
  pub entry : Entry
  pub sets : List Placed
  pub among : (later : List Placed) × (placed_in entry ≡ sets ++ p ∷ later)
  pub earlier_are : earlier ≡ placed_all before ++ sets
  -- the walk stands at that command: with a budget of the commands of the file before it it pauses there, with a larger one it goes on
  pub offset : (place_after true first_place before).offset ≡ entry.offset
  pub pauses : (memory : List ℤ) → room_for (length memory) ≡ true → (walk_from true (length before) job first_place no_joints memory).answer ≡ Paused (place_after true first_place before)
  pub stands : (memory : List ℤ) → room_for (length memory) ≡ true → StandsAfter true job no_joints memory before
  -- the state that it holds there is the one after all commands before the storey: those of the same block leave it as it was
  pub state : (place_after true first_place before).state ≡ state_through true start_state (located earlier)
  -- that state carries a, W and MR of the base
  pub carries : Carries earlier base
  -- and the storey's row comes from these three and its operands
  pub row : rows_at p ≡ words p.offset 7 (running_storey_row carries.wall s) ∷ []

abbrev pub AtEveryStorey : List ℕ → Type 0
AtEveryStorey job =
    (earlier : List Placed) (p : Placed) (later : List Placed) → placed_all (reached job) ≡ earlier ++ p ∷ later → (s : Storey) → p.command ≡ storey s → AtStorey job earlier p s
