-- What is shown of a strength, for each command that has one: with a greater one in its place the command stands where it stood, and of its
-- rows that one which tells of it is stronger. Assumes nothing.
use mathlib.Core.Path.{◌≡◌, refl, ◌∙◌}
use mathlib.Core.Bool.{true, false}
use mathlib.Core.List.{List, [], ◌∷◌, ◌++◌}
use Rattle.std.specs.Prelude.{Some}
use Prim.Native.Nat.{ℕ, ◌≤◌, ◌<◌}
use lib.Dec.{eqb}
use lib.IntN.{ℤ, pos}
use lib.ListN.{length, get_or}
use Rattle.coefficient.specs.declared.Settings.{Settings}
use Rattle.claims.specs.declared.Row.{Row}
use Rattle.layout.specs.declared.Form.TheVariants.{Id}
use Rattle.layout.specs.Forms.{width}
use Rattle.layout.specs.Layouts.{forms_of}
use Rattle.format.specs.declared.Command.{Command}
use Rattle.format.specs.Commands.{byte_of, in_range, command_of}
use Rattle.blocks.specs.FileCommands.{one}
use Rattle.context.specs.Context.{Context, next, absent}
use Rattle.rows.specs.Rows.{rows_of, words}
use Rattle.strengthening.specs.Raised.{word_of}
use Rattle.strengthening.proofs.ReadRaised.{put}
use Rattle.strengthening.proofs.AlikeContexts.{Alike}
use Rattle.strengthening.proofs.Swapped.{StandsFor}
use Rattle.strengthening.proofs.RowRaised.{RowRaised, SameWords}

-- ---- what is shown of a strength

-- of the rows of two commands that differ in a strength, the one counted `own` from 0 is stronger, and all others are the same
pub record OneRaised (h : Context) (c d : Command) (own word bit old new : ℕ) : Type 0 where
  pub before : List Row
  pub behind : List Row
  pub row : Row
  pub other : Row
  pub first : rows_of h c ≡ before ++ row ∷ behind
  pub second : rows_of h d ≡ before ++ other ∷ behind
  pub place : length before ≡ own
  pub raised : RowRaised row other word bit
  pub old_is : (offset byte : ℕ) → word_of (words offset byte row) word ≡ pos old
  pub new_is : (offset byte : ℕ) → word_of (words offset byte other) word ≡ pos new

-- operand i of the commands with this byte has four bytes, and nothing depends on it but their own rows
pub record IsOperand (byte i : ℕ) : Type 0 where
  pub four : width (get_or (forms_of byte) i Id) ≡ 4
  pub among : i < length (forms_of byte)
  -- it is no settings
  pub other : eqb byte 1 ≡ false
  -- a force or a moment in its range leaves the command in range
  pub ranged : (v : ℕ → ℕ) (new : ℕ) → new ≤ 100000000 → in_range (command_of byte v) ≡ true → in_range (command_of byte (put i new v)) ≡ true
  pub stands : (v : ℕ → ℕ) (new : ℕ) → StandsFor (one (command_of byte v)) (one (command_of byte (put i new v)))

-- it is a strength, of which their row `own` tells
pub record IsStrength (byte i own word bit : ℕ) : Type 0 where
  pub operand : IsOperand byte i
  pub rows : (v : ℕ → ℕ) (new : ℕ) → v i ≤ new → (h : Context) (s : Settings) → h.settings ≡ Some s → absent h (command_of byte v) ≡ false →
      OneRaised h (command_of byte v) (command_of byte (put i new v)) own word bit (v i) new

-- a command by itself stands where another stood that has its byte, asks for the same and leaves the same
pub one_stands : (c d : Command) → byte_of d ≡ byte_of c → ((h : Context) → absent h d ≡ absent h c) → ((h : Context) → Alike (next h c) (next h d)) → StandsFor (one c) (one d)
one_stands c d b a n =
    record {
      byte = b;
      width = rw b;
      counts = λ counts. rw b;
      leaves = n;
      passes = λ counts h p r.
          record { other = rw b p.other; few = rw b p.few; buildings = rw b p.buildings; settings = rw b p.settings; range = r; present = a h ∙ p.present };
    }

-- of a command with one row
pub only_row : {h : Context} {c d : Command} {word bit old new : ℕ} (row other : Row) → rows_of h c ≡ row ∷ [] → rows_of h d ≡ other ∷ [] → RowRaised row other word bit →
    ((offset byte : ℕ) → word_of (words offset byte row) word ≡ pos old) → ((offset byte : ℕ) → word_of (words offset byte other) word ≡ pos new) → OneRaised h c d 0 word bit old new
only_row row other e f r o n = record { before = []; behind = []; row = row; other = other; first = e; second = f; place = refl; raised = r; old_is = o; new_is = n }

-- the same words but word 3, word 4 or word 5
pub but_3 : (row : Row) (z : ℤ) (v : ℤ) → SameWords row (record row { word3 = z; verdict = v }) 3
but_3 row z v = record { word2 = λ n. refl; word3 = λ n. absurd (n refl); word4 = λ n. refl; word5 = λ n. refl; word6 = λ n. refl }

pub but_4 : (row : Row) (z : ℤ) (v : ℤ) → SameWords row (record row { word4 = z; verdict = v }) 4
but_4 row z v = record { word2 = λ n. refl; word3 = λ n. refl; word4 = λ n. absurd (n refl); word5 = λ n. refl; word6 = λ n. refl }

pub but_5 : (row : Row) (z : ℤ) (v : ℤ) → SameWords row (record row { word5 = z; verdict = v }) 5
but_5 row z v = record { word2 = λ n. refl; word3 = λ n. refl; word4 = λ n. refl; word5 = λ n. absurd (n refl); word6 = λ n. refl }
