-- The rows of a command, from its context. 01, "Rows and verdict bits": "Settings, joint, wall base and soil are those
-- that hold at the row's command"; commands 01, 02, 08 write none, nor does 0D (02, No. 10). A basement
-- member: 02, No. 9.
use Rattle.std.specs.Prelude.{List, [], ◌∷◌, ℕ, ℤ, pos}
use Rattle.coefficient.specs.declared.Settings.{Settings}
use Rattle.claims.specs.declared.Row.{Row}
use Rattle.members.specs.Column.{column_row}
use Rattle.members.specs.Beam.{beam_row}
use Rattle.members.specs.Hingeless.{hingeless_row}
use Rattle.members.specs.Detail.{detail_row}
use Rattle.basement.specs.Basement.{basement_shear_row, basement_moment_row}
use Rattle.walls.specs.Base.{base_row}
use Rattle.walls.specs.Storey.{storey_row}
use Rattle.actions.specs.declared.Sign.TheVariants.{Plus, Minus}
use Rattle.footing.specs.Rows.{footing_row}
use Rattle.format.specs.declared.Command.{Command}
use Rattle.format.specs.declared.Command.TheVariants.{Finish as finish, Settings as settings, Joint as joint, Column as column, Beam as beam, Hingeless as hingeless, WallBase as wall_base, Storey as storey, Soil as soil, Footing as footing, Detail as detail, Basement as basement, Building as building}
use Rattle.context.specs.Context.{Context, when_given}
use Rattle.rows.specs.Nearest.{nearest_coefficient}

-- by the settings; an accepted job has what its commands want (refusals 4 and 6)
unfoldable pub rows_with : Context → Settings → Command → List Row
rows_with h s (column c) = column_row s.behaviour c ∷ []
rows_with h s (beam b) = beam_row s.behaviour b ∷ []
rows_with h s (hingeless id1 id2 m) = when_given (h.joints id1) (λ i. when_given (h.joints id2) (λ j. hingeless_row s i j m ∷ []))
rows_with h s (wall_base b) = base_row s.behaviour b ∷ []
rows_with h s (storey t) = when_given h.wall (λ b. storey_row s.behaviour b t ∷ [])
-- both directions, sign + then −
rows_with h s (footing f) = when_given h.ground (λ g. footing_row s f g.soil g.sensitive Plus ∷ footing_row s f g.soil g.sensitive Minus ∷ [])
rows_with h s (detail d) = detail_row d ∷ []
-- the shear row, then the moment row
rows_with h s (basement id m) = when_given (nearest_coefficient h s id m.place) (λ a. basement_shear_row a m ∷ basement_moment_row a m ∷ [])
rows_with h s _ = []

unfoldable pub rows_of : Context → Command → List Row
unfolding rows_with
rows_of h c = when_given h.settings (λ s. rows_with h s c)

-- how many they are where what the command asks for holds
unfoldable pub row_count : Command → ℕ
row_count finish = 0
row_count (settings t) = 0
row_count (joint id j) = 0
row_count (soil t) = 0
row_count (footing f) = 2
row_count (basement id m) = 2
row_count building = 0
row_count _ = 1

-- words 2 to 7 of a row
abbrev pub row_words : Row → List ℤ
row_words r = r.word2 ∷ r.word3 ∷ r.word4 ∷ r.word5 ∷ r.word6 ∷ r.verdict ∷ []

-- the eight words of a row: the byte offset of the command, its byte, then words 2 to 7
abbrev pub words : ℕ → ℕ → Row → List ℤ
words offset byte r = pos offset ∷ pos byte ∷ row_words r
