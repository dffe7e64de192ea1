-- Demand 3, one claim about a whole job and all the rows that `run` writes for it. 01, "Calls": "Demand 3 is one claim about a
-- whole job and all the rows that run writes for it". For every placed command of the job and every row of it: the reported
-- values, the reported strengths and the verdict are read off the words that `run` wrote; the exact values are made from the
-- job's bytes alone. What `Hold` claims of a row is in the crate `claims`: no check passes whose exact demand exceeds its exact
-- strength, no reported demand lies below the exact one, the excess stays under the amounts, whatever is clear by the amounts
-- passes, and each of the bits 1, 2, 4, 8, 32 is clear exactly when all its checks pass. 02, No. 10: "The error bounds use the settings of
-- the row's own building": they use what holds at the command (`context` of a placed command), of which a 0D leaves nothing (`next`;
-- `own_building`, job/proofs/AcceptedLaws.antt).
use Rattle.std.specs.Prelude.{◌≡◌, List, [], ◌∷◌, ℕ, ◌+◌, ◌*◌, ℤ, pos, length, get_or, ◌≤ℤ◌}
use Rattle.coefficient.specs.declared.Settings.{Settings}
use Rattle.claims.specs.declared.Row.{Row}
use Rattle.claims.specs.Claims.{Hold}
use Rattle.members.specs.Column.{column_claims}
use Rattle.members.specs.Beam.{beam_claims}
use Rattle.members.specs.Hingeless.{hingeless_claims}
use Rattle.members.specs.Detail.{detail_claims}
use Rattle.basement.specs.Basement.{basement_shear_claims, basement_moment_claims}
use Rattle.walls.specs.Base.{base_claims}
use Rattle.walls.specs.Storey.{storey_claims}
use Rattle.actions.specs.declared.Sign.{Sign}
use Rattle.actions.specs.declared.Sign.TheVariants.{Plus, Minus}
use Rattle.footing.specs.declared.Footing.{Footing}
use Rattle.footing.specs.Claimed.{footing_claims}
use Rattle.format.specs.declared.Command.{Command}
use Rattle.format.specs.declared.Command.TheVariants.{Finish as finish, Settings as settings, Joint as joint, Column as column, Beam as beam, Hingeless as hingeless, WallBase as wall_base, Storey as storey, Soil as soil, Footing as footing, Detail as detail, Basement as basement, Building as building}
use Rattle.context.specs.declared.Ground.{Ground}
use Rattle.context.specs.Context.{Context, when_given}
use Rattle.rows.specs.Nearest.{nearest_coefficient}
use Rattle.job.specs.Placed.{Placed, Job, refused, accepted, placed, rows_at}

-- what is claimed of a row, by its words 2 to 7
abbrev pub Claim : Type 1
Claim = Row → Type 0

-- nothing is claimed of a footing row whose reported N, word 2, is below 20,000
abbrev pub footing_claim : Settings → Footing → Ground → Sign → Claim
footing_claim s f g sign r = pos 20000 ≤ℤ r.word2 → Hold (footing_claims s f g.soil g.sensitive sign r)

-- the claims of a command, one for each of its rows, in their order
unfoldable pub claims_with : Context → Settings → Command → List Claim
claims_with h s finish = []
claims_with h s (settings t) = []
claims_with h s (joint id j) = []
claims_with h s (column c) = (λ r. Hold (column_claims s.behaviour c r)) ∷ []
claims_with h s (beam b) = (λ r. Hold (beam_claims s.behaviour b r)) ∷ []
claims_with h s (hingeless id1 id2 m) = when_given (h.joints id1) (λ i. when_given (h.joints id2) (λ j. (λ r. Hold (hingeless_claims s i j m r)) ∷ []))
claims_with h s (wall_base b) = (λ r. Hold (base_claims s.behaviour b r)) ∷ []
claims_with h s (storey t) = when_given h.wall (λ b. (λ r. Hold (storey_claims s.behaviour b t r)) ∷ [])
claims_with h s (soil t) = []
claims_with h s (footing f) = when_given h.ground (λ g. footing_claim s f g Plus ∷ footing_claim s f g Minus ∷ [])
claims_with h s (detail d) = (λ r. Hold (detail_claims d r)) ∷ []
claims_with h s (basement id m) =
    when_given (nearest_coefficient h s id m.place) (λ a. (λ r. Hold (basement_shear_claims a m r)) ∷ (λ r. Hold (basement_moment_claims a m r)) ∷ [])
claims_with h s building = []

unfoldable pub claims_of : Placed → List Claim
unfolding claims_with
claims_of p = when_given p.context.settings (λ s. claims_with p.context s p.command)

-- words 2 to 7 of row n, read off the slice
abbrev pub row_read : List ℤ → ℕ → Row
row_read words n =
    record {
      word2 = get_or words (8 * n + 2) (pos 0);
      word3 = get_or words (8 * n + 3) (pos 0);
      word4 = get_or words (8 * n + 4) (pos 0);
      word5 = get_or words (8 * n + 5) (pos 0);
      word6 = get_or words (8 * n + 6) (pos 0);
      verdict = get_or words (8 * n + 7) (pos 0);
    }

-- the claims hold of the rows from row n on
unfoldable pub RowsHold : List ℤ → ℕ → List Claim → Type 0
RowsHold words n [] = Unit {0}
RowsHold words n (c ∷ cs) = c (row_read words n) × RowsHold words (n + 1) cs

-- for every placed command, all its rows: as many claims as rows, and each claim holds of its row
unfoldable pub AllHold : List ℤ → ℕ → List Placed → Type 0
unfolding RowsHold claims_of
AllHold words n [] = Unit {0}
AllHold words n (p ∷ ps) =
    (length (claims_of p) ≡ length (rows_at p)) × RowsHold words n (claims_of p) × AllHold words (n + length (rows_at p)) ps

-- of a job that is refused there are no rows
abbrev pub JobHolds : List ℤ → Job → Type 0
JobHolds words (refused number offset) = Unit {0}
JobHolds words (accepted ps) = AllHold words 0 ps

unfoldable pub DemandThree : List ℕ → List ℤ → Type 0
unfolding placed AllHold
DemandThree job words = JobHolds words (placed job)
