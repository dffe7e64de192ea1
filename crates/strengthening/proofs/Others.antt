-- The other strengths: of wall bases, of storeys by themselves and in blocks, and of basement members. 02, No. 11, and beyond it.
-- Assumes nothing.
use mathlib.Core.Path.{◌≡◌, refl}
use mathlib.Core.List.{List, ◌∷◌, ◌++◌}
use Prim.Native.Nat.{ℕ, ◌+◌, ◌*◌}
use native.Mathlib.Omega.{arith}
use lib.IntN.{ℤ, pos}
use lib.ListN.{length, replicate, length-replicate}
use Rattle.walls.specs.declared.Storey.{Storey}
use Rattle.walls.specs.Storey.{storey_row, storey_row_from}
use Rattle.layout.proofs.Numbers.{Bytes}
use Rattle.format.specs.declared.Command.TheVariants.{WallBase as wall_base, Storey as storey, Basement as basement}
use Rattle.blocks.specs.FileCommands.{block}
use Rattle.job.specs.Placed.{Entry}
use Rattle.capacity.specs.Calls.{rows_after}
use Rattle.capacity.specs.Singly.{StoreyHeld}
use Rattle.capacity.proofs.BlockHolds.{blocks_held}
use Rattle.strengthening.specs.Raised.{value, Raised, OneStronger}
use Rattle.strengthening.specs.Others.{Among, rows_count, Strengthened, BasesStrengthened, VR_of_storey, MS_of_storey, StoreysStrengthened, BlocksStrengthened, BasementsStrengthened}
use Rattle.strengthening.proofs.ReadRaised.{operands}
use Rattle.strengthening.proofs.WallStrengths.{base_VR, storey_VR, storey_MS, storey_VR_raised, storey_MS_raised}
use Rattle.strengthening.proofs.BasementStrengths.{basement_VR, basement_MR}
use Rattle.strengthening.proofs.Single.{single_strengthened}
use Rattle.strengthening.proofs.Block.{set_strengthened}

module _ (first second : List ℕ) (b1 : Bytes first) (b2 : Bytes second) where
  -- ---- a command by itself

  pub bases_strengthened : BasesStrengthened first second
  bases_strengthened b before x k g r = single_strengthened (record { bytes = b1; among = k }) b2 (wall_base b) g base_VR r

  pub storeys_strengthened : StoreysStrengthened first second
  storeys_strengthened =
      record {
        VR = λ s before x k g r. single_strengthened (record { bytes = b1; among = k }) b2 (storey s) g storey_VR r;
        MS = λ s before x k g r. single_strengthened (record { bytes = b1; among = k }) b2 (storey s) g storey_MS r;
      }

  pub basements_strengthened : BasementsStrengthened first second
  basements_strengthened =
      record {
        VR = λ id m before x k g r. single_strengthened (record { bytes = b1; among = k }) b2 (basement id m) g basement_VR r;
        MR = λ id m before x k g r. single_strengthened (record { bytes = b1; among = k }) b2 (basement id m) g basement_MR r;
      }

  -- ---- a storey of a block

  module _ {before : List Entry} {x : Entry} (k : Among first before x) (ss : List Storey) (s : Storey) (rest : List Storey) (g : x.given ≡ block (ss ++ s ∷ rest)) where
    -- words with room for all rows
    abbrev lent : List ℤ
    lent = replicate (8 * rows_count k.commands) (pos 0)

    -- the settings and the base that hold at it
    held : StoreyHeld (rows_after first lent) (rows_count before + length ss) x.context s
    held = blocks_held first b1 k.commands k.is_accepted before x k.after k.place ss s rest g lent (omega (arith, length-replicate (8 * rows_count k.commands) (pos 0)))

    VR_of_set : Raised first second (VR_of_storey (x.offset + 2 + 24 * length ss)) → Strengthened OneStronger first second (rows_count k.commands) (rows_count before + length ss) (VR_of_storey (x.offset + 2 + 24 * length ss))
    unfolding storey_row storey_row_from
    VR_of_set r =
        set_strengthened (record { bytes = b1; among = k }) b2 ss s rest g storey_VR.operand r held.settings_hold held.base_holds
        (storey_VR_raised held.settings.behaviour held.base (operands first (VR_of_storey (x.offset + 2 + 24 * length ss))) (value second (VR_of_storey (x.offset + 2 + 24 * length ss))) (omega (arith, r.greater))) refl refl

    MS_of_set : Raised first second (MS_of_storey (x.offset + 2 + 24 * length ss)) → Strengthened OneStronger first second (rows_count k.commands) (rows_count before + length ss) (MS_of_storey (x.offset + 2 + 24 * length ss))
    unfolding storey_row storey_row_from
    MS_of_set r =
        set_strengthened (record { bytes = b1; among = k }) b2 ss s rest g storey_MS.operand r held.settings_hold held.base_holds
        (storey_MS_raised held.settings.behaviour held.base (operands first (MS_of_storey (x.offset + 2 + 24 * length ss))) (value second (MS_of_storey (x.offset + 2 + 24 * length ss))) (omega (arith, r.greater))) refl refl

  pub blocks_strengthened : BlocksStrengthened first second
  blocks_strengthened = record { VR = λ ss s rest before x k g r. VR_of_set k ss s rest g r; MS = λ ss s rest before x k g r. MS_of_set k ss s rest g r }
