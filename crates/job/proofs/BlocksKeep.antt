-- A block leaves what holds as it was. 02, No. 7. Assumes nothing.
use mathlib.Core.Path.{◌≡◌, refl, sym, ap, ◌∙◌}
use mathlib.Core.List.{List, [], ◌∷◌, ◌++◌, append_assoc, append-nil}
use Prim.Native.Nat.{ℕ, ◌+◌}
use Rattle.walls.specs.declared.Storey.{Storey}
use Rattle.blocks.specs.FileCommands.{FileCommand, block, commands_from, storeys_from}
use Rattle.context.specs.Context.{Context, nothing, next}
use Rattle.job.specs.Placed.{Placed, Entry, context_after, place_each, placed_in, placed_all}
use Rattle.job.specs.Reached.{BlocksKeep}
use Rattle.job.proofs.Reached.{context_both, reached_each}
use Rattle.job.proofs.AlreadyMet.{placed_both}

storeys_keep : (h : Context) (at : ℕ) (ss : List Storey) → context_after h (place_each h (storeys_from at ss)) ≡ h
unfolding next
storeys_keep h at [] = refl
storeys_keep h at (s ∷ ss) = storeys_keep h (at + 24) ss

block_keeps : (x : Entry) (ss : List Storey) → x.given ≡ block ss → context_after x.context (placed_in x) ≡ x.context
block_keeps x ss b =
    ap (λ (c : FileCommand). context_after x.context (place_each x.context (commands_from x.offset c))) b ∙ storeys_keep x.context (x.offset + 2) ss

pub blocks_keep : (job : List ℕ) → BlocksKeep job
blocks_keep job before x y after q ss b =
    let f = reached_each job before x (y ∷ after) q in
    let g = reached_each job (before ++ x ∷ []) y after (q ∙ sym (append_assoc before (x ∷ []) (y ∷ after))) in
    g.context
    ∙ ap (context_after nothing) (placed_both before (x ∷ []) ∙ ap (λ (ps : List Placed). placed_all before ++ ps) (append-nil (placed_in x)))
    ∙ context_both nothing (placed_all before) (placed_in x)
    ∙ ap (λ (h : Context). context_after h (placed_in x)) (sym f.context)
    ∙ block_keeps x ss b
