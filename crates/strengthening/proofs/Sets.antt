-- A block with another storey in the place of one stands where it stood, and is in range where that storey is. Assumes nothing.
use mathlib.Core.Path.{◌≡◌, refl, sym, ◌∙◌}
use mathlib.Core.Bool.{true}
use mathlib.Core.List.{List, [], ◌∷◌, ◌++◌}
use lib.ListN.{length, length-append, length-map}
use Rattle.walls.specs.declared.Storey.{Storey}
use Rattle.format.specs.declared.Command.TheVariants.{Storey as storey}
use Rattle.format.specs.Commands.{in_range}
use Rattle.format.proofs.RangeTest.{and_first, and_second}
use Rattle.blocks.specs.Sets.{count_in_range, all_in_range}
use Rattle.blocks.specs.FileCommands.{block}
use Rattle.writing.specs.Answers.{file_in_range}
use Rattle.job.proofs.Passing.{after_storeys}
use Rattle.strengthening.proofs.AlikeContexts.{alike_itself}
use Rattle.strengthening.proofs.Swapped.{StandsFor}

as_many : (ss : List Storey) (s t : Storey) (rest : List Storey) → length (ss ++ t ∷ rest) ≡ length (ss ++ s ∷ rest)
as_many ss s t rest = length-append ss (t ∷ rest) ∙ sym (length-append ss (s ∷ rest))

pub block_stands : (ss : List Storey) (s t : Storey) (rest : List Storey) → StandsFor (block (ss ++ s ∷ rest)) (block (ss ++ t ∷ rest))
block_stands ss s t rest =
    let n = as_many ss s t rest in
    let y = ss ++ t ∷ rest in
    record {
      byte = refl;
      width = rw n;
      counts = λ counts. rw (length-map y (λ u. storey u), length-map (ss ++ s ∷ rest) (λ u. storey u), n);
      leaves = λ h. rw (after_storeys h y, after_storeys h (ss ++ s ∷ rest)) (alike_itself h);
      passes = λ counts h p r.
          record {
            count_in_range_lem = and_first (count_in_range (length y)) (all_in_range y) r;
            few = rw n p.few;
            settings = p.settings;
            base = p.base;
            range = and_second (count_in_range (length y)) (all_in_range y) r;
          };
    }

others_in_range : (ss : List Storey) (s t : Storey) (rest : List Storey) → all_in_range (ss ++ s ∷ rest) ≡ true → in_range (storey t) ≡ true → all_in_range (ss ++ t ∷ rest) ≡ true
unfolding all_in_range
others_in_range [] s t rest a r = rw r (and_second (in_range (storey s)) (all_in_range rest) a)
others_in_range (u ∷ ss) s t rest a r =
    rw (and_first (in_range (storey u)) (all_in_range (ss ++ s ∷ rest)) a) (others_in_range ss s t rest (and_second (in_range (storey u)) (all_in_range (ss ++ s ∷ rest)) a) r)

pub one_in_range : (ss : List Storey) (s : Storey) (rest : List Storey) → all_in_range (ss ++ s ∷ rest) ≡ true → in_range (storey s) ≡ true
unfolding all_in_range
one_in_range [] s rest a = and_first (in_range (storey s)) (all_in_range rest) a
one_in_range (u ∷ ss) s rest a = one_in_range ss s rest (and_second (in_range (storey u)) (all_in_range (ss ++ s ∷ rest)) a)

-- a block stays in range where another storey in range stands in the place of one
pub block_in_range : (ss : List Storey) (s t : Storey) (rest : List Storey) → file_in_range (block (ss ++ s ∷ rest)) ≡ true → in_range (storey t) ≡ true → file_in_range (block (ss ++ t ∷ rest)) ≡ true
block_in_range ss s t rest q r =
    rw (as_many ss s t rest, and_first (count_in_range (length (ss ++ s ∷ rest))) (all_in_range (ss ++ s ∷ rest)) q)
    (others_in_range ss s t rest (and_second (count_in_range (length (ss ++ s ∷ rest))) (all_in_range (ss ++ s ∷ rest)) q) r)
