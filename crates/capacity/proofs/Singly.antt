-- A block stands for its storeys: the file with the block is accepted exactly where the file with the storeys singly is, with the same
-- rows, word 0 aside. 02, No. 7. Assumes nothing.
use mathlib.Core.Path.{◌≡◌, refl, sym, ap, ◌∙◌}
use mathlib.Core.Bool.{true}
use mathlib.Core.List.{List, [], ◌∷◌, ◌++◌, map}
use native.Mathlib.Omega.{arith}
use lib.IntN.{ℤ}
use lib.ListN.{length}
use Rattle.walls.specs.declared.Storey.{Storey}
use Rattle.format.specs.declared.Command.{Command}
use Rattle.format.specs.declared.Command.TheVariants.{Storey as storey}
use Rattle.format.proofs.RangeTest.{and_first, and_second}
use Rattle.blocks.specs.Sets.{count_in_range, all_in_range}
use Rattle.blocks.specs.FileCommands.{FileCommand, block, given, singly}
use Rattle.blocks.proofs.Sets.{each_in_range}
use Rattle.writing.specs.Files.{AllWritable}
use Rattle.context.specs.Context.{nothing}
use Rattle.job.specs.Counts.{first_counts}
use Rattle.job.specs.Placed.{Placed, Entry, placed_all, accepted, all_rows}
use Rattle.job.proofs.PlacedCases.{listed_of, placed_of_lem}
use Rattle.job.proofs.Passing.{Passes, passes_singly, passes_block}
use Rattle.capacity.specs.Singly.{file_of, without_offsets, Accepts, BlockStands, BlocksStand}
use Rattle.capacity.proofs.FileListed.{entries_from, file_accepted, file_passes, given_all, rows_alike}

writable_both : (cs ds : List FileCommand) → AllWritable cs → AllWritable ds → AllWritable (cs ++ ds)
writable_both [] ds v w = w
writable_both (c ∷ cs) ds v w = (v.0, writable_both cs ds v.1 w)

singly_writable : (ss : List Storey) → all_in_range ss ≡ true → AllWritable (singly ss)
singly_writable [] r = tt
singly_writable (s ∷ ss) r = let e = each_in_range s ss r in (record { types = tt; range = e.0; other = λ z. omega arith }, singly_writable ss e.1)

-- both files give the same commands
given_singly : (ss : List Storey) (ds : List FileCommand) → given_all (singly ss ++ ds) ≡ map (λ s. storey s) ss ++ given_all ds
given_singly [] ds = refl
given_singly (s ∷ ss) ds = ap (λ (l : List Command). storey s ∷ l) (given_singly ss ds)

same_given : (cs : List FileCommand) (ss : List Storey) (ds : List FileCommand) → given_all (cs ++ block ss ∷ ds) ≡ given_all (cs ++ (singly ss ++ ds))
same_given [] ss ds = sym (given_singly ss ds)
same_given (c ∷ cs) ss ds = ap (λ (l : List Command). given c ++ l) (same_given cs ss ds)

-- of two files that give the same commands: where the second passes whenever the first does, it is accepted with the rows of the first
accepted_too : (xs ys : List FileCommand) → AllWritable xs → AllWritable ys → (Passes first_counts nothing xs → Passes first_counts nothing ys) → given_all xs ≡ given_all ys → (rows : List (List ℤ)) → Accepts (file_of xs) rows → Accepts (file_of ys) rows
accepted_too xs ys v w f g rows a =
    let (es, l, q) = listed_of (file_of xs) a.commands a.is_accepted in
    let p = file_passes xs v es l in
    let own : accepted (entries_from 0 nothing xs) ≡ accepted es = sym (file_accepted xs v p) ∙ l in
    let same : entries_from 0 nothing xs ≡ es = cc in
    record {
      commands = placed_all (entries_from 0 nothing ys);
      is_accepted = placed_of_lem (file_of ys) (entries_from 0 nothing ys) (file_accepted ys w (f p));
      rows_are = sym (rows_alike xs ys g) ∙ ap (λ (es : List Entry). without_offsets (all_rows (placed_all es))) same ∙ ap (λ (ps : List Placed). without_offsets (all_rows ps)) q ∙ a.rows_are;
    }

pub blocks_stand : BlocksStand
blocks_stand cs ss ds v (b, u) w =
    let range = and_second (count_in_range (length ss)) (all_in_range ss) b.range in
    let many = and_first (count_in_range (length ss)) (all_in_range ss) b.range in
    let with-block = writable_both cs (block ss ∷ ds) v (b, w) in
    let with-storeys = writable_both cs (singly ss ++ ds) v (writable_both (singly ss) ds (singly_writable ss range) w) in
    record {
      singly_too = accepted_too (cs ++ block ss ∷ ds) (cs ++ (singly ss ++ ds)) with-block with-storeys (passes_singly ss ds first_counts nothing cs) (same_given cs ss ds);
      block_too = accepted_too (cs ++ (singly ss ++ ds)) (cs ++ block ss ∷ ds) with-storeys with-block (passes_block ss ds many first_counts nothing cs (omega arith)) (sym (same_given cs ss ds));
    }

-- a block of one is a storey
pub block_of_one : (cs : List FileCommand) (s : Storey) (ds : List FileCommand) → AllWritable cs → AllWritable (block (s ∷ []) ∷ []) → AllWritable ds → BlockStands cs (s ∷ []) ds
block_of_one cs s ds = blocks_stand cs (s ∷ []) ds
