-- Each placed command of an accepted job stands at an offset of at most 237,512, where 4,095 footings of 58 bytes and the first two bytes
-- of a block end, and its byte is at most 13. Assumes nothing.
use mathlib.Core.List.{List, [], ◌∷◌, ◌++◌}
use mathlib.Core.Path.{◌≡◌, subst}
use Prim.Native.Nat.{ℕ, zero, suc, ◌+◌, ◌*◌, ◌≤◌}
use native.Mathlib.Omega.{arith}
use lib.ListN.{length, length-map}
use Rattle.layout.proofs.Widths.{width_le}
use Rattle.walls.specs.declared.Storey.{Storey}
use Rattle.format.specs.declared.Command.{Command}
use Rattle.format.specs.declared.Command.TheVariants.{Storey as storey}
use Rattle.format.specs.Commands.{byte_of}
use Rattle.blocks.specs.FileCommands.{FileCommand, one, block, file_command_at, width_of, storeys_from, commands_from, given}
use Rattle.context.specs.Context.{Context, nothing, next}
use Rattle.job.specs.declared.Counts.{Counts}
use Rattle.job.specs.Counts.{first_counts}
use Rattle.job.specs.Faults.{after_command, tests_at}
use Rattle.job.specs.Placed.{Placed, place_each, Entry, entry_at, placed_in, placed_all, Listing, refused, accepted, before, listed_by, listed, placed}
use Rattle.job.proofs.Faultless.{passed}
use Rattle.job.proofs.PlacedCases.{counts_behind, context_behind, rest_after, by_cases, listed_of}

-- a command's byte
pub byte_most : (c : Command) → byte_of c ≤ 13
byte_most (storey s) = omega arith
byte_most _ = omega arith

abbrev AllLow : List Placed → Type 0
AllLow [] = Unit {0}
AllLow (p ∷ ps) = (p.offset ≤ 237512) × AllLow ps

low_both : (ps qs : List Placed) → AllLow ps → AllLow qs → AllLow (ps ++ qs)
low_both [] qs a b = b
low_both (p ∷ ps) qs a b = (a.0, low_both ps qs a.1 b)

-- after k commands
storeys_low : (h : Context) (at k : ℕ) (ss : List Storey) → at ≤ 58 * k + 2 → k + length ss ≤ 4096 → AllLow (place_each h (storeys_from at ss))
storeys_low h at k [] l m = tt
storeys_low h at k (s ∷ ss) l m = (omega arith, storeys_low (next h (storey s)) (at + 24) (k + 1) ss (omega arith) (omega arith))

given_low : (h : Context) (at k : ℕ) (c : FileCommand) → at ≤ 58 * k → k + length (given c) ≤ 4096 → AllLow (place_each h (commands_from at c))
given_low h at k (one c) l m = (omega arith, tt)
given_low h at k (block ss) l m = storeys_low h (at + 2) k ss (omega arith) (omega (arith, length-map ss (λ s. storey s)))

-- at most 58 bytes for each command that is given
widths_low : (c : FileCommand) → 1 ≤ length (given c) → width_of c ≤ 58 * length (given c)
widths_low (one c) l = omega (arith, width_le (byte_of c))
widths_low (block ss) l = omega (arith, length-map ss (λ s. storey s))

abbrev Low : Listing → Type 0
Low (refused number offset) = Unit {0}
Low (accepted es) = AllLow (placed_all es)

low_more : (x : Entry) (j : Listing) → AllLow (placed_in x) → Low j → Low (before x j)
low_more x (refused number offset) a b = tt
low_more x (accepted es) a b = low_both (placed_in x) (placed_all es) a b

low : (n : ℕ) (job : List ℕ) (at : ℕ) (counts : Counts) (h : Context) → at ≤ 58 * counts.commands → Low (listed_by tests_at n job at counts h)
unfolding listed_by
low zero job at counts h l = tt
low (suc n) job at counts h l =
    by_cases tests_at n job at counts h Low (λ w. tt) (λ w k e. tt) (λ w e b m. tt) (λ w e b m. tt)
    (λ w e b.
    let p = passed job at counts h e in
    low_more (entry_at job at h) (rest_after tests_at n job at counts h) (given_low h at counts.commands (file_command_at job at) l (p.few b))
    (low n job (after_command job at) (counts_behind job at counts) (context_behind job at h) (omega (arith, p.width, widths_low (file_command_at job at) p.some))))

low_at : (ps : List Placed) → AllLow ps → (earlier : List Placed) (p : Placed) (later : List Placed) → ps ≡ earlier ++ p ∷ later → p.offset ≤ 237512
low_at ps a earlier p later q = by earlier (subst AllLow q a)
  where
    by : (xs : List Placed) → AllLow (xs ++ p ∷ later) → p.offset ≤ 237512
    by [] b = b.0
    by (x ∷ xs) b = by xs b.1

pub accepted_offset : (job : List ℕ) (ps : List Placed) → placed job ≡ accepted ps → (earlier : List Placed) (p : Placed) (later : List Placed) → ps ≡ earlier ++ p ∷ later → p.offset ≤ 237512
unfolding listed
accepted_offset job ps e earlier p later r =
    let (es, l, q) = listed_of job ps e in
    low_at ps (subst AllLow q (subst Low l (low 4097 job 0 first_counts nothing (omega arith)))) earlier p later r
