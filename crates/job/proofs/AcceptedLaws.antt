-- Laws of an accepted job: it begins with settings and ends with its only end, has at most 4,096 other commands, a block counted by its
-- storeys, and the commands of the file stand one after the other and fill it; what holds at each placed command is what those before
-- it leave, in its own building. Assumes nothing.
use mathlib.Core.Path.{◌≡◌, refl, sym, ap, ◌∙◌, subst}
use mathlib.Core.Bool.{Bool, true, false}
use mathlib.Core.List.{List, [], ◌∷◌, ◌++◌, append_assoc}
use Prim.Native.Nat.{ℕ, zero, suc, ◌+◌, ◌-◌, ◌≤◌}
use native.Mathlib.Omega.{arith}
use native.Mathlib.Nat.{add-zero}
use lib.Dec.{eqb}
use lib.ListN.{length, length-append}
use borrow.Author.Tests.{eqb-true, not-false}
use Rattle.coefficient.specs.declared.Settings.{Settings}
use Rattle.format.specs.declared.Command.{Command}
use Rattle.format.specs.declared.Command.TheVariants.{Settings as settings, Building as building}
use Rattle.format.specs.Commands.{command_of, settings_of}
use Rattle.layout.specs.Operands.{byte_at, operands_at}
use Rattle.format.specs.Reading.{command_at}
use Rattle.layout.proofs.OperandsRead.{at}
use Rattle.blocks.specs.Sets.{is_block}
use Rattle.blocks.specs.FileCommands.{FileCommand, one, file_command_at}
use Rattle.blocks.proofs.FileCommands.{at_one, given_many}
use Rattle.context.specs.Context.{Context, nothing, next}
use Rattle.job.specs.declared.Counts.{Counts}
use Rattle.job.specs.Counts.{first_counts}
use Rattle.job.specs.Faults.{after_command, tests_at, misplaced}
use Rattle.job.specs.Placed.{Placed, context_after, place_each, Entry, entry_at, commands_in, placed_in, placed_all, Listing, refused, accepted, before, listed_by, listed, placed}
use Rattle.job.specs.Earlier.{widths_of}
use Rattle.job.proofs.Faultless.{Standing, passed, end_of_lem, faultless, block_faultless}
use Rattle.job.proofs.Reached.{Stands, context_both, reached_accepted, reached_each, reached_placed}
use Rattle.job.proofs.PlacedCases.{fault_at, counts_behind, not_both, context_behind, rest_after, by_cases, listed_of}

-- as many placed commands as are given
pub placed_many : (h : Context) (cs : List (ℕ × Command)) → length (place_each h cs) ≡ length cs
placed_many h [] = refl
placed_many h ((at, c) ∷ cs) = ap suc (placed_many (next h c) cs)

-- the commands of the file from an offset on, with what is counted before it
record Filled (job : List ℕ) (offset : ℕ) (counts : Counts) (es : List Entry) : Type 0 where
  pub few : counts.commands + length (placed_all es) ≤ 4096
  pub widths : offset + widths_of es + 1 ≡ length job
  pub last : byte_at job (offset + widths_of es) ≡ 0

abbrev Filling : List ℕ → ℕ → Counts → Listing → Type 0
Filling job offset counts (refused number at) = Unit {0}
Filling job offset counts (accepted es) = Filled job offset counts es

-- one command in front
module _ (job : List ℕ) (offset : ℕ) (counts : Counts) (h : Context) (z : fault_at job offset counts h ≡ 0) where
  filled_more : (es : List Entry) → Filled job (after_command job offset) (counts_behind job offset counts) es → Filled job offset counts (entry_at job offset h ∷ es)
  filled_more es g =
      let here = entry_at job offset h in
      let s : offset + widths_of (here ∷ es) ≡ after_command job offset + widths_of es = omega (arith, end_of_lem job offset counts h z) in
      record {
        few = omega (arith, g.few, length-append (placed_in here) (placed_all es), placed_many h (commands_in here), given_many offset here.given);
        widths = omega (arith, g.widths);
        last = ap (λ (k : ℕ). byte_at job k) s ∙ g.last;
      }

  filling_more : (j : Listing) → Filling job (after_command job offset) (counts_behind job offset counts) j → Filling job offset counts (before (entry_at job offset h) j)
  filling_more (refused number at) g = tt
  filling_more (accepted es) g = filled_more es g

filling : (n : ℕ) (job : List ℕ) (offset : ℕ) (counts : Counts) (h : Context) → counts.commands ≤ 4096 → Filling job offset counts (listed_by tests_at n job offset counts h)
unfolding listed_by
filling zero job offset counts h c = tt
filling (suc n) job offset counts h c =
    by_cases tests_at n job offset counts h (Filling job offset counts) (λ l. tt) (λ l k e. tt) (λ l e b m. tt)
    (λ l e b m. record { few = omega arith; widths = omega arith; last = ap (λ (k : ℕ). byte_at job k) (add-zero offset) ∙ b })
    (λ l e b.
    filling_more job offset counts h e (rest_after tests_at n job offset counts h)
    (filling n job (after_command job offset) (counts_behind job offset counts) (context_behind job offset h) ((passed job offset counts h e).few b)))

-- ---- the first command

-- at the start, where no settings are given, only settings pass
first_byte : (byte : ℕ) → misplaced byte false ≡ false → byte ≡ 1
unfolding misplaced
first_byte byte e = eqb-true byte 1 (not-false (eqb byte 1) e)

settings_read : (job : List ℕ) (offset : ℕ) → byte_at job offset ≡ 1 → command_at job offset ≡ settings (settings_of (at (operands_at job offset)))
unfolding command_at command_of
settings_read job offset e = rw e

-- a list of placed commands whose first is settings, at offset 0
abbrev pub BeginsWithSettings : List Placed → Type 0
BeginsWithSettings ps = (s : Settings) × (later : List Placed) × (ps ≡ record { offset = 0; command = settings s; context = nothing } ∷ later)

begins : (n : ℕ) (job : List ℕ) (es : List Entry) → listed_by tests_at (suc n) job 0 first_counts nothing ≡ accepted es → BeginsWithSettings (placed_all es)
begins n job es =
    by_cases tests_at n job 0 first_counts nothing (λ j. j ≡ accepted es → BeginsWithSettings (placed_all es)) (λ l q. absurd (not_both q)) (λ l k f q. absurd (not_both q)) (λ l f b m q. absurd (not_both q))
    (λ l f b m q. absurd (no_first b (first f))) (λ l f b q. front (rest_after tests_at n job 0 first_counts nothing) q (given_first (first f)))
  where
    misplaced_first : (k : Bool) → is_block (byte_at job 0) ≡ k → fault_at job 0 first_counts nothing ≡ 0 → misplaced (byte_at job 0) false ≡ false
    misplaced_first true b f = (block_faultless job 0 first_counts nothing b f).settings
    misplaced_first false b f = (faultless job 0 first_counts nothing b f).settings

    first : fault_at job 0 first_counts nothing ≡ 0 → byte_at job 0 ≡ 1
    first f = first_byte (byte_at job 0) (misplaced_first (is_block (byte_at job 0)) refl f)

    given_first : byte_at job 0 ≡ 1 → file_command_at job 0 ≡ one (settings (settings_of (at (operands_at job 0))))
    given_first e = at_one job 0 (ap is_block e) ∙ ap one (settings_read job 0 e)

    no_first : {byte : ℕ} → byte ≡ 0 → byte ≡ 1 → ⊥
    no_first b c = omega arith

    front : (j : Listing) → before (entry_at job 0 nothing) j ≡ accepted es → file_command_at job 0 ≡ one (settings (settings_of (at (operands_at job 0)))) → BeginsWithSettings (placed_all es)
    front (refused number offset) q c = absurd (not_both q)
    front (accepted later) q c =
        let r : es ≡ entry_at job 0 nothing ∷ later = cc in (
          settings_of (at (operands_at job 0)),
          placed_all later,
          ap placed_all r ∙ ap (λ (d : FileCommand). placed_in (record { offset = 0; given = d; context = nothing }) ++ placed_all later) c,
        )

-- ---- the laws of the commands of the file

module _ (job : List ℕ) (es : List Entry) (e : listed job ≡ accepted es) where
  filled : Filled job 0 first_counts es
  unfolding listed
  filled = subst (Filling job 0 first_counts) e (filling 4097 job 0 first_counts nothing (omega arith))

  -- each stands in the job where those before it end, and is no end; what holds at it is what they leave
  pub listed_each : (earlier : List Entry) (x : Entry) (later : List Entry) → es ≡ earlier ++ x ∷ later → Stands job (widths_of earlier) (context_after nothing (placed_all earlier)) x
  listed_each earlier x later q = reached_each job earlier x later (reached_accepted job es e ∙ q)

  -- it ends with an end
  pub listed_ends : byte_at job (length job - 1) ≡ 0
  listed_ends = let s : length job - 1 ≡ 0 + widths_of es = omega (arith, filled.widths) in ap (λ (k : ℕ). byte_at job k) s ∙ filled.last

  -- their widths and the end's one byte add up to the length
  pub listed_widths : widths_of es + 1 ≡ length job
  listed_widths = omega (arith, filled.widths)

-- ---- the laws of the placed commands

module _ (job : List ℕ) (ps : List Placed) (e : placed job ≡ accepted ps) where
  -- it begins with settings
  pub accepted_begins : BeginsWithSettings ps
  unfolding listed
  accepted_begins = let (es, l, q) = listed_of job ps e in subst BeginsWithSettings q (begins 4096 job es l)

  -- each placed command is no end, in its place and in range, and has what it asks for; what holds at it is what those before it leave
  pub accepted_each : (earlier : List Placed) (p : Placed) (later : List Placed) → ps ≡ earlier ++ p ∷ later → (p.context ≡ context_after nothing earlier) × Standing p
  accepted_each earlier p later r =
      let (es, l, q) = listed_of job ps e in
      reached_placed job earlier p later (ap placed_all (reached_accepted job es l) ∙ q ∙ r)

  -- what holds behind a 0D is what the commands behind it leave: none of an earlier building counts (02, No. 10)
  pub own_building : (before : List Placed) (x : Placed) (own : List Placed) (p : Placed) (later : List Placed) → ps ≡ before ++ x ∷ (own ++ p ∷ later) → x.command ≡ building → p.context ≡ context_after nothing own
  unfolding next
  own_building before x own p later r b =
      (accepted_each (before ++ x ∷ own) p later (r ∙ sym (append_assoc before (x ∷ own) (p ∷ later)))).0
      ∙ context_both nothing before (x ∷ own)
      ∙ ap (λ (c : Command). context_after (next (context_after nothing before) c) own) b

  -- there are at most 4,096 of them
  pub accepted_count : length ps ≤ 4096
  accepted_count = let (es, l, q) = listed_of job ps e in omega (arith, (filled job es l).few, ap length q)
