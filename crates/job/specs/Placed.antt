-- The commands of a job, from its bytes alone, or the refusal. There are two lists. The commands of the file: each with its offset and
-- its context, a command by itself or a block of storeys. The placed commands, made from it: a block is placed as its storeys, each at
-- the offset of its set's first byte. Rows and exact values are both made from the placed commands. 01, "Who can make a job fail"; 02,
-- No. 7.
use Rattle.std.specs.Prelude.{cond, List, [], ◌∷◌, ◌++◌, map, ℕ, zero, suc, ◌+◌, eqb, leb, ltb, ℤ, length}
use Rattle.format.specs.declared.Command.{Command}
use Rattle.format.specs.Commands.{byte_of}
use Rattle.layout.specs.Operands.{byte_at}
use Rattle.blocks.specs.FileCommands.{FileCommand, file_command_at, commands_from}
use Rattle.context.specs.Context.{Context, nothing, next}
use Rattle.rows.specs.Rows.{rows_of, words}
use Rattle.job.specs.declared.Counts.{Counts}
use Rattle.job.specs.Counts.{first_counts, counted}
use Rattle.job.specs.Faults.{Tests, tests_at, first_of, after_command}

-- ---- placed commands

pub record Placed : Type 0 where
  pub offset : ℕ
  pub command : Command
  pub context : Context

-- what holds after these commands
abbrev pub context_after : Context → List Placed → Context
context_after h [] = h
context_after h (p ∷ ps) = context_after (next h p.command) ps

-- commands with their offsets, the first with this context, and each of the others with what those before it leave
abbrev pub place_each : Context → List (ℕ × Command) → List Placed
place_each h [] = []
place_each h ((at, c) ∷ cs) = record { offset = at; command = c; context = h } ∷ place_each (next h c) cs

-- ---- the commands of the file

pub record Entry : Type 0 where
  pub offset : ℕ
  pub given : FileCommand
  pub context : Context

-- the one at an offset
abbrev pub entry_at : List ℕ → ℕ → Context → Entry
entry_at job at h = record { offset = at; given = file_command_at job at; context = h }

-- the commands that it gives, each with its offset, and as they are placed
abbrev pub commands_in : Entry → List (ℕ × Command)
commands_in e = commands_from e.offset e.given

abbrev pub placed_in : Entry → List Placed
placed_in e = place_each e.context (commands_in e)

-- those of the whole list, one after the other
abbrev pub placed_all : List Entry → List Placed
placed_all [] = []
placed_all (e ∷ es) = placed_in e ++ placed_all es

-- ---- accepted or refused

pub data JobOf (A : Type 0) : Type 0 where
  -- number and offset
  refused : ℕ → ℕ → JobOf A
  -- the commands, without the end
  accepted : List A → JobOf A

abbrev pub Listing : Type 0
Listing = JobOf Entry

abbrev pub Job : Type 0
Job = JobOf Placed

abbrev pub before : Entry → Listing → Listing
before e (refused number offset) = refused number offset
before e (accepted es) = accepted (e ∷ es)

-- From an offset on, with what is counted before it and what holds there. No end is refusal 1 at the file's length, bytes after the
-- end are refusal 3 at the first. The first number is how many commands of the file may still be read: each counts as one command at
-- least and a 4,097th is refused, so 4,097 of them and the end are enough from the start, and with none left the answer is that
-- refusal. The tests are handed in, so that what two lists of tests accept can be compared.
unfoldable pub listed_by : Tests → ℕ → List ℕ → ℕ → Counts → Context → Listing
listed_by tests zero job at counts h = refused 8 at
listed_by tests (suc n) job at counts h =
    let fault = first_of (tests job at counts h) in
    let here = entry_at job at h in
    let rest = listed_by tests n job (after_command job at) (counted counts here.given) (context_after h (placed_in here)) in
    cond (leb (length job) at) (refused 1 (length job))
    (cond (ltb 0 fault) (refused fault at)
    (cond (eqb (byte_at job at) 0) (cond (ltb (at + 1) (length job)) (refused 3 (at + 1)) (accepted []))
    (before here rest)))

-- of a whole job, by any tests
abbrev pub listed_with : Tests → List ℕ → Listing
listed_with tests job = listed_by tests 4097 job 0 first_counts nothing

-- by the tests of 01 and 02
unfoldable pub listed : List ℕ → Listing
listed job = listed_with tests_at job

-- the placed commands of what was listed
abbrev pub placed_of : Listing → Job
placed_of (refused number offset) = refused number offset
placed_of (accepted es) = accepted (placed_all es)

abbrev pub placed_with : Tests → List ℕ → Job
placed_with tests job = placed_of (listed_with tests job)

unfoldable pub placed : List ℕ → Job
unfolding listed
placed job = placed_of (listed job)

-- ---- the rows of placed commands

-- the rows of one, each of eight words
abbrev pub rows_at : Placed → List (List ℤ)
rows_at p = map (words p.offset (byte_of p.command)) (rows_of p.context p.command)

unfoldable pub all_rows : List Placed → List (List ℤ)
all_rows [] = []
all_rows (p ∷ ps) = rows_at p ++ all_rows ps
