-- The commands that a walk over a job reaches, whether the job is accepted or refused further on; and the place where the walk of
-- the code stands after some of them, with the state that it holds there: the code's own step, one command after the other.
use Rattle.std.specs.Prelude.{◌≡◌, Bool, ◌||◌, cond, List, [], ◌∷◌, ◌++◌, map, ℕ, zero, suc, ◌+◌, eqb, leb, ltb, ℤ, length}
use Rattle.layout.specs.Operands.{byte_at}
use Rattle.walls.specs.declared.Storey.{Storey}
use Rattle.format.specs.declared.Command.{Command}
use Rattle.blocks.specs.FileCommands.{block}
use Rattle.context.specs.Context.{Context, nothing}
use Rattle.context.specs.Running.{JointTable}
use Rattle.rows.specs.Writing.{stored_all}
use Rattle.job.specs.declared.Counts.{Counts}
use Rattle.job.specs.declared.Place.{Place}
use Rattle.job.specs.Counts.{first_counts, counted}
use Rattle.job.specs.Faults.{tests_at, first_of, after_command}
use Rattle.job.specs.Placed.{Placed, context_after, Entry, entry_at, commands_in, placed_in, placed_all, all_rows}
use Rattle.job.specs.Earlier.{end_of}
use Rattle.job.specs.Walking.{state_through, joints_through, first_place, walk_from}

-- ---- the commands reached

-- the walk stops at an offset: no byte stands there, or a command at fault, or the end
abbrev pub stops_at : List ℕ → ℕ → Counts → Context → Bool
stops_at job at counts h = leb (length job) at || (ltb 0 (first_of (tests_at job at counts h)) || eqb (byte_at job at) 0)

-- from an offset on, with what is counted before it and what holds there; the first number as in `listed_by`
unfoldable pub reached_from : ℕ → List ℕ → ℕ → Counts → Context → List Entry
reached_from zero job at counts h = []
reached_from (suc n) job at counts h =
    let here = entry_at job at h in
    let rest = reached_from n job (after_command job at) (counted counts here.given) (context_after h (placed_in here)) in
    cond (stops_at job at counts h) [] (here ∷ rest)

-- of a whole job: the commands of the file before the one at which the walk stops, each with its offset and its context. Of an
-- accepted job they are the commands of the file.
unfoldable pub reached : List ℕ → List Entry
reached job = reached_from 4097 job 0 first_counts nothing

-- ---- the walk of the code at them

-- placed commands without their contexts
abbrev pub located : List Placed → List (ℕ × Command)
located ps = map (λ p. (p.offset, p.command)) ps

-- behind one command of the file: the offset after it, what is counted with it, its rows more, and the state after the commands that it
-- gives
abbrev pub place_behind : Bool → Place → Entry → Place
place_behind room s e =
    record {
      offset = end_of e;
      counts = counted s.counts e.given;
      rows = s.rows + length (all_rows (placed_in e));
      state = state_through room s.state (commands_in e);
    }

abbrev pub place_after : Bool → Place → List Entry → Place
place_after room s [] = s
place_after room s (e ∷ es) = place_after room (place_behind room s e) es

-- the walk from the start stands at that place after these commands: with a budget of as many it pauses there (n = 0), and with
-- more it goes on from there
abbrev pub StandsAfter : Bool → List ℕ → JointTable → List ℤ → List Entry → Type 0
StandsAfter room job joints memory es =
    (n : ℕ) →
    walk_from room (length es + n) job first_place joints memory
    ≡ walk_from room n job (place_after room first_place es) (joints_through joints (located (placed_all es))) (stored_all memory 0 (all_rows (placed_all es)))

-- ---- behind a block

-- what holds at the command behind a block is what held at the block, wherever the walk reaches both. 02, No. 7: a block gives storeys
-- and nothing else
abbrev pub BlocksKeep : List ℕ → Type 0
BlocksKeep job =
    (before : List Entry) (x y : Entry) (after : List Entry) → reached job ≡ before ++ x ∷ y ∷ after →
    (ss : List Storey) → x.given ≡ block ss → y.context ≡ x.context
