-- A file of commands is accepted exactly where each of them passes the tests after those before it, and its placed commands are the
-- commands that they give. Assumes nothing.
use mathlib.Core.Bool.{true}
use mathlib.Core.Path.{◌≡◌, refl, sym, ap, ap₂, ◌∙◌}
use mathlib.Core.List.{List, [], ◌∷◌, ◌++◌, append_assoc, append-nil, map}
use Prim.Native.Nat.{ℕ, zero, suc, ◌+◌, ◌<◌}
use native.Mathlib.Omega.{arith}
use native.Mathlib.Nat.{not-suc-le-zero}
use lib.IntN.{ℤ}
use lib.ListN.{length, length-append}
use Rattle.layout.specs.Operands.{byte_at}
use Rattle.blocks.proofs.FileCommands.{width_some}
use Rattle.claims.specs.declared.Row.{Row}
use Rattle.walls.specs.declared.Storey.{Storey}
use Rattle.format.specs.declared.Command.{Command}
use Rattle.format.specs.declared.Command.TheVariants.{Finish as finish, Storey as storey}
use Rattle.format.specs.Commands.{byte_of}
use Rattle.blocks.specs.FileCommands.{FileCommand, one, block, width_of, storeys_from, commands_from, given}
use Rattle.writing.specs.Bytes.{bytes_of, file_bytes_of}
use Rattle.writing.specs.Answers.{file_in_range}
use Rattle.writing.specs.Files.{OfFileTypes, Writable, AllWritable, all_bytes}
use Rattle.format.proofs.RangeTest.{end_in_range}
use Rattle.writing.proofs.Answered.{file_bytes_width}
use Rattle.writing.proofs.BlockReadBack.{byte_there, width_there, read_back}
use Rattle.writing.proofs.FileReadBack.{end_byte, all_and_end}
use Rattle.context.specs.Context.{Context, nothing, next}
use Rattle.rows.specs.Rows.{rows_of, words}
use Rattle.job.specs.declared.Counts.{Counts}
use Rattle.job.specs.Counts.{first_counts, counted}
use Rattle.job.specs.Faults.{tests_at, after_command}
use Rattle.job.specs.Placed.{place_each, Entry, entry_at, commands_in, placed_in, placed_all, Listing, refused, accepted, before, listed_by, listed, all_rows}
use Rattle.job.proofs.PlacedCases.{not_both, counts_behind, context_behind, rest_after, placed_end, placed_goes, by_cases}
use Rattle.job.proofs.AlreadyMet.{rows_of_both}
use Rattle.job.proofs.Passing.{Passes, PassesAt, EndPasses, through, Whole, tests_pass, tests_passed, end_pass, end_passed, counts_are, context_is, passes_few}
use Rattle.capacity.specs.Singly.{file_of, without_offsets}

-- ---- the commands of a file, as they stand in it

pub bytes_both : (cs ds : List FileCommand) → all_bytes (cs ++ ds) ≡ all_bytes cs ++ all_bytes ds
unfolding all_bytes
bytes_both [] ds = refl
bytes_both (c ∷ cs) ds = ap (λ (l : List ℕ). file_bytes_of c ++ l) (bytes_both cs ds) ∙ sym (append_assoc (file_bytes_of c) (all_bytes cs) (all_bytes ds))

-- each of two lists could have been written where both could
pub writable_front : (cs ds : List FileCommand) → AllWritable (cs ++ ds) → AllWritable cs
writable_front [] ds w = tt
writable_front (c ∷ cs) ds (w, ws) = (w, writable_front cs ds ws)

pub writable_behind : (cs ds : List FileCommand) → AllWritable (cs ++ ds) → AllWritable ds
writable_behind [] ds w = w
writable_behind (c ∷ cs) ds (w, ws) = writable_behind cs ds ws

-- the entries of commands one after the other, the first at an offset with this context
abbrev pub entries_from : ℕ → Context → List FileCommand → List Entry
entries_from at h [] = []
entries_from at h (c ∷ cs) = record { offset = at; given = c; context = h } ∷ entries_from (at + width_of c) (through h (given c)) cs

-- a command in range stands whole behind what is in front of it
stands_whole : (front : List ℕ) (c : FileCommand) (rest : List ℕ) → OfFileTypes c → file_in_range c ≡ true → Whole (front ++ (file_bytes_of c ++ rest)) (length front) c
stands_whole front c rest t r =
    record {
      byte = byte_there front rest c;
      read = read_back front rest c t r;
      width = width_there front rest c;
      whole = omega (arith, width_there front rest c, file_bytes_width c, length-append front (file_bytes_of c ++ rest), length-append (file_bytes_of c) rest);
    }

-- a file from some commands on, with its end
abbrev pub rest_of : List FileCommand → List ℕ
rest_of cs = all_bytes cs ++ (bytes_of finish ++ [])

-- ---- at the end

module _ (front : List ℕ) (n : ℕ) (counts : Counts) (h : Context) where
  abbrev ended : List ℕ
  ended = front ++ (bytes_of finish ++ [])

  end_whole : Whole ended (length front) (one finish)
  end_whole = stands_whole front (one finish) [] tt end_in_range

  end_length : length ended ≡ length front + 1
  end_length = length-append front (bytes_of finish ++ []) ∙ ap (λ (k : ℕ). length front + k) (ap length (append-nil (bytes_of finish) ∙ end_byte))

  end_accepted : EndPasses h → listed_by tests_at (suc n) ended (length front) counts h ≡ accepted []
  end_accepted p =
      placed_end tests_at n ended (length front) counts h (omega (arith, end_length)) (end_pass ended (length front) counts h end_whole p) end_whole.byte (omega (arith, end_length))

  end_passing : (es : List Entry) → listed_by tests_at (suc n) ended (length front) counts h ≡ accepted es → EndPasses h
  end_passing es =
      by_cases tests_at n ended (length front) counts h (λ j. j ≡ accepted es → EndPasses h) (λ l q. absurd (not_both q)) (λ l k e q. absurd (not_both q)) (λ l e b m q. absurd (not_both q))
      (λ l e b m q. end_passed ended (length front) counts h end_whole e) (λ l e b q. absurd (b end_whole.byte))

-- ---- at a command

module _ (front : List ℕ) (c : FileCommand) (cs : List FileCommand) (w : Writable c) (n : ℕ) (counts : Counts) (h : Context) where
  abbrev job : List ℕ
  job = front ++ (file_bytes_of c ++ rest_of cs)

  here : Whole job (length front) c
  here = stands_whole front c (rest_of cs) w.types w.range

  no_end : byte_at job (length front) ≡ 0 → ⊥
  no_end z = w.other (sym here.byte ∙ z)

  next_front : after_command job (length front) ≡ length (front ++ file_bytes_of c)
  next_front = omega (arith, here.width, file_bytes_width c, length-append front (file_bytes_of c))

  inside : length front < length job
  inside = omega (arith, here.whole, width_some job (length front))

  -- what follows it is the file from the next command on
  rest_is : rest_after tests_at n job (length front) counts h ≡ listed_by tests_at n ((front ++ file_bytes_of c) ++ rest_of cs) (length (front ++ file_bytes_of c)) (counted counts c) (through h (given c))
  rest_is =
      ap (λ (k : ℕ). listed_by tests_at n job k (counts_behind job (length front) counts) (context_behind job (length front) h)) next_front
      ∙ ap (λ (k : Counts). listed_by tests_at n job (length (front ++ file_bytes_of c)) k (context_behind job (length front) h)) (counts_are job (length front) c here counts)
      ∙ ap (listed_by tests_at n job (length (front ++ file_bytes_of c)) (counted counts c)) (context_is job (length front) c here h)
      ∙ ap (λ (l : List ℕ). listed_by tests_at n l (length (front ++ file_bytes_of c)) (counted counts c) (through h (given c))) (sym (append_assoc front (file_bytes_of c) (rest_of cs)))

  goes_accepted : PassesAt counts h c → (es : List Entry) →
      listed_by tests_at n ((front ++ file_bytes_of c) ++ rest_of cs) (length (front ++ file_bytes_of c)) (counted counts c) (through h (given c)) ≡ accepted es →
      listed_by tests_at (suc n) job (length front) counts h ≡ accepted (record { offset = length front; given = c; context = h } ∷ es)
  goes_accepted p es e =
      placed_goes tests_at n job (length front) counts h inside (tests_pass job (length front) counts h c here p) no_end
      ∙ ap (before (entry_at job (length front) h)) (rest_is ∙ e)
      ∙ ap (λ (x : FileCommand). accepted (record { offset = length front; given = x; context = h } ∷ es)) here.read

  -- it passes, and the file from the next command on is accepted
  pub record Passing : Type 0 where
    pub own : PassesAt counts h c
    pub later : List Entry
    pub rest : listed_by tests_at n ((front ++ file_bytes_of c) ++ rest_of cs) (length (front ++ file_bytes_of c)) (counted counts c) (through h (given c)) ≡ accepted later

  pub goes_passing : (es : List Entry) → listed_by tests_at (suc n) job (length front) counts h ≡ accepted es → Passing
  goes_passing es =
      by_cases tests_at n job (length front) counts h (λ j. j ≡ accepted es → Passing) (λ l q. absurd (not_both q)) (λ l k e q. absurd (not_both q)) (λ l e b m q. absurd (not_both q))
      (λ l e b m q. absurd (no_end b)) (λ l e b q. behind (tests_passed job (length front) counts h c here w.other e) (rest_after tests_at n job (length front) counts h) refl q)
    where
      behind : PassesAt counts h c → (j : Listing) → rest_after tests_at n job (length front) counts h ≡ j → before (entry_at job (length front) h) j ≡ accepted es → Passing
      behind p (refused number offset) r q = absurd (not_both q)
      behind p (accepted later) r q = record { own = p; later = later; rest = sym rest_is ∙ r }

-- ---- the whole file

pub split : (front : List ℕ) (c : FileCommand) (cs : List FileCommand) → front ++ rest_of (c ∷ cs) ≡ front ++ (file_bytes_of c ++ rest_of cs)
unfolding all_bytes
split front c cs = ap (λ (l : List ℕ). front ++ l) (append_assoc (file_bytes_of c) (all_bytes cs) (bytes_of finish ++ []))

from_accepted : (cs : List FileCommand) → AllWritable cs → (front : List ℕ) (n : ℕ) (counts : Counts) (h : Context) → length cs < n → Passes counts h cs → listed_by tests_at n (front ++ rest_of cs) (length front) counts h ≡ accepted (entries_from (length front) h cs)
unfolding all_bytes
from_accepted [] w front zero counts h l p = absurd (not-suc-le-zero l)
from_accepted (c ∷ cs) w front zero counts h l p = absurd (not-suc-le-zero l)
from_accepted [] w front (suc n) counts h l p = end_accepted front n counts h p
from_accepted (c ∷ cs) (w, ws) front (suc n) counts h l (o, p) =
    let next : length (front ++ file_bytes_of c) ≡ length front + width_of c = length-append front (file_bytes_of c) ∙ ap (λ (k : ℕ). length front + k) (file_bytes_width c) in
    ap (λ (j : List ℕ). listed_by tests_at (suc n) j (length front) counts h) (split front c cs)
    ∙ goes_accepted front c cs w n counts h o (entries_from (length front + width_of c) (through h (given c)) cs)
    (from_accepted cs ws (front ++ file_bytes_of c) n (counted counts c) (through h (given c)) (omega arith) p ∙ ap (λ (k : ℕ). accepted (entries_from k (through h (given c)) cs)) next)

from_passing : (cs : List FileCommand) → AllWritable cs → (front : List ℕ) (n : ℕ) (counts : Counts) (h : Context) (es : List Entry) → listed_by tests_at n (front ++ rest_of cs) (length front) counts h ≡ accepted es → Passes counts h cs
unfolding all_bytes listed_by
from_passing [] w front zero counts h es e = absurd (not_both e)
from_passing (c ∷ cs) w front zero counts h es e = absurd (not_both e)
from_passing [] w front (suc n) counts h es e = end_passing front n counts h es e
from_passing (c ∷ cs) (w, ws) front (suc n) counts h es e =
    let p = goes_passing front c cs w n counts h es (ap (λ (j : List ℕ). listed_by tests_at (suc n) j (length front) counts h) (sym (split front c cs)) ∙ e) in
    (p.own, from_passing cs ws (front ++ file_bytes_of c) n (counted counts c) (through h (given c)) p.later p.rest)

module _ (cs : List FileCommand) (w : AllWritable cs) where
  pub file_is : file_of cs ≡ rest_of cs
  file_is = all_and_end cs ∙ ap (λ (l : List ℕ). all_bytes cs ++ l) (sym (append-nil (bytes_of finish)))

  -- where they pass, they are the commands of the file
  pub file_accepted : Passes first_counts nothing cs → listed (file_of cs) ≡ accepted (entries_from 0 nothing cs)
  unfolding listed
  file_accepted p =
      ap (λ (j : List ℕ). listed_by tests_at 4097 j 0 first_counts nothing) file_is
      ∙ from_accepted cs w [] 4097 first_counts nothing (omega (arith, passes_few first_counts nothing cs (omega arith) p)) p

  -- and only there is it accepted
  pub file_passes : (es : List Entry) → listed (file_of cs) ≡ accepted es → Passes first_counts nothing cs
  unfolding listed
  file_passes es e = from_passing cs w [] 4097 first_counts nothing es (ap (λ (j : List ℕ). listed_by tests_at 4097 j 0 first_counts nothing) (sym file_is) ∙ e)

-- ---- the rows, word 0 aside

-- the commands that all of them give
abbrev pub given_all : List FileCommand → List Command
given_all [] = []
given_all (c ∷ cs) = given c ++ given_all cs

-- the rows of commands, one after the other, word 0 aside
unfoldable pub rows_given : Context → List Command → List (List ℤ)
rows_given h [] = []
rows_given h (c ∷ cs) = without_offsets (map (words 0 (byte_of c)) (rows_of h c)) ++ rows_given (next h c) cs

rows_given_both : (h : Context) (cs ds : List Command) → rows_given h (cs ++ ds) ≡ rows_given h cs ++ rows_given (through h cs) ds
unfolding rows_given
rows_given_both h [] ds = refl
rows_given_both h (c ∷ cs) ds =
    let own = without_offsets (map (words 0 (byte_of c)) (rows_of h c)) in
    ap (λ (xs : List (List ℤ)). own ++ xs) (rows_given_both (next h c) cs ds) ∙ sym (append_assoc own (rows_given (next h c) cs) (rows_given (through (next h c) cs) ds))

offsets_both : (xs ys : List (List ℤ)) → without_offsets (xs ++ ys) ≡ without_offsets xs ++ without_offsets ys
offsets_both [] ys = refl
offsets_both (x ∷ xs) ys = ap (λ (l : List (List ℤ)). without_offsets (x ∷ []) ++ l) (offsets_both xs ys)

-- whatever the offset is
own_words : (offset byte : ℕ) (rows : List Row) → without_offsets (map (words offset byte) rows) ≡ without_offsets (map (words 0 byte) rows)
own_words offset byte [] = refl
own_words offset byte (r ∷ rs) = ap (λ (l : List (List ℤ)). without_offsets (words 0 byte r ∷ []) ++ l) (own_words offset byte rs)

-- of commands with their offsets
abbrev commands : List (ℕ × Command) → List Command
commands [] = []
commands ((at, c) ∷ cs) = c ∷ commands cs

rows_each : (h : Context) (cs : List (ℕ × Command)) → without_offsets (all_rows (place_each h cs)) ≡ rows_given h (commands cs)
unfolding all_rows rows_given
rows_each h [] = refl
rows_each h ((at, c) ∷ cs) =
    offsets_both (map (words at (byte_of c)) (rows_of h c)) (all_rows (place_each (next h c) cs)) ∙ ap₂ ◌++◌ (own_words at (byte_of c) (rows_of h c)) (rows_each (next h c) cs)

commands_given : (at : ℕ) (c : FileCommand) → commands (commands_from at c) ≡ given c
commands_given at (one c) = refl
commands_given at (block ss) = sets (at + 2) ss
  where
    sets : (at : ℕ) (ss : List Storey) → commands (storeys_from at ss) ≡ map (λ s. storey s) ss
    sets at [] = refl
    sets at (s ∷ ss) = ap (λ (l : List Command). storey s ∷ l) (sets (at + 24) ss)

-- they depend on the commands that are given alone
pub file_rows : (at : ℕ) (h : Context) (cs : List FileCommand) → without_offsets (all_rows (placed_all (entries_from at h cs))) ≡ rows_given h (given_all cs)
unfolding all_rows rows_given
file_rows at h [] = refl
file_rows at h (c ∷ cs) =
    let x : Entry = record { offset = at; given = c; context = h } in
    let later = entries_from (at + width_of c) (through h (given c)) cs in
    ap without_offsets (rows_of_both (placed_in x) (placed_all later))
    ∙ offsets_both (all_rows (placed_in x)) (all_rows (placed_all later))
    ∙ ap₂ ◌++◌ (rows_each h (commands_in x) ∙ ap (rows_given h) (commands_given at c)) (file_rows (at + width_of c) (through h (given c)) cs)
    ∙ sym (rows_given_both h (given c) (given_all cs))

pub rows_alike : (cs ds : List FileCommand) → given_all cs ≡ given_all ds → without_offsets (all_rows (placed_all (entries_from 0 nothing cs))) ≡ without_offsets (all_rows (placed_all (entries_from 0 nothing ds)))
rows_alike cs ds e = file_rows 0 nothing cs ∙ ap (rows_given nothing) e ∙ sym (file_rows 0 nothing ds)
