-- A command by itself with a greater operand: the second job is accepted where the command is in range, its rows are the first's but for
-- those of the command, and where one of these tells of the operand, that one is stronger. Assumes nothing.
use mathlib.Core.Path.{◌≡◌, refl, sym, ap, ap₂, ◌∙◌, subst}
use mathlib.Core.Bool.{true, false}
use mathlib.Core.Logic.{inl}
use mathlib.Core.List.{List, [], ◌∷◌, ◌++◌, append_assoc, map}
use Rattle.std.specs.Prelude.{Some}
use Rattle.std.proofs.lemmas.List.{map-append}
use Prim.Native.Nat.{ℕ, ◌+◌, ◌*◌, ◌≤◌}
use native.Mathlib.Omega.{arith}
use lib.IntN.{ℤ}
use lib.ListN.{length, length-append, length-map}
use Rattle.coefficient.specs.declared.Settings.{Settings}
use Rattle.claims.specs.declared.Row.{Row}
use Rattle.layout.specs.Operands.{byte_at}
use Rattle.layout.proofs.OperandsRead.{offset_in_command}
use Rattle.format.specs.declared.Command.{Command}
use Rattle.format.specs.Commands.{byte_of, in_range, command_of}
use Rattle.blocks.specs.Sets.{is_block}
use Rattle.blocks.specs.FileCommands.{FileCommand, one, file_byte_of, width_of}
use Rattle.blocks.proofs.FileCommands.{at_one, no_block, one_read}
use Rattle.writing.specs.Answers.{file_in_range}
use Rattle.context.specs.Context.{Context, absent}
use Rattle.context.proofs.Shown.{present}
use Rattle.rows.specs.Rows.{rows_of, words}
use Rattle.job.specs.Answers.{size_of}
use Rattle.job.specs.Placed.{Entry, placed_in, placed_all, accepted, listed, placed, all_rows}
use Rattle.job.proofs.Faultless.{Standing, settings_there}
use Rattle.job.proofs.PlacedCases.{placed_of_lem}
use Rattle.job.proofs.AcceptedLaws.{accepted_each}
use Rattle.job.proofs.AlreadyMet.{rows_of_both, placed_both}
use Rattle.capacity.proofs.WrittenAgain.{commands_of}
use Rattle.layout.proofs.Numbers.{Bytes}
use Rattle.strengthening.specs.Raised.{Strength, begins, value, Raised, OneStronger}
use Rattle.strengthening.specs.Others.{rows_count, Strengthened}
use Rattle.strengthening.proofs.ReadRaised.{alike_but, operands, operands_with, command_read, raised_read}
use Rattle.strengthening.proofs.Swapped.{StandsFor, with_given, entries_behind}
use Rattle.strengthening.proofs.InPlace.{Within, there, second_accepted, only_in_range}
use Rattle.strengthening.proofs.Given.{Given, byte_first, first_read, behind_same}
use Rattle.strengthening.proofs.Strengths.{OneRaised, IsOperand, IsStrength}
use Rattle.strengthening.proofs.Runs.{Part, same_size}
use Rattle.strengthening.proofs.OneRow.{one_stronger}

-- a part of the rows, split at one of them
split_at_row : {A B : Type 0} (f : A → B) (front : List B) (before : List A) (r : A) (behind : List A) (rest : List B) →
    front ++ (map f (before ++ r ∷ behind) ++ rest) ≡ (front ++ map f before) ++ (f r ∷ (map f behind ++ rest))
split_at_row f front before r behind rest =
    ap (λ (l : List _). front ++ (l ++ rest)) (map-append f before (r ∷ behind))
    ∙ ap (λ (l : List _). front ++ l) (append_assoc (map f before) (f r ∷ map f behind) rest)
    ∙ sym (append_assoc front (map f before) (f r ∷ (map f behind ++ rest)))

-- the rows of the commands of a file, at one that stands by itself
rows_at_one : (before : List Entry) (at : ℕ) (c : Command) (h : Context) (after : List Entry) →
    all_rows (placed_all (before ++ record { offset = at; given = one c; context = h } ∷ after)) ≡ all_rows (placed_all before) ++ (map (words at (byte_of c)) (rows_of h c) ++ all_rows (placed_all after))
unfolding all_rows
rows_at_one before at c h after =
    ap all_rows (placed_both before (record { offset = at; given = one c; context = h } ∷ after)) ∙ rows_of_both (placed_all before) (record { offset = at; command = c; context = h } ∷ placed_all after)

-- operand i of a command by itself, which begins at an offset
abbrev pub at_command : (byte offset i word bit : ℕ) → Strength
at_command byte offset i word bit = record { byte = byte; from = offset + 1; index = i; word = word; bit = bit }

-- what an operand of the command is raised to, whatever word and bit tell of it
module _ {first second : List ℕ} {before : List Entry} {x : Entry} (j : Given first before x) (b2 : Bytes second) (c : Command) (g : x.given ≡ one c) {i word bit : ℕ} (o : IsOperand (byte_of c) i) (r : Raised first second (at_command (byte_of c) x.offset i word bit)) where
  abbrev byte : ℕ
  byte = byte_of c

  abbrev s : Strength
  s = at_command byte x.offset i word bit

  -- the operands in the first job, and in the second
  abbrev pub old_operands : ℕ → ℕ
  old_operands = operands first s

  abbrev pub new_operands : ℕ → ℕ
  new_operands = operands_with first second s

  inside : Within first second x (begins s)
  inside = record { bytes = b2; alike = alike_but r; behind_byte = omega arith; inside = omega (arith, ap width_of g, offset_in_command byte i o.among, o.four) }

  -- ---- the command in the second job

  abbrev pub stronger : Command
  stronger = command_of byte new_operands

  byte_is : byte_at first x.offset ≡ byte
  byte_is = byte_first j ∙ ap file_byte_of g

  pub c_is : c ≡ command_of byte old_operands
  c_is = sym (one_read first x.offset c (sym (first_read j) ∙ g)) ∙ command_read first x.offset s refl byte_is

  its_is : there j inside ≡ one stronger
  its_is =
      at_one second x.offset (ap is_block (r.alike x.offset (inl (inside.behind_byte)) ∙ byte_is) ∙ no_block c)
      ∙ ap one (raised_read r o.four x.offset refl byte_is)

  stands_stronger : StandsFor x.given (one stronger)
  stands_stronger = subst (λ (z : FileCommand). StandsFor z (one stronger)) (sym (g ∙ ap one c_is)) (o.stands old_operands (value second s))

  stands : StandsFor x.given (there j inside)
  stands = subst (StandsFor x.given) (sym its_is) stands_stronger

  -- the commands of the second job
  abbrev pub entries : List Entry
  entries = before ++ with_given (one stronger) x ∷ entries_behind (one stronger) x (commands_of j.among.after)

  -- where it is in range the second job is accepted, and only there
  accepted_in_range : file_in_range (one stronger) ≡ true → listed second ≡ accepted entries
  accepted_in_range q =
      second_accepted j inside stands (ap file_in_range its_is ∙ q)
      ∙ ap (λ (y : FileCommand). accepted (before ++ with_given y x ∷ entries_behind y x (commands_of j.among.after))) its_is

  in_range_accepted : (fs : List Entry) → listed second ≡ accepted fs → file_in_range (one stronger) ≡ true
  in_range_accepted fs a = ap file_in_range (sym its_is) ∙ only_in_range j inside stands fs a

  -- ---- what it needs holds

  entry_is : x ≡ record { offset = x.offset; given = one c; context = x.context }
  entry_is = ap (λ (y : FileCommand). with_given y x) g

  pub placed_first : placed first ≡ accepted (placed_all j.among.commands)
  placed_first = placed_of_lem first j.among.commands j.among.is_accepted

  standing : Standing (record { offset = x.offset; command = c; context = x.context })
  standing =
      (accepted_each first (placed_all j.among.commands) placed_first (placed_all before) (record { offset = x.offset; command = c; context = x.context }) (placed_all j.among.after)
      (ap placed_all j.among.place ∙ placed_both before (x ∷ j.among.after) ∙ ap (λ (y : Entry). placed_all before ++ (placed_in y ++ placed_all j.among.after)) entry_is)).1

  pub settings_hold : (t : Settings) × (x.context.settings ≡ Some t)
  settings_hold = present x.context.settings (settings_there byte o.other x.context.settings standing.settings)

  pub asked_holds : absent x.context (command_of byte old_operands) ≡ false
  asked_holds = ap (absent x.context) (sym c_is) ∙ standing.present

  pub placed_second : (fs : List Entry) → listed second ≡ accepted fs → placed second ≡ accepted (placed_all entries)
  placed_second fs a = placed_of_lem second entries (accepted_in_range (in_range_accepted fs a))

  -- a force or a moment in its range leaves the job accepted
  pub placed_ranged : value second s ≤ 100000000 → placed second ≡ accepted (placed_all entries)
  placed_ranged l = placed_of_lem second entries (accepted_in_range (o.ranged old_operands (value second s) l (ap in_range (sym c_is) ∙ standing.range)))

  -- ---- the rows: those of the command, between the same

  abbrev pub with_rows : List Row → List (List ℤ)
  with_rows rs = all_rows (placed_all before) ++ (map (words x.offset byte) rs ++ all_rows (placed_all j.among.after))

  pub rows_first : all_rows (placed_all j.among.commands) ≡ with_rows (rows_of x.context (command_of byte old_operands))
  rows_first =
      ap (λ (xs : List Entry). all_rows (placed_all xs)) (j.among.place ∙ ap (λ (y : Entry). before ++ y ∷ j.among.after) entry_is)
      ∙ rows_at_one before x.offset c x.context j.among.after
      ∙ ap with_rows (ap (rows_of x.context) c_is)

  pub rows_second : all_rows (placed_all entries) ≡ with_rows (rows_of x.context stronger)
  rows_second =
      let same_byte : byte_of stronger ≡ byte = (o.stands old_operands (value second s)).byte ∙ ap byte_of (sym c_is) in
      rows_at_one before x.offset stronger x.context (entries_behind (one stronger) x (commands_of j.among.after))
      ∙ ap₂ (λ (b : ℕ) (rest : List (List ℤ)). all_rows (placed_all before) ++ (map (words x.offset b) (rows_of x.context stronger) ++ rest)) same_byte (behind_same j (one stronger) stands_stronger)

-- ---- one of its rows tells of the operand

module _ {first second : List ℕ} {before : List Entry} {x : Entry} (j : Given first before x) (b2 : Bytes second) (c : Command) (g : x.given ≡ one c) {i own word bit : ℕ} (k : IsStrength (byte_of c) i own word bit) (r : Raised first second (at_command (byte_of c) x.offset i word bit)) where
  abbrev its : Strength
  its = at_command (byte_of c) x.offset i word bit

  raised : OneRaised x.context (command_of (byte_of c) (old_operands j b2 c g k.operand r)) (stronger j b2 c g k.operand r) own word bit (value first its) (value second its)
  raised =
      let t = settings_hold j b2 c g k.operand r in
      k.rows (old_operands j b2 c g k.operand r) (value second its) (omega (arith, r.greater)) x.context t.0 t.1 (asked_holds j b2 c g k.operand r)

  abbrev front : List (List ℤ)
  front = all_rows (placed_all before) ++ map (words x.offset (byte_of c)) raised.before

  abbrev behind : List (List ℤ)
  behind = map (words x.offset (byte_of c)) raised.behind ++ all_rows (placed_all j.among.after)

  split : (row : Row) → with_rows j b2 c g k.operand r (raised.before ++ row ∷ raised.behind) ≡ front ++ (words x.offset (byte_of c) row ∷ behind)
  split row = split_at_row (words x.offset (byte_of c)) (all_rows (placed_all before)) raised.before row raised.behind (all_rows (placed_all j.among.after))

  part : placed second ≡ accepted (placed_all (entries j b2 c g k.operand r)) → Part first second front (words x.offset (byte_of c) raised.row ∷ []) (words x.offset (byte_of c) raised.other ∷ []) behind
  part a =
      record {
        bytes_first = j.bytes;
        bytes_second = b2;
        commands = placed_all j.among.commands;
        first_accepted = placed_first j b2 c g k.operand r;
        others = placed_all (entries j b2 c g k.operand r);
        second_accepted = a;
        first_rows = rows_first j b2 c g k.operand r ∙ ap (with_rows j b2 c g k.operand r) raised.first ∙ split raised.row;
        second_rows = rows_second j b2 c g k.operand r ∙ ap (with_rows j b2 c g k.operand r) raised.second ∙ split raised.other;
        as_long = refl;
      }

  its_row : length front ≡ rows_count before + own
  its_row =
      length-append (all_rows (placed_all before)) (map (words x.offset (byte_of c)) raised.before)
      ∙ ap (λ (n : ℕ). rows_count before + n) (length-map raised.before (words x.offset (byte_of c)) ∙ raised.place)

  still_accepted : value second its ≤ 100000000 → size_of second ≡ size_of first
  still_accepted l = same_size (part (placed_ranged j b2 c g k.operand r l))

  one_row : (fs : List Entry) → listed second ≡ accepted fs → (lent other : List ℤ) → 8 * rows_count j.among.commands ≤ length lent → 8 * rows_count j.among.commands ≤ length other →
      OneStronger first second lent other (rows_count j.among.commands) (rows_count before + own) its
  unfolding part
  one_row fs a lent other room1 room2 =
      one_stronger x.offset (byte_of c) raised.row raised.other (part (placed_second j b2 c g k.operand r fs a)) its raised.raised
      (raised.old_is x.offset (byte_of c)) (raised.new_is x.offset (byte_of c)) (rows_count before + own) its_row (record { first = room1; second = room2 })

  pub single_strengthened : Strengthened OneStronger first second (rows_count j.among.commands) (rows_count before + own) its
  single_strengthened = record { runs = one_row; still_accepted = still_accepted }
