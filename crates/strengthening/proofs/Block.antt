-- A storey of a block with a greater strength: its row is stronger, and every other is the same. Assumes nothing.
use mathlib.Core.Path.{◌≡◌, refl, sym, ap, ◌∙◌, subst}
use mathlib.Core.Bool.{true}
use mathlib.Core.List.{List, [], ◌∷◌, ◌++◌, append_assoc}
use mathlib.Core.Logic.{inl}
use Rattle.std.specs.Prelude.{Some}
use Prim.Native.Nat.{ℕ, ◌+◌, ◌*◌, ◌≤◌}
use native.Mathlib.Omega.{arith}
use lib.IntN.{ℤ, pos}
use lib.ListN.{length, length-append}
use Rattle.coefficient.specs.declared.Settings.{Settings}
use Rattle.walls.specs.declared.Storey.{Storey}
use Rattle.walls.specs.declared.WallBase.{WallBase}
use Rattle.walls.specs.Storey.{storey_row}
use Rattle.layout.specs.Operands.{byte_at}
use Rattle.layout.proofs.OperandsRead.{offset_in_command}
use Rattle.layout.proofs.Widths.{widths}
use Rattle.format.specs.declared.Command.TheVariants.{Storey as storey}
use Rattle.format.specs.Commands.{in_range, storey_of, command_of}
use Rattle.format.proofs.RangeTest.{and_second}
use Rattle.blocks.specs.Sets.{is_block, count_at, count_in_range, storeys_at, all_in_range}
use Rattle.blocks.specs.FileCommands.{FileCommand, block, file_byte_of, width_of}
use Rattle.blocks.proofs.FileCommands.{at_block}
use Rattle.writing.specs.Answers.{file_in_range}
use Rattle.rows.specs.Rows.{words}
use Rattle.job.specs.Placed.{Entry, placed_all, accepted, listed, all_rows}
use Rattle.job.proofs.PlacedCases.{placed_of_lem}
use Rattle.job.proofs.AlreadyMet.{rows_of_both, placed_both}
use Rattle.capacity.proofs.WrittenAgain.{commands_of}
use Rattle.capacity.proofs.BlockHolds.{placed_set, placed_sets, sets_split, set_row, sets_many}
use Rattle.layout.proofs.Numbers.{Bytes}
use Rattle.strengthening.specs.Raised.{Strength, begins, value, Raised, word_of, OneStronger}
use Rattle.strengthening.specs.Others.{rows_count, Strengthened}
use Rattle.strengthening.proofs.ReadRaised.{alike_but, operands, operands_with}
use Rattle.strengthening.proofs.ReadBlock.{at_set, SetPut, set_put}
use Rattle.strengthening.proofs.Swapped.{StandsFor, with_given, entries_behind}
use Rattle.strengthening.proofs.InPlace.{Within, there, second_accepted, only_in_range}
use Rattle.strengthening.proofs.Given.{Given, byte_first, first_read, in_range_first, behind_same}
use Rattle.strengthening.proofs.RowRaised.{RowRaised}
use Rattle.strengthening.proofs.Strengths.{IsOperand}
use Rattle.strengthening.proofs.Runs.{Part, same_size}
use Rattle.strengthening.proofs.OneRow.{one_stronger}
use Rattle.strengthening.proofs.Sets.{block_stands, one_in_range, block_in_range}

-- ---- the two jobs

-- the block has these storeys; operand i of one of them is greater
module _ {first second : List ℕ} {before : List Entry} {x : Entry} (j : Given first before x) (b2 : Bytes second) (ss : List Storey) (s : Storey) (rest : List Storey) (g : x.given ≡ block (ss ++ s ∷ rest)) {i word bit : ℕ} (o : IsOperand 7 i) (r : Raised first second (at_set (x.offset + 2 + 24 * length ss) i word bit)) where
  abbrev from : ℕ
  from = x.offset + 2 + 24 * length ss

  abbrev its : Strength
  its = at_set from i word bit

  inside : Within first second x (begins its)
  inside = record { bytes = b2; alike = alike_but r; behind_byte = omega arith; inside = omega (arith, ap width_of g, length-append ss (s ∷ rest), offset_in_command 7 i o.among, widths.storey, o.four) }

  byte_is : byte_at first x.offset ≡ 11
  byte_is = byte_first j ∙ ap file_byte_of g

  sets_are : storeys_at (count_at first x.offset) first (x.offset + 2) ≡ ss ++ s ∷ rest
  sets_are = let k : block (storeys_at (count_at first x.offset) first (x.offset + 2)) ≡ block (ss ++ s ∷ rest) = sym (at_block first x.offset (ap is_block byte_is)) ∙ sym (first_read j) ∙ g in cc

  both : SetPut r o.four o.among (count_at first x.offset) (x.offset + 2) ss s rest
  both = set_put r o.four o.among (count_at first x.offset) (x.offset + 2) ss s rest sets_are refl

  abbrev old : Storey
  old = storey_of (operands first its)

  abbrev stronger : Storey
  stronger = storey_of (operands_with first second its)

  abbrev block_with : Storey → FileCommand
  block_with t = block (ss ++ t ∷ rest)

  its_is : there j inside ≡ block_with stronger
  its_is =
      at_block second x.offset (ap is_block (r.alike x.offset (inl inside.behind_byte) ∙ byte_is))
      ∙ ap (λ (n : ℕ). block (storeys_at n second (x.offset + 2))) (r.alike (x.offset + 1) (inl (omega arith)))
      ∙ ap block both.sets

  stands : StandsFor x.given (block_with stronger)
  stands = subst (λ (z : FileCommand). StandsFor z (block_with stronger)) (sym g) (block_stands ss s stronger rest)

  abbrev entries : List Entry
  entries = before ++ with_given (block_with stronger) x ∷ entries_behind (block_with stronger) x (commands_of j.among.after)

  in_place : StandsFor x.given (there j inside)
  in_place = subst (StandsFor x.given) (sym its_is) stands

  -- where the block is in range the second job is accepted, and only there
  accepted_in_range : file_in_range (there j inside) ≡ true → listed second ≡ accepted entries
  accepted_in_range q = second_accepted j inside in_place q ∙ ap (λ (y : FileCommand). accepted (before ++ with_given y x ∷ entries_behind y x (commands_of j.among.after))) its_is

  second_list : (fs : List Entry) → listed second ≡ accepted fs → listed second ≡ accepted entries
  second_list fs a = accepted_in_range (only_in_range j inside in_place fs a)

  -- a force or a moment in its range leaves it so
  ranged_list : value second its ≤ 100000000 → listed second ≡ accepted entries
  unfolding command_of
  ranged_list l =
      let block_ranged : file_in_range (block_with s) ≡ true = ap file_in_range (sym g) ∙ in_range_first j in
      let set_ranged : in_range (storey s) ≡ true = one_in_range ss s rest (and_second (count_in_range (length (ss ++ s ∷ rest))) (all_in_range (ss ++ s ∷ rest)) block_ranged) in
      accepted_in_range (ap file_in_range its_is ∙ block_in_range ss s stronger rest block_ranged (o.ranged (operands first its) (value second its) l (ap (λ (u : Storey). in_range (storey u)) (sym both.old) ∙ set_ranged)))

  -- ---- the rows, with the settings and the base that hold

  module _ {t : Settings} {b : WallBase} (ht : x.context.settings ≡ Some t) (hb : x.context.wall ≡ Some b) where
    -- that of the one; those in front of it, and those behind it
    abbrev its_row : Storey → List ℤ
    its_row u = words from 7 (storey_row t.behaviour b u)

    abbrev front : List (List ℤ)
    front = all_rows (placed_all before) ++ all_rows (placed_sets x.context (x.offset + 2) ss)

    abbrev behind : List (List ℤ) → List (List ℤ)
    behind later = all_rows (placed_sets x.context (from + 24) rest) ++ later

    rows_with_set : (u : Storey) (later : List Entry) → all_rows (placed_all (before ++ with_given (block_with u) x ∷ later)) ≡ front ++ (its_row u ∷ behind (all_rows (placed_all later)))
    unfolding all_rows
    rows_with_set u later =
        let first = placed_sets x.context (x.offset + 2) ss in
        let own = placed_set x.context from u in
        let others = placed_sets x.context (from + 24) rest in
        ap all_rows (placed_both before (with_given (block_with u) x ∷ later))
        ∙ rows_of_both (placed_all before) (placed_sets x.context (x.offset + 2) (ss ++ u ∷ rest) ++ placed_all later)
        ∙ ap (λ (l : List (List ℤ)). all_rows (placed_all before) ++ l)
        (rows_of_both (placed_sets x.context (x.offset + 2) (ss ++ u ∷ rest)) (placed_all later)
        ∙ ap (λ (l : List (List ℤ)). l ++ all_rows (placed_all later))
        (ap all_rows (sets_split x.context (x.offset + 2) ss u rest) ∙ rows_of_both first (own ∷ others) ∙ ap (λ (l : List (List ℤ)). all_rows first ++ (l ++ all_rows others)) (set_row x.context t b ht hb from u))
        ∙ append_assoc (all_rows first) (its_row u ∷ all_rows others) (all_rows (placed_all later)))
        ∙ sym (append_assoc (all_rows (placed_all before)) (all_rows first) (its_row u ∷ behind (all_rows (placed_all later))))

    rows_first : all_rows (placed_all j.among.commands) ≡ front ++ (its_row old ∷ behind (all_rows (placed_all j.among.after)))
    rows_first =
        ap (λ (xs : List Entry). all_rows (placed_all xs)) (j.among.place ∙ ap (λ (y : FileCommand). before ++ with_given y x ∷ j.among.after) (g ∙ ap block_with both.old))
        ∙ rows_with_set old j.among.after

    rows_second : all_rows (placed_all entries) ≡ front ++ (its_row stronger ∷ behind (all_rows (placed_all j.among.after)))
    rows_second =
        rows_with_set stronger (entries_behind (block_with stronger) x (commands_of j.among.after))
        ∙ ap (λ (l : List (List ℤ)). front ++ (its_row stronger ∷ behind l)) (behind_same j (block_with stronger) stands)

    part : listed second ≡ accepted entries → Part first second front (its_row old ∷ []) (its_row stronger ∷ []) (behind (all_rows (placed_all j.among.after)))
    part a =
        record {
          bytes_first = j.bytes;
          bytes_second = b2;
          commands = placed_all j.among.commands;
          first_accepted = placed_of_lem first j.among.commands j.among.is_accepted;
          others = placed_all entries;
          second_accepted = placed_of_lem second entries a;
          first_rows = rows_first;
          second_rows = rows_second;
          as_long = refl;
        }

    its_place : length front ≡ rows_count before + length ss
    its_place =
        length-append (all_rows (placed_all before)) (all_rows (placed_sets x.context (x.offset + 2) ss))
        ∙ ap (λ (n : ℕ). rows_count before + n) (sets_many x.context t b ht hb (x.offset + 2) ss)

    pub set_strengthened : RowRaised (storey_row t.behaviour b old) (storey_row t.behaviour b stronger) word bit → word_of (its_row old) word ≡ pos (value first its) → word_of (its_row stronger) word ≡ pos (value second its) →
        Strengthened OneStronger first second (rows_count j.among.commands) (rows_count before + length ss) its
    unfolding part
    set_strengthened raised old_is new_is =
        record {
          runs = λ fs a lent other room1 room2.
              one_stronger from 7 (storey_row t.behaviour b old) (storey_row t.behaviour b stronger) (part (second_list fs a)) its raised old_is new_is (rows_count before + length ss) its_place (record { first = room1; second = room2 });
          still_accepted = λ l. same_size (part (ranged_list l));
        }
