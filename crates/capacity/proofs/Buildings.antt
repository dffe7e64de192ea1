-- In an accepted file each building gives the rows of its own file, offsets moved by that of its settings. The commands of the file are cut
-- at each 0D (CutFile.antt); the bytes of a building are those of its commands, and so its own file is accepted. 02, No. 10. Assumes
-- nothing.
use mathlib.Core.Path.{◌≡◌, refl, sym, ap, ◌∙◌, subst}
use mathlib.Core.List.{List, [], ◌∷◌, ◌++◌, append_assoc, append-nil, map}
use Rattle.std.proofs.Math.ListN.{get_or-map}
use Rattle.std.proofs.lemmas.List.{get_or-append-add}
use Prim.Native.Nat.{ℕ, ◌+◌, ◌-◌, ◌*◌, ◌≤◌, ◌<◌}
use native.Mathlib.Nat.{add-zero}
use native.Mathlib.Omega.{arith}
use lib.IntN.{ℤ}
use lib.ListN.{length, length-append, length-map, get_or, get_or-append, take, drop}
use lib.Seq.{take-append_seam, drop-append_seam}
use borrow.Author.Tests.{le-leb}
use Rattle.layout.specs.Layouts.{operands_width, forms_of, forms_in, width_of_all}
use Rattle.layout.proofs.Numbers.{Bytes}
use Rattle.format.specs.declared.Command.TheVariants.{Building as building}
use Rattle.blocks.specs.FileCommands.{FileCommand, one}
use Rattle.writing.specs.Bytes.{operand_bytes, bytes_of}
use Rattle.writing.specs.Files.{AllWritable, all_bytes}
use Rattle.writing.proofs.FileReadBack.{end_byte, all_and_end}
use Rattle.context.specs.Context.{nothing, next}
use Rattle.rows.specs.Writing.{joined}
use Rattle.rows.proofs.Memory.{Eights}
use Rattle.rows.proofs.Laws.{eights_both}
use Rattle.job.specs.declared.Counts.{Counts}
use Rattle.job.specs.Counts.{first_counts}
use Rattle.job.specs.Placed.{Job, Entry, placed_all, accepted, listed, placed}
use Rattle.job.specs.Answers.{Answer, rows_answer, size_from, size_of}
use Rattle.job.proofs.PlacedCases.{placed_of_lem}
use Rattle.job.proofs.Passing.{Passes}
use Rattle.capacity.specs.Calls.{rows_from, rows_after}
use Rattle.capacity.specs.Singly.{file_of}
use Rattle.capacity.specs.Buildings.{Building, begun_at, cut_at, buildings_of, own_file, words_read, moved, Alone, EachAlone, AllBuildingsAlone}
use Rattle.capacity.proofs.Written.{rows_eight}
use Rattle.capacity.proofs.RowRead.{row_at, row_written}
use Rattle.capacity.proofs.FileListed.{entries_from, bytes_both, writable_front, writable_behind, file_accepted}
use Rattle.capacity.proofs.WrittenAgain.{commands_of}
use Rattle.capacity.proofs.FileAgain.{is_file, writable, passes, entries_are}
use Rattle.capacity.proofs.CutFile.{NoneBegins, NoneOfAll, joined_by_0D, cut, at_end, at_building, alone_passes, behind_passes, context_behind_all, entries_both, none_begun_at, rows_made, rows_moved, building_rows, rows_both, few_begun}

-- ---- bytes

building_byte : bytes_of building ≡ 13 ∷ []
unfolding bytes_of operand_bytes forms_of forms_in
building_byte = refl

building_bytes : (cs : List FileCommand) → all_bytes (one building ∷ cs) ≡ 13 ∷ all_bytes cs
unfolding all_bytes
building_bytes cs = rw building_byte

file_bytes : (cs : List FileCommand) → file_of cs ≡ all_bytes cs ++ 0 ∷ []
file_bytes cs = all_and_end cs ∙ ap (λ (l : List ℕ). all_bytes cs ++ l) end_byte

-- ---- a file of one building's commands

module _ (own : List FileCommand) (w : AllWritable own) (p : Passes first_counts nothing own) where
  abbrev own_rows : List (List ℤ)
  own_rows = rows_made 0 nothing own

  own_accepted : placed (file_of own) ≡ accepted (placed_all (entries_from 0 nothing own))
  own_accepted = placed_of_lem (file_of own) (entries_from 0 nothing own) (file_accepted own w p)

  own_size : size_of (file_of own) ≡ rows_answer (length own_rows)
  unfolding size_of
  own_size = ap size_from own_accepted

  own_words : (alone : List ℤ) → 8 * length own_rows ≤ length alone → (i : ℕ) → i < length own_rows → words_read (rows_after (file_of own) alone) i ≡ get_or own_rows i []
  own_words alone room i l = row_written (file_of own) (placed_all (entries_from 0 nothing own)) own_accepted alone room i l

-- ---- a building in the file

-- these commands, from nothing on, and the end stand behind these bytes, and their rows behind these rows
record Behind (file : List ℕ) (lent : List ℤ) (front : List ℕ) (rows : List (List ℤ)) (cs : List FileCommand) : Type 0 where
  pub bytes : file ≡ front ++ (all_bytes cs ++ 0 ∷ [])
  pub writable : AllWritable cs
  pub eight : Eights rows
  pub tail : List ℤ
  pub words : rows_after file lent ≡ joined (rows ++ rows_made (length front) nothing cs) ++ tail
  pub size : size_of file ≡ rows_answer (length rows + length (rows_made (length front) nothing cs))

-- the first of them are a building's
module _ (file : List ℕ) (lent : List ℤ) (front : List ℕ) (rows : List (List ℤ)) (own ds : List FileCommand) (s : Behind file lent front rows (own ++ ds)) (p : Passes first_counts nothing own) where
  abbrev here : Building
  here = record { from = length front; to = length front + length (all_bytes own) }

  own_is : own_file file here ≡ file_of own
  own_is =
      let n : length front + length (all_bytes own) - length front ≡ length (all_bytes own) = omega arith in
      let split : all_bytes (own ++ ds) ++ 0 ∷ [] ≡ all_bytes own ++ (all_bytes ds ++ 0 ∷ []) = ap (λ (l : List ℕ). l ++ 0 ∷ []) (bytes_both own ds) ∙ append_assoc (all_bytes own) (all_bytes ds) (0 ∷ []) in
      let cut : take (length (all_bytes own)) (drop (length front) file) ≡ all_bytes own =
      ap (λ (l : List ℕ). take (length (all_bytes own)) (drop (length front) l)) s.bytes
      ∙ ap (take (length (all_bytes own))) (drop-append_seam front (all_bytes (own ++ ds) ++ 0 ∷ []) ∙ split)
      ∙ take-append_seam (all_bytes own) (all_bytes ds ++ 0 ∷ []) in
      ap (λ (k : ℕ). take k (drop (length front) file) ++ 0 ∷ []) n ∙ ap (λ (l : List ℕ). l ++ 0 ∷ []) cut ∙ sym (file_bytes own)

  writable_here : AllWritable own
  writable_here = writable_front own ds s.writable

  abbrev rows_alone : List (List ℤ)
  rows_alone = rows_made 0 nothing own

  rows_here : rows_made (length front) nothing own ≡ map (moved (length front)) rows_alone
  rows_here = ap (λ (k : ℕ). rows_made k nothing own) (sym (add-zero (length front))) ∙ rows_moved (length front) 0 nothing own

  many_here : length (rows_made (length front) nothing own) ≡ length rows_alone
  many_here = ap length rows_here ∙ length-map rows_alone (moved (length front))

  -- row i of them among the words
  row_here : (i : ℕ) → i < length rows_alone → words_read (rows_after file lent) (length rows + i) ≡ moved (length front) (get_or rows_alone i [])
  row_here i l =
      let at = length front in
      let all = rows_made at nothing (own ++ ds) in
      let parts = rows_both at nothing own ds in
      let eight = eights_both rows all s.eight (rows_eight (placed_all (entries_from at nothing (own ++ ds)))) in
      let there : i < length (rows_made at nothing own) = omega (arith, many_here) in
      let within : length rows + i < length (rows ++ all) = omega (arith, length-append rows all, ap length parts, length-append (rows_made at nothing own) (rows_made (at + length (all_bytes own)) (context_behind_all nothing own) ds), many_here) in
      ap (λ (ws : List ℤ). words_read ws (length rows + i)) s.words
      ∙ row_at (rows ++ all) eight s.tail (length rows + i) within
      ∙ get_or-append-add rows all i []
      ∙ ap (λ (l : List (List ℤ)). get_or l i []) parts
      ∙ get_or-append (rows_made at nothing own) (rows_made (at + length (all_bytes own)) (context_behind_all nothing own) ds) [] i there
      ∙ ap (λ (l : List (List ℤ)). get_or l i []) rows_here
      ∙ get_or-map (moved at) rows_alone i []

  abbrev alone_here : Alone file lent (length rows) here
  alone_here =
      record {
        rows = length rows_alone;
        is_accepted = ap size_of own_is ∙ own_size own writable_here p;
        rows_are = λ alone room i l. row_here i l ∙ ap (moved (length front)) (sym (ap (λ (f : List ℕ). words_read (rows_after f alone) i) own_is ∙ own_words own writable_here p alone room i l));
      }

-- ---- one behind the other

none_at : (at : ℕ) (cs : List FileCommand) → NoneBegins cs → begun_at (entries_from at nothing cs) ≡ []
none_at at cs n = ap begun_at (sym (append-nil (entries_from at nothing cs))) ∙ none_begun_at at nothing cs n []

-- the next 0D stands behind these commands, and behind it the rest, from nothing on
next_at : (at : ℕ) (own ds : List FileCommand) → NoneBegins own →
    begun_at (entries_from at nothing (own ++ one building ∷ ds)) ≡ (at + length (all_bytes own)) ∷ begun_at (entries_from (at + length (all_bytes own) + 1) nothing ds)
unfolding next operands_width forms_of forms_in width_of_all
next_at at own ds n =
    ap begun_at (entries_both at nothing own (one building ∷ ds))
    ∙ none_begun_at at nothing own n (entries_from (at + length (all_bytes own)) (context_behind_all nothing own) (one building ∷ ds))

module _ (file : List ℕ) (lent : List ℤ) (front : List ℕ) (rows : List (List ℤ)) (own ds : List FileCommand) (s : Behind file lent front rows (own ++ one building ∷ ds)) where
  abbrev front_then : List ℕ
  front_then = front ++ (all_bytes own ++ 13 ∷ [])

  abbrev rows_then : List (List ℤ)
  rows_then = rows ++ rows_made (length front) nothing own

  front_long : length front + length (all_bytes own) + 1 ≡ length front_then
  front_long = omega (arith, length-append front (all_bytes own ++ 13 ∷ []), length-append (all_bytes own) (13 ∷ []))

  bytes_then : file ≡ front_then ++ (all_bytes ds ++ 0 ∷ [])
  bytes_then =
      let parts : all_bytes (own ++ one building ∷ ds) ++ 0 ∷ [] ≡ (all_bytes own ++ 13 ∷ []) ++ (all_bytes ds ++ 0 ∷ []) =
      ap (λ (l : List ℕ). l ++ 0 ∷ []) (bytes_both own (one building ∷ ds) ∙ ap (λ (l : List ℕ). all_bytes own ++ l) (building_bytes ds) ∙ sym (append_assoc (all_bytes own) (13 ∷ []) (all_bytes ds)))
      ∙ append_assoc (all_bytes own ++ 13 ∷ []) (all_bytes ds) (0 ∷ []) in
      s.bytes ∙ ap (λ (l : List ℕ). front ++ l) parts ∙ sym (append_assoc front (all_bytes own ++ 13 ∷ []) (all_bytes ds ++ 0 ∷ []))

  rows_split : rows_made (length front) nothing (own ++ one building ∷ ds) ≡ rows_made (length front) nothing own ++ rows_made (length front_then) nothing ds
  rows_split =
      rows_both (length front) nothing own (one building ∷ ds)
      ∙ ap (λ (l : List (List ℤ)). rows_made (length front) nothing own ++ l)
      (building_rows (length front + length (all_bytes own)) (context_behind_all nothing own) ds ∙ ap (λ (k : ℕ). rows_made k nothing ds) front_long)

  behind_then : Behind file lent front_then rows_then ds
  behind_then =
      record {
        bytes = bytes_then;
        writable = (writable_behind own (one building ∷ ds) s.writable).1;
        eight = eights_both rows (rows_made (length front) nothing own) s.eight (rows_eight (placed_all (entries_from (length front) nothing own)));
        tail = s.tail;
        words =
            s.words
            ∙ ap (λ (l : List (List ℤ)). joined l ++ s.tail) (ap (λ (l : List (List ℤ)). rows ++ l) rows_split ∙ sym (append_assoc rows (rows_made (length front) nothing own) (rows_made (length front_then) nothing ds)));
        size = s.size ∙ ap rows_answer (omega (arith, ap length rows_split, length-append (rows_made (length front) nothing own) (rows_made (length front_then) nothing ds), length-append rows (rows_made (length front) nothing own)));
      }

each : (file : List ℕ) (lent : List ℤ) (front : List ℕ) (rows : List (List ℤ)) (own : List FileCommand) (rest : List (List FileCommand)) → Behind file lent front rows (joined_by_0D own rest) → NoneBegins own → NoneOfAll rest →
    (counts : Counts) → Passes counts nothing (joined_by_0D own rest) →
    EachAlone file lent (length rows) (cut_at (length front) (begun_at (entries_from (length front) nothing (joined_by_0D own rest))) (length file - 1))
each file lent front rows own [] s n ns counts p =
    let s' : Behind file lent front rows (own ++ []) = rw (append-nil own) s in
    let alone = alone_passes own [] n at_end counts first_counts nothing (omega arith) (rw (append-nil own) p) in
    let end : length file - 1 ≡ length front + length (all_bytes own) = omega (arith, ap length s.bytes, length-append front (all_bytes own ++ 0 ∷ []), length-append (all_bytes own) (0 ∷ [])) in
    rw (none_at (length front) own n, end)
    (alone_here file lent front rows own [] s' alone, s.size ∙ ap (λ (k : ℕ). rows_answer (length rows + k)) (many_here file lent front rows own [] s' alone))
each file lent front rows own (more ∷ rest) s n (m, ms) counts p =
    let ds = joined_by_0D more rest in
    let (later, q) = behind_passes own ds counts nothing p in
    let alone = alone_passes own (one building ∷ ds) n (at_building ds) counts first_counts nothing (omega arith) p in
    let a = alone_here file lent front rows own (one building ∷ ds) s alone in
    let many : length (rows_then file lent front rows own ds s) ≡ length rows + a.rows = length-append rows (rows_made (length front) nothing own) ∙ ap (λ (k : ℕ). length rows + k) (many_here file lent front rows own (one building ∷ ds) s alone) in
    let front' = front_then file lent front rows own ds s in
    let later_on = cut_at (length front') (begun_at (entries_from (length front') nothing ds)) (length file - 1) in
    let then = each file lent (front_then file lent front rows own ds s) (rows_then file lent front rows own ds s) more rest (behind_then file lent front rows own ds s) m ms later q in
    rw (next_at (length front) own ds n, front_long file lent front rows own ds s) (a, subst (λ (k : ℕ). EachAlone file lent k later_on) many then)

-- ---- of a whole file

cut_many : (from : ℕ) (ats : List ℕ) (end : ℕ) → length (cut_at from ats end) ≡ 1 + length ats
cut_many from [] end = refl
cut_many from (at ∷ ats) end = omega (arith, cut_many (at + 1) ats end)

module _ (file : List ℕ) (b : Bytes file) (es : List Entry) (e : listed file ≡ accepted es) where
  abbrev commands : List FileCommand
  commands = commands_of es

  many : length (buildings_of file es) ≡ 1 + length (begun_at es)
  many = cut_many 0 (begun_at es) (length file - 1)

  in_order : (lent : List ℤ) (rows : ℕ) → size_of file ≡ rows_answer rows → 8 * rows ≤ length lent → EachAlone file lent 0 (buildings_of file es)
  unfolding size_of rows_after
  in_order lent rows z l =
      let c = cut commands in
      let made = rows_made 0 nothing commands in
      let is_accepted : placed file ≡ accepted (placed_all (entries_from 0 nothing commands)) = placed_of_lem file es e ∙ ap (λ (xs : List Entry). accepted (placed_all xs)) (sym (entries_are file b es e)) in
      let size : size_of file ≡ rows_answer (length made) = ap size_from is_accepted in
      let count : rows ≡ length made = ap (λ (a : Answer). a.rows) (sym z ∙ size) in
      let start : Behind file lent [] [] commands = record {
        bytes = sym (is_file file b es e) ∙ file_bytes commands;
        writable = writable file b es e;
        eight = tt;
        tail = drop (8 * length made) lent;
        words = ap (λ (j : Job). rows_from j lent) is_accepted ∙ rw (le-leb (8 * length made) (length lent) (omega arith));
        size = size ∙ ap rows_answer (omega arith);
      } in
      subst (λ (xs : List Entry). EachAlone file lent 0 (cut_at 0 (begun_at xs) (length file - 1))) (ap (entries_from 0 nothing) (sym c.is) ∙ entries_are file b es e)
      (each file lent [] [] c.own c.rest (subst (Behind file lent [] []) c.is start) c.none_own c.none_rest first_counts (subst (Passes first_counts nothing) c.is (passes file b es e)))

  few : length (buildings_of file es) ≤ 16
  few = omega (arith, many, few_begun first_counts 0 nothing commands (omega arith) (passes file b es e), ap (λ (xs : List Entry). length (begun_at xs)) (entries_are file b es e))

pub buildings_alone : (file : List ℕ) → Bytes file → AllBuildingsAlone file
buildings_alone file b es e = record { few = few file b es e; each = in_order file b es e }
