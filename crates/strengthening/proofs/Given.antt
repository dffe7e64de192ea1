-- A command in the file of an accepted job: it stands whole behind the bytes of those before it, and the commands behind it have the same
-- rows behind another that may stand there. Assumes nothing.
use mathlib.Core.Path.{◌≡◌, sym, ap, ◌∙◌, subst}
use mathlib.Core.Bool.{true}
use mathlib.Core.List.{List, [], ◌∷◌, ◌++◌, append_assoc}
use Prim.Native.Nat.{ℕ, ◌+◌, ◌≤◌}
use native.Mathlib.Omega.{arith}
use lib.ListN.{length}
use Rattle.std.proofs.lemmas.List.{map-append}
use Rattle.layout.specs.Operands.{byte_at}
use Rattle.layout.proofs.Numbers.{Bytes}
use Rattle.format.specs.declared.Command.TheVariants.{Finish as finish}
use Rattle.blocks.specs.FileCommands.{FileCommand, file_byte_of, width_of, width_at, file_command_at, given}
use Rattle.blocks.proofs.FileCommands.{KnownAt, byte_read, width_read}
use Rattle.writing.specs.Bytes.{bytes_of, file_bytes_of}
use Rattle.writing.specs.Answers.{file_in_range}
use Rattle.writing.specs.Files.{AllWritable, all_bytes}
use Rattle.context.specs.Context.{nothing}
use Rattle.job.specs.Placed.{context_after, Entry, placed_all, all_rows}
use Rattle.job.specs.Earlier.{widths_of}
use Rattle.job.proofs.Faultless.{passed, known_at}
use Rattle.job.proofs.Reached.{Stands}
use Rattle.job.proofs.AcceptedLaws.{listed_each}
use Rattle.job.proofs.Passing.{through}
use Rattle.capacity.specs.Singly.{file_of}
use Rattle.capacity.proofs.FileListed.{entries_from, bytes_both, writable_behind, rest_of, file_is}
use Rattle.capacity.proofs.FileAgain.{is_file, writable, entries_are}
use Rattle.capacity.proofs.WrittenAgain.{commands_of}
use Rattle.strengthening.specs.Others.{Among}
use Rattle.strengthening.proofs.AlikeContexts.{same_rows}
use Rattle.strengthening.proofs.Swapped.{StandsFor, entries_behind, own_entries, widths_are}

-- an accepted job, which is of bytes, and one of the commands of its file
pub record Given (first : List ℕ) (before : List Entry) (x : Entry) : Type 0 where
  pub bytes : Bytes first
  pub among : Among first before x

module _ {first : List ℕ} {before : List Entry} {x : Entry} (j : Given first before x) where
  pub standing : Stands first (widths_of before) (context_after nothing (placed_all before)) x
  standing = listed_each first j.among.commands j.among.is_accepted before x j.among.after j.among.place

  pub known_first : KnownAt first x.offset
  known_first = rw standing.place (known_at first (widths_of before) standing.counts _ standing.no_fault)

  pub first_read : x.given ≡ file_command_at first x.offset
  first_read = standing.read ∙ ap (file_command_at first) (sym standing.place)

  pub byte_first : byte_at first x.offset ≡ file_byte_of x.given
  byte_first = sym (byte_read first x.offset known_first) ∙ ap file_byte_of (sym first_read)

  -- it is no end
  pub no_end : file_byte_of x.given ≡ 0 → ⊥
  no_end z = standing.other (ap (byte_at first) (sym standing.place) ∙ byte_first ∙ z)

  pub whole_first : x.offset + width_of x.given ≤ length first
  whole_first = omega (arith, (passed first (widths_of before) standing.counts _ standing.no_fault).whole, standing.place, ap (width_at first) standing.place, width_read first x.offset known_first, ap width_of first_read)

  abbrev pub commands_before : List FileCommand
  commands_before = commands_of before

  abbrev pub commands_after : List FileCommand
  commands_after = commands_of j.among.after

  pub cut_here : commands_of j.among.commands ≡ commands_before ++ x.given ∷ commands_after
  cut_here = ap commands_of j.among.place ∙ map-append (λ (y : Entry). y.given) before (x ∷ j.among.after)

  pub in_range_first : file_in_range x.given ≡ true
  in_range_first = (writable_behind commands_before (x.given ∷ commands_after) (subst AllWritable cut_here (writable first j.bytes j.among.commands j.among.is_accepted))).0.range

  pub in_order : before ++ x ∷ j.among.after ≡ entries_from 0 nothing (commands_before ++ x.given ∷ commands_after)
  in_order = sym j.among.place ∙ sym (entries_are first j.bytes j.among.commands j.among.is_accepted) ∙ ap (entries_from 0 nothing) cut_here

  -- the commands behind it have the same rows behind another that stands there
  pub behind_same : (y : FileCommand) → StandsFor x.given y → all_rows (placed_all (entries_behind y x commands_after)) ≡ all_rows (placed_all j.among.after)
  behind_same y s =
      rw s.width (same_rows commands_after (x.offset + width_of x.given) (through x.context (given x.given)) (through x.context (given y)) (s.leaves x.context))
      ∙ ap (λ (xs : List Entry). all_rows (placed_all xs)) (sym (own_entries x before j.among.after 0 nothing in_order))

  -- the bytes in front of it
  pub front_long : length (all_bytes commands_before) ≡ x.offset
  front_long = widths_are before ∙ sym standing.place

  pub first_is : first ≡ all_bytes commands_before ++ (file_bytes_of x.given ++ rest_of commands_after)
  unfolding all_bytes
  first_is =
      sym (is_file first j.bytes j.among.commands j.among.is_accepted) ∙ ap file_of cut_here ∙ file_is (commands_before ++ x.given ∷ commands_after) (subst AllWritable cut_here (writable first j.bytes j.among.commands j.among.is_accepted))
      ∙ ap (λ (l : List ℕ). l ++ (bytes_of finish ++ [])) (bytes_both commands_before (x.given ∷ commands_after))
      ∙ append_assoc (all_bytes commands_before) (file_bytes_of x.given ++ all_bytes commands_after) (bytes_of finish ++ [])
      ∙ ap (λ (l : List ℕ). all_bytes commands_before ++ l) (append_assoc (file_bytes_of x.given) (all_bytes commands_after) (bytes_of finish ++ []))
