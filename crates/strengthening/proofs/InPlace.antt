-- Two jobs alike but for four bytes of one command of the first one's file: the second is accepted exactly where the command that it has
-- there is in range, and its commands are the first's with that one in place of the other. Assumes nothing.
use mathlib.Core.Path.{◌≡◌, refl, sym, ap, ◌∙◌, subst}
use mathlib.Core.Bool.{true}
use mathlib.Core.List.{List, [], ◌∷◌, ◌++◌, append_assoc}
use mathlib.Core.Logic.{inl}
use Prim.Native.Nat.{ℕ, zero, suc, ◌+◌, ◌≤◌, ◌<◌}
use native.Mathlib.Omega.{arith}
use lib.ListN.{length, take, drop}
use Rattle.layout.specs.Operands.{byte_at}
use Rattle.layout.proofs.Numbers.{Bytes}
use Rattle.format.specs.declared.Command.TheVariants.{Finish as finish}
use Rattle.blocks.specs.FileCommands.{FileCommand, file_byte_of, width_of, width_at, file_command_at}
use Rattle.blocks.proofs.FileCommands.{KnownAt, byte_read, width_read}
use Rattle.writing.specs.Bytes.{bytes_of, file_bytes_of}
use Rattle.writing.specs.Answers.{file_in_range}
use Rattle.writing.specs.Files.{AllWritable, all_bytes}
use Rattle.writing.proofs.Answered.{file_bytes_width}
use Rattle.writing.proofs.BlockReadBack.{types_read, written_again}
use Rattle.context.specs.Context.{Context, nothing}
use Rattle.job.specs.declared.Counts.{Counts}
use Rattle.job.specs.Counts.{first_counts}
use Rattle.job.specs.Faults.{tests_at}
use Rattle.job.specs.Placed.{Entry, accepted, listed_by, listed}
use Rattle.job.proofs.PlacedCases.{not_both, by_cases}
use Rattle.job.proofs.Passing.{Passes, tests_passed}
use Rattle.capacity.proofs.FileListed.{bytes_both, writable_front, rest_of, file_is, file_accepted}
use Rattle.capacity.proofs.FileAgain.{writable, passes}
use Rattle.capacity.proofs.WrittenAgain.{passes_range}
use Rattle.strengthening.proofs.AlikeBytes.{AlikeBut, replaced}
use Rattle.strengthening.proofs.Swapped.{StandsFor, with_given, entries_behind, swapped_entries, swapped_pass, swapped_writable, from_there, accepted_behind}
use Rattle.strengthening.proofs.Given.{Given, known_first, byte_first, no_end, whole_first, commands_before, commands_after, cut_here, in_order, front_long, first_is}

-- the second job is alike but for four bytes of the command, and has its byte
pub record Within (first second : List ℕ) (x : Entry) (at : ℕ) : Type 0 where
  pub bytes : Bytes second
  pub alike : AlikeBut first second at
  pub behind_byte : x.offset < at
  pub inside : at + 4 ≤ x.offset + width_of x.given

module _ {first second : List ℕ} {before : List Entry} {x : Entry} (j : Given first before x) {at : ℕ} (f : Within first second x at) where
  -- what stands there in the second job
  abbrev pub there : FileCommand
  there = file_command_at second x.offset

  same_byte : byte_at second x.offset ≡ byte_at first x.offset
  same_byte = f.alike.alike x.offset (inl f.behind_byte)

  known_second : KnownAt second x.offset
  known_second = rw same_byte (known_first j)

  same_file_byte : file_byte_of there ≡ file_byte_of x.given
  same_file_byte = byte_read second x.offset known_second ∙ same_byte ∙ byte_first j

  other : file_byte_of there ≡ 0 → ⊥
  other z = no_end j (sym same_file_byte ∙ z)

  module _ (s : StandsFor x.given there) where
    width_second : width_at second x.offset ≡ width_of x.given
    width_second = sym (width_read second x.offset known_second) ∙ s.width

    whole_second : x.offset + width_at second x.offset ≤ length second
    whole_second = omega (arith, width_second, f.alike.as_long, whole_first j)

    its_bytes : take (length (file_bytes_of x.given)) (drop (length (all_bytes (commands_before j))) second) ≡ file_bytes_of there
    its_bytes = rw (front_long j, file_bytes_width x.given, ← width_second) (sym (written_again second f.bytes x.offset whole_second known_second))

    second_bytes : second ≡ all_bytes (commands_before j) ++ (file_bytes_of there ++ rest_of (commands_after j))
    second_bytes =
        replaced f.alike (all_bytes (commands_before j)) (file_bytes_of x.given) (rest_of (commands_after j)) (first_is j) (omega (arith, front_long j, f.behind_byte)) (omega (arith, front_long j, file_bytes_width x.given, f.inside))
        ∙ ap (λ (l : List ℕ). all_bytes (commands_before j) ++ (l ++ rest_of (commands_after j))) its_bytes

    second_rest : second ≡ rest_of (commands_before j ++ there ∷ commands_after j)
    unfolding all_bytes
    second_rest =
        second_bytes
        ∙ sym
        (ap (λ (l : List ℕ). l ++ (bytes_of finish ++ [])) (bytes_both (commands_before j) (there ∷ commands_after j))
        ∙ append_assoc (all_bytes (commands_before j)) (file_bytes_of there ++ all_bytes (commands_after j)) (bytes_of finish ++ [])
        ∙ ap (λ (l : List ℕ). all_bytes (commands_before j) ++ l) (append_assoc (file_bytes_of there) (all_bytes (commands_after j)) (bytes_of finish ++ [])))

    -- where it is in range, the second job is accepted, and its commands are the first's but this
    pub second_accepted : file_in_range there ≡ true → listed second ≡ accepted (before ++ with_given there x ∷ entries_behind there x (commands_after j))
    second_accepted r =
        let w : AllWritable (commands_before j ++ there ∷ commands_after j) =
        swapped_writable x.given there (record { types = types_read second f.bytes x.offset; range = r; other = other }) (commands_before j) (commands_after j) (subst AllWritable (cut_here j) (writable first j.bytes j.among.commands j.among.is_accepted)) in
        let p : Passes first_counts nothing (commands_before j ++ there ∷ commands_after j) =
        swapped_pass x.given there s r (commands_before j) (commands_after j) first_counts nothing (subst (Passes first_counts nothing) (cut_here j) (passes first j.bytes j.among.commands j.among.is_accepted)) in
        ap listed (second_rest ∙ sym (file_is (commands_before j ++ there ∷ commands_after j) w))
        ∙ file_accepted (commands_before j ++ there ∷ commands_after j) w p
        ∙ ap accepted (sym (swapped_entries x there before j.among.after 0 nothing (in_order j)))

    -- and only there
    range_at : (n : ℕ) (counts : Counts) (h : Context) (fs : List Entry) → listed_by tests_at n second x.offset counts h ≡ accepted fs → file_in_range there ≡ true
    unfolding listed_by
    range_at zero counts h fs a = absurd (not_both a)
    range_at (suc n) counts h fs a =
        by_cases tests_at n second x.offset counts h (λ k. k ≡ accepted fs → file_in_range there ≡ true) (λ l q. absurd (not_both q)) (λ l k z q. absurd (not_both q)) (λ l z b m q. absurd (not_both q))
        (λ l z b m q. absurd (other (byte_read second x.offset known_second ∙ b)))
        (λ l z b q.
        passes_range counts h there (tests_passed second x.offset counts h there (record { byte = sym (byte_read second x.offset known_second); read = refl; width = sym (width_read second x.offset known_second); whole = whole_second }) other z))
        a

    pub only_in_range : (fs : List Entry) → listed second ≡ accepted fs → file_in_range there ≡ true
    unfolding listed
    only_in_range fs a =
        let w : AllWritable (commands_before j) = writable_front (commands_before j) (x.given ∷ commands_after j) (subst AllWritable (cut_here j) (writable first j.bytes j.among.commands j.among.is_accepted)) in
        let c = from_there (accepted_behind (commands_before j) (there ∷ commands_after j) w [] 4097 first_counts nothing fs (ap (λ (l : List ℕ). listed_by tests_at 4097 l 0 first_counts nothing) (sym second_rest) ∙ a)) second_rest (omega (arith, front_long j)) in
        range_at c.left c.counts c.context c.later c.accepts
