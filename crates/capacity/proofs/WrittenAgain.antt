-- Jobs and the calls `write` and `write_block`: each command of the file of an accepted job, and its end, is written again in the bytes
-- that stand there, and all of them make the job; the commands of the file are those that are read; so of a job that was written
-- command by command, what is checked is what was written. 02, No. 2 and No. 7. Assumes nothing.
use mathlib.Core.Bool.{true}
use mathlib.Core.List.{List, [], ◌∷◌, ◌++◌, append_assoc, append-nil, map}
use mathlib.Core.Path.{◌≡◌, refl, sym, ap, ◌∙◌}
use Prim.Native.Nat.{ℕ, zero, suc, ◌+◌, ◌-◌, ◌≤◌, ◌<◌}
use native.Mathlib.Nat.{not-suc-le-zero}
use native.Mathlib.Omega.{arith}
use lib.ListN.{length, take, drop, drop_of_length-le, take-append-drop}
use lib.Seq.{drop-cons, drop-drop, take-add}
use borrow.Author.Tests.{ne_eqb}
use Rattle.layout.specs.Operands.{byte_at}
use Rattle.layout.proofs.Numbers.{Bytes}
use Rattle.format.specs.declared.Command.TheVariants.{Finish as finish}
use Rattle.context.specs.Context.{Context, nothing}
use Rattle.blocks.specs.FileCommands.{FileCommand, one, block, file_byte_of, width_of, width_at}
use Rattle.blocks.proofs.FileCommands.{byte_read}
use Rattle.writing.specs.Bytes.{bytes_of, file_bytes_of}
use Rattle.writing.specs.Answers.{file_in_range, wrote, write_file_of, file_bytes_after, write_of, bytes_after}
use Rattle.writing.specs.Files.{AllWritable, all_bytes, written_in_turn, with_offsets, read_from}
use Rattle.format.proofs.RangeTest.{end_in_range}
use Rattle.writing.proofs.Answered.{file_bytes_width, answer_written, slice_written}
use Rattle.writing.proofs.BlockReadBack.{types_read, written_again}
use Rattle.writing.proofs.FileReadBack.{end_byte, all_in_range_lem, written_bytes, commands_read, all_and_end}
use Rattle.job.specs.declared.Counts.{Counts}
use Rattle.job.specs.Placed.{context_after, Entry, placed_all, accepted, listed}
use Rattle.job.specs.Earlier.{widths_of}
use Rattle.job.proofs.Faultless.{passed, known_at}
use Rattle.job.proofs.Reached.{Stands}
use Rattle.job.proofs.AcceptedLaws.{listed_each, listed_ends, listed_widths}
use Rattle.job.proofs.Passing.{PassesAt, tests_passed}

-- the commands of a file's entries
abbrev pub commands_of : List Entry → List FileCommand
commands_of es = map (λ e. e.given) es

-- each with its offset
abbrev pub offsets_of : List Entry → List (ℕ × FileCommand)
offsets_of es = map (λ e. (e.offset, e.given)) es

-- one command more in front
widths_more : (earlier : List Entry) (x : Entry) → widths_of (earlier ++ x ∷ []) ≡ widths_of earlier + width_of x.given
widths_more [] x = omega arith
widths_more (y ∷ earlier) x = omega (arith, widths_more earlier x)

-- what passes the tests is in range
pub passes_range : (counts : Counts) (h : Context) (c : FileCommand) → PassesAt counts h c → file_in_range c ≡ true
passes_range counts h (one c) p = p.range
passes_range counts h (block ss) p = rw p.count_in_range_lem p.range

-- ---- a command that stands in a job

module _ (job : List ℕ) {offset : ℕ} {h : Context} {x : Entry} (s : Stands job offset h x) where
  same_byte : file_byte_of x.given ≡ byte_at job offset
  same_byte = ap file_byte_of s.read ∙ byte_read job offset (known_at job offset s.counts h s.no_fault)

  same_width : width_at job offset ≡ width_of x.given
  same_width = sym (ap width_of s.read ∙ (passed job offset s.counts h s.no_fault).width)

  whole : offset + width_at job offset ≤ length job
  whole = (passed job offset s.counts h s.no_fault).whole

  other : file_byte_of x.given ≡ 0 → ⊥
  other z = s.other (sym same_byte ∙ z)

  ranged : file_in_range x.given ≡ true
  ranged =
      passes_range s.counts h x.given
      (tests_passed job offset s.counts h x.given (record { byte = sym same_byte; read = sym s.read; width = same_width; whole = whole }) other s.no_fault)

module _ (job : List ℕ) (es : List Entry) (e : listed job ≡ accepted es) where
  stands : (earlier : List Entry) (x : Entry) (later : List Entry) → es ≡ earlier ++ x ∷ later → Stands job (widths_of earlier) (context_after nothing (placed_all earlier)) x
  stands = listed_each job es e

  moved : (earlier : List Entry) (x : Entry) (later : List Entry) → es ≡ earlier ++ x ∷ later → es ≡ (earlier ++ x ∷ []) ++ later
  moved earlier x later q = q ∙ sym (append_assoc earlier (x ∷ []) later)

  last : (earlier : List Entry) → es ≡ earlier ++ [] → widths_of earlier ≡ length job - 1
  last earlier q = omega (arith, ap widths_of (q ∙ append-nil earlier), listed_widths job es e)

  -- ---- the commands of the file are those that are read

  rest_read : (earlier later : List Entry) → es ≡ earlier ++ later → (n : ℕ) → length later < n → read_from n job (widths_of earlier) ≡ offsets_of later
  unfolding read_from
  rest_read earlier later q zero h = absurd (not-suc-le-zero h)
  rest_read earlier [] q (suc n) h = rw (last earlier q, listed_ends job es e)
  rest_read earlier (x ∷ later) q (suc n) h =
      let s = stands earlier x later q in
      rw (
        ← same_byte job s,
        ne_eqb (file_byte_of x.given) 0 (other job s),
        ← s.read,
        same_width job s,
        ← widths_more earlier x,
        rest_read (earlier ++ x ∷ []) later (moved earlier x later q) n (omega arith),
        s.place,
      )

  pub listed_read : (n : ℕ) → length es < n → read_from n job 0 ≡ offsets_of es
  listed_read n h = rest_read [] es refl n h

  -- ---- written again

  module _ (b : Bytes job) where
    -- each command in the bytes that stand there
    pub command_again : (earlier : List Entry) (x : Entry) (later : List Entry) → es ≡ earlier ++ x ∷ later → file_bytes_of x.given ≡ take (width_of x.given) (drop x.offset job)
    command_again earlier x later q =
        let s = stands earlier x later q in
        rw (s.place, ← same_width job s) (ap file_bytes_of s.read ∙ written_again job b (widths_of earlier) (whole job s) (known_at job (widths_of earlier) s.counts _ s.no_fault))

    -- the end too
    pub end_again : bytes_of finish ≡ drop (length job - 1) job
    end_again =
        let w = listed_widths job es e in
        let inside : length job - 1 < length job = omega arith in
        let behind : length job ≤ suc (length job - 1) = omega arith in
        rw (drop-cons job (length job - 1) 0 inside, listed_ends job es e, drop_of_length-le job behind) end_byte

    rest_again : (earlier later : List Entry) → es ≡ earlier ++ later → all_bytes (commands_of later) ≡ take (widths_of later) (drop (widths_of earlier) job)
    unfolding all_bytes
    rest_again earlier [] q = refl
    rest_again earlier (x ∷ later) q =
        let s = stands earlier x later q in
        rw (
          command_again earlier x later q,
          s.place,
          rest_again (earlier ++ x ∷ []) later (moved earlier x later q),
          widths_more earlier x,
          ← drop-drop (width_of x.given) (widths_of earlier) job,
        )
        (sym (take-add (width_of x.given) (widths_of later) (drop (widths_of earlier) job)))

    -- all of them, one after the other, are the job
    pub job_again : all_bytes (commands_of es ++ one finish ∷ []) ≡ job
    job_again =
        let w : widths_of es ≡ length job - 1 = omega (arith, listed_widths job es e) in
        rw (all_and_end (commands_of es), rest_again [] es refl, end_again, w) (take-append-drop (length job - 1) job)

    rest_writable : (earlier later : List Entry) → es ≡ earlier ++ later → AllWritable (commands_of later)
    rest_writable earlier [] q = tt
    rest_writable earlier (x ∷ later) q =
        let s = stands earlier x later q in (
          record { types = rw s.read (types_read job b (widths_of earlier)); range = ranged job s; other = other job s },
          rest_writable (earlier ++ x ∷ []) later (moved earlier x later q),
        )

    -- each could have been written
    pub all_writable : AllWritable (commands_of es)
    all_writable = rest_writable [] es refl

    -- ---- the same of the calls, on a slice with room

    -- the commands and the end, each written behind the bytes that the call before it reported
    pub job_written_again : (before : List ℕ) → length job ≤ length before → written_in_turn (commands_of es ++ one finish ∷ []) before ≡ job ++ drop (length job) before
    job_written_again before room =
        let h : length (all_bytes (commands_of es ++ one finish ∷ [])) ≤ length before = rw job_again room in
        written_bytes (commands_of es ++ one finish ∷ []) before (all_in_range_lem (commands_of es) all_writable) h
        ∙ ap (λ (l : List ℕ). l ++ drop (length l) before) job_again

    -- one of them, wherever it is written
    pub write_again : (earlier : List Entry) (x : Entry) (later : List Entry) → es ≡ earlier ++ x ∷ later → (before : List ℕ) → width_of x.given ≤ length before →
        (write_file_of x.given (length before) ≡ wrote (width_of x.given)) × (file_bytes_after x.given before ≡ take (width_of x.given) (drop x.offset job) ++ drop (width_of x.given) before)
    write_again earlier x later q before room =
        let r = ranged job (stands earlier x later q) in
        let w = file_bytes_width x.given in
        let h : length (file_bytes_of x.given) ≤ length before = omega arith in (
          answer_written x.given r (length before) h ∙ ap wrote w,
          slice_written x.given r before h ∙ rw (w, command_again earlier x later q),
        )

    pub write_end_again : (before : List ℕ) → 1 ≤ length before → (write_of finish (length before) ≡ wrote 1) × (bytes_after finish before ≡ drop (length job - 1) job ++ drop 1 before)
    write_end_again before room =
        let w : length (bytes_of finish) ≡ 1 = ap length end_byte in
        let h : length (bytes_of finish) ≤ length before = omega arith in (
          answer_written (one finish) end_in_range (length before) h ∙ ap wrote w,
          slice_written (one finish) end_in_range before h ∙ rw (w, end_again),
        )

-- ---- a job that was written command by command

-- where it is accepted, the commands of the file are those that were written, at their offsets
pub written_checked : (cs : List FileCommand) → AllWritable cs → (es : List Entry) → listed (all_bytes (cs ++ one finish ∷ [])) ≡ accepted es → offsets_of es ≡ with_offsets 0 cs
written_checked cs w es e =
    let n = suc (length es + length cs) in
    let file : [] ++ (all_bytes cs ++ (bytes_of finish ++ [])) ≡ all_bytes (cs ++ one finish ∷ []) = rw (append-nil (bytes_of finish)) (sym (all_and_end cs)) in
    sym (listed_read (all_bytes (cs ++ one finish ∷ [])) es e n (omega arith))
    ∙ ap (λ (f : List ℕ). read_from n f 0) (sym file)
    ∙ commands_read [] cs [] w n (omega arith)
