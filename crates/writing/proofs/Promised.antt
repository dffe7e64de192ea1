-- What a write promises follows in each of its three cases: the command is out of range, the slice is too short, the bytes are put
-- into the slice. The test of the range is a Bool that the code has. Assumes nothing.
use mathlib.Core.Bool.{Bool, true, false}
use mathlib.Core.List.{List, [], ◌∷◌, ◌++◌}
use mathlib.Core.Path.{◌≡◌, refl, sym, ap, ◌∙◌, subst}
use Prim.Native.Nat.{ℕ, suc, ◌+◌, ◌-◌, ◌≤◌, ◌<◌}
use native.Mathlib.Nat.{zero-add}
use native.Mathlib.Omega.{arith}
use lib.ListN.{length, drop, set}
use Rattle.slices.specs.Written.{written, Put}
use borrow.Rule.Slice.PartMut.{put_mid}
use Rattle.slices.proofs.Writing.{written_byte, behind}
use Rattle.layout.specs.Layouts.{forms_of, operands_width}
use Rattle.format.specs.declared.Command.{Command}
use Rattle.format.specs.Commands.{byte_of, operands_of, in_range}
use Rattle.format.specs.Types.{OfTypes}
use Rattle.blocks.specs.FileCommands.{FileCommand, one}
use Rattle.std.specs.Prelude.{Ok, Err}
use Rattle.writing.specs.declared.WriteError.TheVariants.{OutOfRange, TooShort}
use Rattle.writing.specs.Bytes.{operand_bytes, bytes_of, file_bytes_of}
use Rattle.writing.specs.Answers.{file_in_range, WritesFileCommand, WritesCommand}
use Rattle.writing.specs.Files.{OfFileTypes}
use Rattle.writing.proofs.Answered.{bytes_width, numbered, answer_5, slice_5, answer_11, slice_11, answer_written, slice_written}
use Rattle.writing.proofs.BlockReadBack.{read_back}
use Rattle.writing.proofs.Filling.{put_here}

module _ (c : FileCommand) (before : List ℕ) where
  pub outside : {t : Bool} → t ≡ file_in_range c → t ≡ false → WritesFileCommand c before (Err OutOfRange) before
  outside {t} e n =
      let r : file_in_range c ≡ false = sym e ∙ n in
      record { answers = sym (answer_5 c r (length before)); bytes = sym (slice_5 c r before); back = λ z. absurd (numbered z) }

  module _ {t : Bool} (e : t ≡ file_in_range c) (n : t ≡ true) where
    range : file_in_range c ≡ true
    range = sym e ∙ n

    pub short : length before < length (file_bytes_of c) → WritesFileCommand c before (Err TooShort) before
    short h =
        record {
          answers = sym (answer_11 c range (length before) h);
          bytes = sym (slice_11 c range before h);
          back = λ z. absurd (numbered z);
        }

    pub done : {after : List ℕ} → OfFileTypes c → length (file_bytes_of c) ≤ length before → Put before 0 (file_bytes_of c) after → WritesFileCommand c before (Ok (length (file_bytes_of c))) after
    unfolding written
    done {after} types room put =
        let rest = drop (length (file_bytes_of c)) before in
        let is : after ≡ file_bytes_of c ++ rest = put.bytes ∙ ap (λ (k : ℕ). file_bytes_of c ++ drop k before) (zero-add (length (file_bytes_of c))) in
        record {
          answers = sym (answer_written c range (length before) room);
          bytes = is ∙ sym (slice_written c range before room);
          back = λ z. rw is (read_back [] rest c types range);
        }

-- of a command by itself, whose byte is this one
module _ (c : Command) (byte : ℕ) (e : byte_of c ≡ byte) (before : List ℕ) (n : ℕ) (w : n ≡ 1 + operands_width byte) where
  width_is : length (bytes_of c) ≡ n
  width_is = bytes_width c ∙ ap (λ (b : ℕ). 1 + operands_width b) e ∙ sym w

  module _ {t : Bool} (r : t ≡ in_range c) (is : t ≡ true) where
    pub command_short : length before < n → WritesCommand c before (Err TooShort) before
    command_short h = short (one c) before r is (omega (arith, width_is))

    pub command_done : {b : ℕ} {part : List ℕ} → OfTypes c → n ≤ length before → b ≡ byte → part ≡ operand_bytes (forms_of byte) (operands_of c) → WritesCommand c before (Ok n) (put_mid 1 (n - 1) (set before 0 b) part)
    unfolding bytes_of
    command_done {b} {part} types room first put =
        let after = put_mid 1 (n - 1) (set before 0 b) part in
        let long : suc (length (operand_bytes (forms_of byte) (operands_of c))) ≡ n = rw e at width_is in
        let head : Put before 0 (byte ∷ []) (set before 0 b) = rw first (record { bytes = written_byte before 0 byte (omega (arith, w)) }) in
        let whole : Put before 0 (byte ∷ operand_bytes (forms_of byte) (operands_of c)) after = behind head (put_here put (omega (arith, long))) refl (omega arith) in
        let all : Put before 0 (bytes_of c) after = rw e whole in
        subst (λ (k : ℕ). WritesCommand c before (Ok k) after) width_is (done (one c) before r is types (omega (arith, width_is)) all)
