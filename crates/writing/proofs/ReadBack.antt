-- A command that is written is read back with the same values, whatever stands before and behind it; a command that is read is
-- written in the bytes that stand there; a soil value keeps its 32 bits. 02, No. 2. Assumes nothing.
use mathlib.Core.Bool.{true}
use mathlib.Core.List.{List, [], ◌∷◌, ◌++◌}
use mathlib.Core.Path.{◌≡◌, refl, sym, ap, ◌∙◌}
use Prim.Native.Nat.{ℕ, suc, ◌+◌, ◌≤◌, ◌<◌}
use native.Mathlib.Nat.{add-zero}
use native.Mathlib.Numerals.{add-one}
use native.Mathlib.Omega.{arith}
use lib.IntN.{ℤ, pos, negsuc}
use lib.ListN.{length, get_or, take, drop, length-drop}
use lib.Seq.{drop-append-add, get_or-append-add, drop-cons, take_at}
use mir.Syntax.{w32}
use mir.Val.{SFits}
use Rattle.layout.specs.Number.{number, bits32}
use Rattle.layout.specs.Forms.{width}
use Rattle.layout.specs.Layouts.{known, forms_of, forms_in, width_of_all, operands_width}
use Rattle.layout.specs.Operands.{byte_at, operands_at}
use Rattle.layout.proofs.Numbers.{Bytes, bytes_drop, signed_of_bits}
use Rattle.layout.proofs.OperandsRead.{at}
use Rattle.format.specs.declared.SoilGiven.{SoilGiven}
use Rattle.format.specs.declared.Command.{Command}
use Rattle.format.specs.declared.Command.TheVariants.{Finish as finish, Settings as settings, Joint as joint, Column as column, Beam as beam, Hingeless as hingeless, WallBase as wall_base, Storey as storey, Soil as soil, Footing as footing, Detail as detail, Basement as basement, Building as building}
use Rattle.format.specs.Commands.{byte_of, operands_of, command_of, related, all_in_range, in_range}
use Rattle.format.specs.Reading.{command_at}
use Rattle.format.proofs.RangeTest.{and_first}
use Rattle.format.proofs.CommandRead.{byte_read, operands_read}
use Rattle.numbers.specs.BigEndian.{big_endian}
use Rattle.writing.specs.Bytes.{operand_bytes, bytes_of}
use Rattle.format.specs.Types.{OfTypes}
use Rattle.numbers.proofs.BigEndian.{big_endian_length, number_written}
use Rattle.writing.proofs.OperandBytes.{Fits, NarrowAll, fits_all, operands_back, operands_again}

-- ---- written, then read

bits_narrow : {z : ℤ} → SFits w32 z → bits32 z < 4294967296
unfolding bits32
bits_narrow {z = pos n} f = omega (arith, f.sfits)
bits_narrow {z = negsuc n} f = omega arith

narrow : (c : Command) → OfTypes c → NarrowAll (forms_of (byte_of c)) (operands_of c)
unfolding forms_of forms_in
narrow finish t = tt
narrow (settings s) t = (tt, (tt, (tt, tt)))
narrow (joint id j) t = (t, (tt, (tt, (tt, tt))))
narrow (column c) t = (tt, (tt, (tt, (tt, (tt, (tt, (tt, tt)))))))
narrow (beam b) t = (tt, (tt, (tt, (tt, (tt, (bits_narrow t, (tt, (tt, tt))))))))
narrow (hingeless id1 id2 m) t = (tt, (t.0, (t.1, (tt, (tt, (bits_narrow t.2, (tt, tt)))))))
narrow (wall_base b) t = (tt, (tt, (tt, (tt, (tt, (tt, tt))))))
narrow (storey s) t = (tt, (tt, (tt, (tt, (tt, (tt, tt))))))
narrow (soil s) t = (tt, (t, (tt, tt)))
narrow (footing f) t =
    (tt, (tt, (tt, (tt, (bits_narrow t.nv, (bits_narrow t.ne, (bits_narrow t.xv, (bits_narrow t.xe, (bits_narrow t.yv, (bits_narrow t.ye, (bits_narrow t.hv, (bits_narrow t.he, (tt, (tt, (tt, tt)))))))))))))))
narrow (detail d) t = (tt, (tt, (tt, (tt, (tt, tt)))))
narrow (basement id m) t = (tt, (t.0, (bits_narrow t.1, (tt, (bits_narrow t.2, (tt, (tt, (tt, tt))))))))
narrow building t = tt

pub fits : (c : Command) → OfTypes c → in_range c ≡ true → Fits (forms_of (byte_of c)) (operands_of c)
unfolding in_range
fits c t r = fits_all (forms_of (byte_of c)) (operands_of c) (narrow c t) (and_first (all_in_range (forms_of (byte_of c)) (operands_of c)) (related c) r)

-- a command is that of its byte and its operands
same_command : (c : Command) → OfTypes c → command_of (byte_of c) (at (operands_of c)) ≡ c
unfolding command_of
same_command finish t = refl
same_command (settings s) t = refl
same_command (joint id j) t = refl
same_command (column c) t = refl
same_command (beam b) t = rw (signed_of_bits t)
same_command (hingeless id1 id2 m) t = rw (signed_of_bits t.2)
same_command (wall_base b) t = refl
same_command (storey s) t = refl
same_command (soil s) t = refl
same_command (footing f) t =
    rw (
      signed_of_bits t.nv,
      signed_of_bits t.ne,
      signed_of_bits t.xv,
      signed_of_bits t.xe,
      signed_of_bits t.yv,
      signed_of_bits t.ye,
      signed_of_bits t.hv,
      signed_of_bits t.he,
    )
same_command (detail d) t = refl
same_command (basement id m) t = rw (signed_of_bits t.1, signed_of_bits t.2)
same_command building t = refl

module _ (front : List ℕ) (c : Command) (rest : List ℕ) where
  -- a file with the command behind what stands in front of it
  abbrev file : List ℕ
  file = front ++ (bytes_of c ++ rest)

  pub byte_there : byte_at file (length front) ≡ byte_of c
  unfolding bytes_of
  byte_there = ap (λ (k : ℕ). get_or file k 0) (sym (add-zero (length front))) ∙ get_or-append-add front (bytes_of c ++ rest) 0 0

  operands_there : drop (length front + 1) file ≡ operand_bytes (forms_of (byte_of c)) (operands_of c) ++ rest
  unfolding bytes_of
  operands_there = drop-append-add front (bytes_of c ++ rest) 1

  -- a written command read back gives the same values
  pub read_back : OfTypes c → in_range c ≡ true → command_at file (length front) ≡ c
  unfolding command_at
  read_back t r =
      rw (byte_there, operands_there, operands_back (forms_of (byte_of c)) (operands_of c) rest (fits c t r)) (same_command c t)

-- ---- read, then written

module _ (job : List ℕ) (start : ℕ) (b : Bytes job) (k : known (byte_at job start) ≡ true) (whole : start + 1 + operands_width (byte_at job start) ≤ length job) where
  operands_same : operand_bytes (forms_of (byte_at job start)) (operands_at job start) ≡ take (operands_width (byte_at job start)) (drop (start + 1) job)
  unfolding operands_width
  operands_same =
      let room : width_of_all (forms_of (byte_at job start)) ≤ length (drop (start + 1) job) = rw (length-drop (start + 1) job) (omega (arith, whole)) in
      operands_again (forms_of (byte_at job start)) (drop (start + 1) job) room (bytes_drop (start + 1) job b)

  -- a command that is read is written in the bytes that stand there
  pub written_again : bytes_of (command_at job start) ≡ take (1 + operands_width (byte_at job start)) (drop start job)
  unfolding bytes_of
  written_again =
      let first : drop start job ≡ byte_at job start ∷ drop (start + 1) job = rw add-one (drop-cons job start 0 (omega (arith, whole))) in
      let more : 1 + operands_width (byte_at job start) ≡ suc (operands_width (byte_at job start)) = omega arith in
      rw (byte_read job start k, operands_read job start b, operands_same, first, more)

-- ---- a soil value

-- the four bytes behind a soil's kind are the 32 bits of its value
pub soil_value : (s : SoilGiven) → s.value < 4294967296 → number (take 4 (drop 2 (bytes_of (soil s)))) ≡ s.value
unfolding bytes_of operand_bytes forms_of forms_in width
soil_value s h = rw (take_at (big_endian 4 s.value) (big_endian 1 s.sensitive ++ []) 4 (big_endian_length 4 s.value)) (number_written 4 s.value h)
