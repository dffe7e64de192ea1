-- Laws of the commands of a file: what stands at an offset, by its byte, with that byte and as many bytes as stand there. Assumes
-- nothing.
use mathlib.Core.Bool.{Bool, true, false, cond}
use mathlib.Core.List.{List, [], ◌∷◌}
use mathlib.Core.Path.{◌≡◌, refl, sym, ap, ◌∙◌}
use Prim.Native.Nat.{ℕ, suc, ◌+◌, ◌*◌, ◌≤◌}
use native.Mathlib.Omega.{arith}
use borrow.Author.Tests.{eqb-true}
use lib.ListN.{length, length-map}
use Rattle.layout.specs.Layouts.{known, operands_width}
use Rattle.layout.specs.Operands.{byte_at}
use Rattle.walls.specs.declared.Storey.{Storey}
use Rattle.format.specs.declared.Command.{Command}
use Rattle.format.specs.declared.Command.TheVariants.{Finish as finish, Settings as settings, Joint as joint, Column as column, Beam as beam, Hingeless as hingeless, WallBase as wall_base, Storey as storey, Soil as soil, Footing as footing, Detail as detail, Basement as basement, Building as building}
use Rattle.format.specs.Commands.{byte_of}
use Rattle.format.specs.Reading.{command_at}
use Rattle.format.proofs.CommandRead.{byte_read as command-byte}
use Rattle.blocks.specs.Sets.{is_block, count_at, sets_of}
use Rattle.blocks.specs.FileCommands.{FileCommand, one, block, file_byte_of, file_command_at, width_of, width_at, storeys_from, commands_from, given}
use Rattle.blocks.proofs.Sets.{storeys_length}

module _ (job : List ℕ) (at : ℕ) where
  pub at_one : is_block (byte_at job at) ≡ false → file_command_at job at ≡ one (command_at job at)
  unfolding file_command_at
  at_one b = rw b

  pub at_block : is_block (byte_at job at) ≡ true → file_command_at job at ≡ block (sets_of job at)
  unfolding file_command_at
  at_block b = rw b

  pub width_one : is_block (byte_at job at) ≡ false → width_at job at ≡ 1 + operands_width (byte_at job at)
  unfolding width_at
  width_one b = rw b

  pub width_block : is_block (byte_at job at) ≡ true → width_at job at ≡ 2 + 24 * count_at job at
  unfolding width_at
  width_block b = rw b

  -- one byte at least
  pub width_some : 1 ≤ width_at job at
  unfolding width_at
  width_some = by (is_block (byte_at job at))
    where
      by : (b : Bool) → 1 ≤ cond b (2 + 24 * count_at job at) (1 + operands_width (byte_at job at))
      by true = omega arith
      by false = omega arith

-- no command by itself has the byte of a block
pub no_block : (c : Command) → is_block (byte_of c) ≡ false
no_block finish = refl
no_block (settings s) = refl
no_block (joint id j) = refl
no_block (column c) = refl
no_block (beam b) = refl
no_block (hingeless id1 id2 m) = refl
no_block (wall_base b) = refl
no_block (storey s) = refl
no_block (soil s) = refl
no_block (footing f) = refl
no_block (detail d) = refl
no_block (basement id m) = refl
no_block building = refl

-- a command of a file that is one by itself is read as such
pub one_read : (job : List ℕ) (at : ℕ) (c : Command) → file_command_at job at ≡ one c → command_at job at ≡ c
unfolding file_command_at
one_read job at c e = by (is_block (byte_at job at)) e
  where
    by : (t : Bool) → cond t (block (sets_of job at)) (one (command_at job at)) ≡ one c → command_at job at ≡ c
    by true q = cc
    by false q = cc

-- a known command at an offset, or a block
abbrev pub KnownAt : List ℕ → ℕ → Type 0
KnownAt job start = is_block (byte_at job start) ≡ false → known (byte_at job start) ≡ true

-- what is read there has the byte that stands there, and as many bytes
module _ (job : List ℕ) (start : ℕ) where
  pub byte_read : KnownAt job start → file_byte_of (file_command_at job start) ≡ byte_at job start
  unfolding file_command_at
  byte_read k = by (is_block (byte_at job start)) refl
    where
      by : (t : Bool) → is_block (byte_at job start) ≡ t → file_byte_of (cond t (block (sets_of job start)) (one (command_at job start))) ≡ byte_at job start
      by true e = sym (eqb-true (byte_at job start) 11 e)
      by false e = command-byte job start (k e)

  pub width_read : KnownAt job start → width_of (file_command_at job start) ≡ width_at job start
  unfolding file_command_at width_at
  width_read k = by (is_block (byte_at job start)) refl
    where
      by : (t : Bool) → is_block (byte_at job start) ≡ t → width_of (cond t (block (sets_of job start)) (one (command_at job start))) ≡ cond t (2 + 24 * count_at job start) (1 + operands_width (byte_at job start))
      by true e = rw (storeys_length (count_at job start) job (start + 2))
      by false e = rw (command-byte job start (k e))

-- as many commands as storeys, and as are given
pub storeys_many : (at : ℕ) (ss : List Storey) → length (storeys_from at ss) ≡ length ss
storeys_many at [] = refl
storeys_many at (s ∷ ss) = ap suc (storeys_many (at + 24) ss)

pub given_many : (at : ℕ) (c : FileCommand) → length (commands_from at c) ≡ length (given c)
given_many at (one c) = refl
given_many at (block ss) = storeys_many (at + 2) ss ∙ sym (length-map ss (λ s. storey s))
