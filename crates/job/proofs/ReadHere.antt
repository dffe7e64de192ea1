-- What was read from the bytes at an offset of a job: a command by itself, of which the end has the byte 0, and the sets of a block.
-- Assumes nothing.
use mathlib.Core.Path.{◌≡◌, refl, sym, ap, ◌∙◌}
use mathlib.Core.List.{List}
use Prim.Native.Nat.{ℕ, ◌+◌, ◌-◌, ◌*◌, ◌≤◌}
use native.Mathlib.Omega.{arith}
use lib.ListN.{length, drop, length-drop}
use lib.Seq.{length-take-le}
use Rattle.std.specs.Prelude.{slice_range}
use Rattle.layout.specs.declared.Kind.{Kind}
use Rattle.layout.specs.declared.Kind.TheVariants.{Finish}
use Rattle.layout.specs.Layouts.{byte_of_kind, operands_width}
use Rattle.layout.specs.Operands.{byte_at}
use Rattle.format.specs.declared.Command.{Command}
use Rattle.format.specs.Reading.{command_at, command_in}
use Rattle.format.proofs.CommandRead.{read_alone}
use Rattle.blocks.specs.Sets.{count_at, sets_of, storeys_in}
use Rattle.blocks.proofs.Sets.{storeys_of_slice}

only_finish : (k : Kind) → byte_of_kind k ≡ 0 → k ≡ Finish
only_finish Finish e = refl
only_finish _ e = absurd (omega arith)

module _ (job : List ℕ) (offset : ℕ) where
  module _ (k : Kind) (q : byte_of_kind k ≡ byte_at job offset) where
    pub read_here : {bytes : List ℕ} → bytes ≡ slice_range job (offset + 1) (offset + 1 + operands_width (byte_at job offset)) → {c : Command} → c ≡ command_in k bytes → c ≡ command_at job offset
    read_here e h =
        read_alone job offset (byte_at job offset) refl (byte_of_kind k) (offset + 1 + operands_width (byte_at job offset) - (offset + 1)) q (omega arith)
        (h ∙ ap (command_in k) e)

    pub end_here : k ≡ Finish → byte_at job offset ≡ 0
    end_here f = sym q ∙ ap byte_of_kind f

    pub no_end_here : (k ≡ Finish → ⊥) → byte_at job offset ≡ 0 → ⊥
    no_end_here h e = h (only_finish k (q ∙ e))

-- ---- the sets of a block

module _ (job : List ℕ) (at : ℕ) (w : at + 2 + 24 * count_at job at ≤ length job) {sets : List ℕ} (e : sets ≡ slice_range job (at + 2) (at + 2 + 24 * count_at job at)) where
  pub sets_width : length sets ≡ 24 * count_at job at
  sets_width =
      let n : at + 2 + 24 * count_at job at - (at + 2) ≡ 24 * count_at job at = omega arith in
      rw (e, n) (length-take-le (24 * count_at job at) (drop (at + 2) job) (rw (length-drop (at + 2) job) (omega arith)))

  pub sets_here : storeys_in sets ≡ sets_of job at
  sets_here = rw e (storeys_of_slice job (at + 2) (count_at job at) (at + 2 + 24 * count_at job at - (at + 2)) (omega arith) w)
