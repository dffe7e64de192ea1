-- Figures of 01, "Job commands", and 02, No. 9 and No. 10: the widths of the commands' operands, 57 bytes at most, and the bytes that are known. Assumes nothing.
use mathlib.Core.Bool.{true, false}
use mathlib.Core.Path.{◌≡◌, refl}
use Prim.Native.Nat.{ℕ, ◌≤◌, ◌<◌}
use lib.ListN.{get_or}
use native.Mathlib.Omega.{arith}
use Rattle.layout.specs.declared.TheConstants.{WIDTHS}
use Rattle.layout.specs.declared.Kind.{Kind}
use Rattle.layout.specs.declared.Kind.TheVariants.{Finish}
use Rattle.layout.specs.Forms.{width}
use Rattle.layout.specs.Layouts.{known, known_in, forms_of, forms_in, width_of_all, operands_width, byte_of_kind}
use Rattle.layout.proofs.KnownBytes.{each_byte, no_forms}

pub record OperandWidths : Type 0 where
  pub finish : operands_width 0 ≡ 0
  pub settings : operands_width 1 ≡ 6
  pub joint : operands_width 2 ≡ 13
  pub column : operands_width 3 ≡ 28
  pub beam : operands_width 4 ≡ 32
  pub hingeless : operands_width 5 ≡ 22
  pub wall_base : operands_width 6 ≡ 24
  pub storey : operands_width 7 ≡ 24
  pub soil : operands_width 8 ≡ 6
  pub footing : operands_width 9 ≡ 57
  pub detail : operands_width 10 ≡ 8
  pub basement : operands_width 12 ≡ 26
  pub building : operands_width 13 ≡ 0

pub widths : OperandWidths
unfolding operands_width width_of_all width forms_of forms_in
widths =
    record {
      finish = refl;
      settings = refl;
      joint = refl;
      column = refl;
      beam = refl;
      hingeless = refl;
      wall_base = refl;
      storey = refl;
      soil = refl;
      footing = refl;
      detail = refl;
      basement = refl;
      building = refl;
    }

width_other : (b : ℕ) → known b ≡ false → operands_width b ≤ 57
unfolding operands_width width_of_all
width_other b h = rw (no_forms b h) (omega arith)

-- those of a footing are the widest
pub width_le : (byte : ℕ) → operands_width byte ≤ 57
width_le =
    each_byte (λ b. operands_width b ≤ 57) (omega (arith, widths.finish)) (omega (arith, widths.settings)) (omega (arith, widths.joint)) (omega (arith, widths.column))
    (omega (arith, widths.beam)) (omega (arith, widths.hingeless)) (omega (arith, widths.wall_base)) (omega (arith, widths.storey)) (omega (arith, widths.soil))
    (omega (arith, widths.footing)) (omega (arith, widths.detail)) (omega (arith, widths.basement)) (omega (arith, widths.building)) width_other

pub last_known : known 13 ≡ true
unfolding known known_in
last_known = refl

pub next_unknown : known 14 ≡ false
unfolding known known_in
next_unknown = refl

-- the table of the code

pub bytes_few : (k : Kind) → byte_of_kind k < 14
bytes_few Finish = omega arith
bytes_few _ = omega arith

pub is_widths : (k : Kind) → get_or WIDTHS (byte_of_kind k) 0 ≡ operands_width (byte_of_kind k)
unfolding operands_width width_of_all width forms_of forms_in
is_widths Finish = refl
is_widths _ = refl
