-- Operands that fit their widths are read back from the bytes in which they are written; operands that are read are written in the
-- bytes that they were read from. Assumes nothing.
use mathlib.Core.Bool.{true}
use mathlib.Core.List.{List, [], ◌∷◌, ◌++◌, append_assoc}
use mathlib.Core.Path.{◌≡◌, refl}
use Prim.Native.Nat.{ℕ, ◌^◌, ◌≤◌, ◌<◌}
use native.Mathlib.Omega.{arith}
use lib.Dec.{lit<}
use lib.ListN.{length, take, drop, length-drop}
use lib.Seq.{take_at, drop_at, take-add}
use Rattle.quantity.specs.Range.{Range, within}
use Rattle.layout.specs.declared.Form.{Form}
use Rattle.layout.specs.declared.Form.TheVariants.{Id, Behaviour, Overstrength, MemberLength, Moment, Force, SignedMoment, SignedForce, WallLength, Inertia, SoilKind, SoilValue, YesNo, Side, FootingFlags, Place, Depth, Ductility, HingePlace}
use Rattle.layout.specs.Forms.{width, form_in_range}
use Rattle.layout.specs.Layouts.{width_of_all}
use Rattle.layout.specs.Operands.{read_operands}
use Rattle.layout.proofs.Numbers.{Bytes, bytes_drop}
use Rattle.format.specs.Commands.{all_in_range}
use Rattle.format.proofs.RangeTest.{and_first, and_second}
use Rattle.format.proofs.CommandRanges.{most}
use Rattle.numbers.specs.BigEndian.{big_endian}
use Rattle.writing.specs.Bytes.{operand_bytes}
use Rattle.numbers.proofs.BigEndian.{big_endian_length, number_written, read_written}

-- ---- written, then read

-- a value for each form, and each fits the width of its form
abbrev pub Fits : List Form → List ℕ → Type 0
Fits [] [] = Unit {0}
Fits [] (v ∷ vs) = ⊥
Fits (f ∷ fs) [] = ⊥
Fits (f ∷ fs) (v ∷ vs) = (v < 256 ^ width f) × Fits fs vs

pub operands_back : (fs : List Form) (vs rest : List ℕ) → Fits fs vs → read_operands fs (operand_bytes fs vs ++ rest) ≡ vs
unfolding read_operands operand_bytes
operands_back [] [] rest h = refl
operands_back [] (v ∷ vs) rest h = absurd h
operands_back (f ∷ fs) [] rest h = absurd h
operands_back (f ∷ fs) (v ∷ vs) rest h =
    let w = big_endian_length (width f) v in
    let later = operand_bytes fs vs ++ rest in
    rw (
      append_assoc (big_endian (width f) v) (operand_bytes fs vs) rest,
      take_at (big_endian (width f) v) later (width f) w,
      drop_at (big_endian (width f) v) later (width f) w,
      number_written (width f) v h.0,
      operands_back fs vs rest h.1,
    )

-- ---- values in range fit

-- what the range of a form does not say of a value: an id is a byte, a signed value and a soil value have 32 bits
abbrev pub Narrow : Form → ℕ → Type 0
Narrow Id v = v < 256
Narrow SignedMoment v = v < 4294967296
Narrow SignedForce v = v < 4294967296
Narrow SoilValue v = v < 4294967296
Narrow _ v = Unit {0}

below : {v n : ℕ} (range : Range) → within range v ≡ true → range.greatest < n → v < n
below {v} {n} range h l = omega (arith, most range v h)

fits_one : (f : Form) (v : ℕ) → Narrow f v → form_in_range f v ≡ true → v < 256 ^ width f
unfolding form_in_range width
fits_one Id v t h = t
fits_one Behaviour v t h = below _ h (lit< tt)
fits_one Overstrength v t h = below _ h (lit< tt)
fits_one MemberLength v t h = below _ h (lit< tt)
fits_one Moment v t h = below _ h (lit< tt)
fits_one Force v t h = below _ h (lit< tt)
fits_one SignedMoment v t h = t
fits_one SignedForce v t h = t
fits_one WallLength v t h = below _ h (lit< tt)
fits_one Inertia v t h = below _ h (lit< tt)
fits_one SoilKind v t h = below _ h (lit< tt)
fits_one SoilValue v t h = t
fits_one YesNo v t h = below _ h (lit< tt)
fits_one Side v t h = below _ h (lit< tt)
fits_one FootingFlags v t h = below _ h (lit< tt)
fits_one Place v t h = below _ h (lit< tt)
fits_one Depth v t h = below _ h (lit< tt)
fits_one Ductility v t h = below _ h (lit< tt)
fits_one HingePlace v t h = below _ h (lit< tt)

-- a value for each form, each as its type has it
abbrev pub NarrowAll : List Form → List ℕ → Type 0
NarrowAll [] [] = Unit {0}
NarrowAll [] (v ∷ vs) = ⊥
NarrowAll (f ∷ fs) [] = ⊥
NarrowAll (f ∷ fs) (v ∷ vs) = Narrow f v × NarrowAll fs vs

pub fits_all : (fs : List Form) (vs : List ℕ) → NarrowAll fs vs → all_in_range fs vs ≡ true → Fits fs vs
unfolding all_in_range
fits_all [] [] t h = tt
fits_all [] (v ∷ vs) t h = absurd t
fits_all (f ∷ fs) [] t h = absurd t
fits_all (f ∷ fs) (v ∷ vs) t h =
    (fits_one f v t.0 (and_first (form_in_range f v) (all_in_range fs vs) h), fits_all fs vs t.1 (and_second (form_in_range f v) (all_in_range fs vs) h))

-- ---- read, then written

pub operands_again : (fs : List Form) (bytes : List ℕ) → width_of_all fs ≤ length bytes → Bytes bytes → operand_bytes fs (read_operands fs bytes) ≡ take (width_of_all fs) bytes
unfolding read_operands operand_bytes width_of_all
operands_again [] bytes h b = refl
operands_again (f ∷ fs) bytes h b =
    let later : width_of_all fs ≤ length (drop (width f) bytes) = rw (length-drop (width f) bytes) (omega arith) in
    rw (
      read_written (width f) bytes (omega arith) b,
      operands_again fs (drop (width f) bytes) later (bytes_drop (width f) bytes b),
      ← take-add (width f) (width_of_all fs) bytes,
    )
