-- Where the operands of a command stand: operand i begins after the widths of those before it. Assumes nothing.
use mathlib.Core.List.{List, [], ◌∷◌}
use mathlib.Core.Logic.{◌⊎◌, inl, inr}
use mathlib.Core.Path.{◌≡◌, refl, ap, ◌∙◌}
use Prim.Native.Nat.{ℕ, zero, suc, ◌+◌, ◌-◌, ◌^◌, ◌≤◌, ◌<◌}
use native.Mathlib.Numerals.{add-one}
use native.Mathlib.Nat.{not-suc-le-zero}
use native.Mathlib.Omega.{arith}
use lib.ListN.{length, get_or, take, drop}
use lib.Seq.{drop-drop, take-take}
use Rattle.std.proofs.lemmas.List.{drop-take}
use Rattle.layout.specs.declared.Form.{Form}
use Rattle.layout.specs.declared.Form.TheVariants.{Id, Behaviour, Overstrength, MemberLength, Moment, Force, SignedMoment, SignedForce, WallLength, Inertia, SoilKind, SoilValue, YesNo, Side, FootingFlags, Place, Depth, Ductility, HingePlace}
use Rattle.layout.specs.Number.{number}
use Rattle.layout.specs.Forms.{width}
use Rattle.layout.specs.Layouts.{forms_of, width_of_all, operands_width}
use Rattle.layout.specs.Operands.{offset_of, operand, read_operands, byte_at, operands_at}
use Rattle.layout.proofs.Numbers.{Bytes, bytes_drop, number_take_below}

-- the values of a list by place
abbrev pub at : List ℕ → ℕ → ℕ
at vs i = get_or vs i 0

-- each value fits the width of its form
abbrev pub Fit : ℕ → (ℕ → ℕ) → Type 0
Fit byte v = (i : ℕ) → i < length (forms_of byte) → v i < 256 ^ width (get_or (forms_of byte) i Id)

pub offset_first : (fs : List Form) → offset_of fs 0 ≡ 0
unfolding offset_of
offset_first fs = refl

pub offset_next : (fs : List Form) (i : ℕ) → offset_of fs (suc i) ≡ offset_of fs i + width (get_or fs i Id)
unfolding offset_of
offset_next fs i = refl

-- the same at the code's i + 1
pub offset_step : (fs : List Form) (i : ℕ) → offset_of fs (i + 1) ≡ offset_of fs i + width (get_or fs i Id)
offset_step fs i = rw add-one (offset_next fs i)

offset_cons : (f : Form) (fs : List Form) (i : ℕ) → offset_of (f ∷ fs) (suc i) ≡ width f + offset_of fs i
unfolding offset_of
offset_cons f fs zero = omega arith
offset_cons f fs (suc i) = omega (arith, offset_cons f fs i)

pub offset_all : (fs : List Form) → offset_of fs (length fs) ≡ width_of_all fs
unfolding width_of_all
offset_all [] = offset_first []
offset_all (f ∷ fs) = offset_cons f fs (length fs) ∙ ap (λ (n : ℕ). width f + n) (offset_all fs)

-- operand i ends within the command
pub offset_within : (fs : List Form) (i : ℕ) → i < length fs → offset_of fs i + width (get_or fs i Id) ≤ width_of_all fs
unfolding width_of_all
offset_within [] i l = absurd (not-suc-le-zero l)
offset_within (f ∷ fs) zero l = rw (offset_first (f ∷ fs)) (omega arith)
offset_within (f ∷ fs) (suc i) l =
    let k : i < length fs = omega arith in
    omega (arith, offset_cons f fs i, offset_within fs i k)

pub offset_in_command : (byte i : ℕ) → i < length (forms_of byte) → offset_of (forms_of byte) i + width (get_or (forms_of byte) i Id) ≤ operands_width byte
unfolding operands_width
offset_in_command byte = offset_within (forms_of byte)

-- every operand has 1, 2 or 4 bytes
pub width_is : (f : Form) → (width f ≡ 1) ⊎ ((width f ≡ 2) ⊎ (width f ≡ 4))
unfolding width
width_is Id = inl refl
width_is Behaviour = inr (inl refl)
width_is Overstrength = inr (inl refl)
width_is MemberLength = inr (inr refl)
width_is Moment = inr (inr refl)
width_is Force = inr (inr refl)
width_is SignedMoment = inr (inr refl)
width_is SignedForce = inr (inr refl)
width_is WallLength = inr (inr refl)
width_is Inertia = inr (inr refl)
width_is SoilKind = inl refl
width_is SoilValue = inr (inr refl)
width_is YesNo = inl refl
width_is Side = inr (inr refl)
width_is FootingFlags = inl refl
width_is Place = inl refl
width_is Depth = inr (inl refl)
width_is Ductility = inr (inl refl)
width_is HingePlace = inl refl

pub width_most : (f : Form) → width f ≤ 4
width_most f = by (width_is f)
  where
    by : {w : ℕ} → (w ≡ 1) ⊎ ((w ≡ 2) ⊎ (w ≡ 4)) → w ≤ 4
    by (inl e) = omega arith
    by (inr (inl e)) = omega arith
    by (inr (inr e)) = omega arith

pub read_length : (fs : List Form) (bytes : List ℕ) → length (read_operands fs bytes) ≡ length fs
unfolding read_operands
read_length [] bytes = refl
read_length (f ∷ fs) bytes = ap suc (read_length fs (drop (width f) bytes))

pub read_at : (fs : List Form) (bytes : List ℕ) (i : ℕ) → i < length fs → at (read_operands fs bytes) i ≡ number (take (width (get_or fs i Id)) (drop (offset_of fs i) bytes))
unfolding read_operands
read_at [] bytes i l = absurd (not-suc-le-zero l)
read_at (f ∷ fs) bytes zero l = rw (offset_first (f ∷ fs))
read_at (f ∷ fs) bytes (suc i) l =
    read_at fs (drop (width f) bytes) i (omega arith)
    ∙ rw (drop-drop (offset_of fs i) (width f) bytes, offset_cons f fs i)

pub read_below : (fs : List Form) (bytes : List ℕ) → Bytes bytes → (i : ℕ) → i < length fs → at (read_operands fs bytes) i < 256 ^ width (get_or fs i Id)
read_below fs bytes b i l =
    rw (read_at fs bytes i l) (number_take_below (width (get_or fs i Id)) (drop (offset_of fs i) bytes) (bytes_drop (offset_of fs i) bytes b))

-- ---- the operands of the command at an offset of a job

pub operands_length : (job : List ℕ) (start : ℕ) → length (operands_at job start) ≡ length (forms_of (byte_at job start))
operands_length job start = read_length (forms_of (byte_at job start)) (drop (start + 1) job)

pub operands_fit : (job : List ℕ) (start : ℕ) → Bytes job → Fit (byte_at job start) (at (operands_at job start))
operands_fit job start b = read_below (forms_of (byte_at job start)) (drop (start + 1) job) (bytes_drop (start + 1) job b)

-- operand i of a command whose operands start at an offset
pub operand_at : (byte : ℕ) (job : List ℕ) (from i : ℕ) → i < length (forms_of byte) → operand byte job from i ≡ at (read_operands (forms_of byte) (drop from job)) i
unfolding operand
operand_at byte job from i l = rw (read_at (forms_of byte) (drop from job) i l, drop-drop (offset_of (forms_of byte) i) from job)

-- an operand among a part of the bytes
part : (w off k : ℕ) (bytes : List ℕ) → off + k ≤ w → take k (drop off (take w bytes)) ≡ take k (drop off bytes)
part w off k bytes h =
    let e : w ≡ off + (w - off) = omega arith in
    ap (λ (n : ℕ). take k (drop off (take n bytes))) e
    ∙ ap (λ (l : List ℕ). take k l) (drop-take off (w - off) bytes)
    ∙ take-take k (w - off) (drop off bytes) (omega arith)

pub operand_within : (byte : ℕ) (job : List ℕ) (from at w i : ℕ) → at + operands_width byte ≤ w → i < length (forms_of byte) → operand byte (take w (drop from job)) at i ≡ operand byte job (from + at) i
unfolding operand
operand_within byte job from at w i h l =
    let off = offset_of (forms_of byte) i in
    let k = width (get_or (forms_of byte) i Id) in
    let e : from + (at + off) ≡ from + at + off = omega arith in
    let o : at + off + k ≤ w = omega (arith, offset_in_command byte i l) in
    rw (part w (at + off) k (drop from job) o, drop-drop (at + off) from job, e)
