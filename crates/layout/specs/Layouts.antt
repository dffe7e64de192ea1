-- The layout of each command: its byte, then its operands in order. 01, "Job commands"; 02, No. 9 and No. 10.
use Rattle.std.specs.Prelude.{Bool, true, false, cond, List, [], ◌∷◌, ℕ, ◌+◌, eqb, Option, Some, None}
use Rattle.layout.specs.declared.Form.{Form}
use Rattle.layout.specs.declared.Form.TheVariants.{Id, Behaviour, Overstrength, MemberLength, Moment, Force, SignedMoment, SignedForce, WallLength, Inertia, SoilKind, SoilValue, YesNo, Side, FootingFlags, Place, Depth, Ductility, HingePlace}
use Rattle.layout.specs.declared.Kind.{Kind}
use Rattle.layout.specs.declared.Kind.TheVariants.{Finish, Settings, Joint, Column, Beam, Hingeless, WallBase, Storey, Soil, Footing, Detail, Block, Basement, Building}
use Rattle.layout.specs.Forms.{width}

abbrev pub layouts : List (ℕ × List Form)
layouts =
    -- end
    (0, [])
    -- settings: q, gj, gf
    ∷ (1, Behaviour ∷ Overstrength ∷ Overstrength ∷ [])
    -- joint: id; RB, RC, EB
    ∷ (2, Id ∷ Moment ∷ Moment ∷ Moment ∷ [])
    -- column: length; R1, R2 plus, R1, R2 minus; VE; VR
    ∷ (3, MemberLength ∷ Moment ∷ Moment ∷ Moment ∷ Moment ∷ Force ∷ Force ∷ [])
    -- beam: length; R1, R2 plus, R1, R2 minus; V0; VE; VR
    ∷ (4, MemberLength ∷ Moment ∷ Moment ∷ Moment ∷ Moment ∷ SignedForce ∷ Force ∷ Force ∷ [])
    -- member without hinges: length; two joint ids; ME1, ME2; V0; VR
    ∷ (5, MemberLength ∷ Id ∷ Id ∷ Moment ∷ Moment ∷ SignedForce ∷ Force ∷ [])
    -- wall base: length, thickness; MR, ME, VE, VR
    ∷ (6, WallLength ∷ WallLength ∷ Moment ∷ Moment ∷ Force ∷ Force ∷ [])
    -- storey: ME, VE, J, J0, VR, MS
    ∷ (7, Moment ∷ Force ∷ Inertia ∷ Inertia ∷ Force ∷ Moment ∷ [])
    -- soil: kind; value; sensitive
    ∷ (8, SoilKind ∷ SoilValue ∷ YesNo ∷ [])
    -- footing: B, L; MR, ME; NV, NE, XV, XE, YV, YE, HV, HE; U, P; flags
    ∷ (
      9,
      Side ∷ Side ∷ Moment ∷ Moment ∷ SignedForce ∷ SignedForce ∷ SignedMoment ∷ SignedMoment ∷ SignedMoment ∷ SignedMoment ∷ SignedForce ∷ SignedForce ∷ Force ∷ Force ∷ FootingFlags ∷ [],
    )
    -- detail: place; xu, xy; mu; lap
    ∷ (10, Place ∷ Depth ∷ Depth ∷ Ductility ∷ YesNo ∷ [])
    -- basement member: place of the nearest hinge; joint id; VV, VE; MV, ME; VR; MR
    ∷ (12, HingePlace ∷ Id ∷ SignedForce ∷ Force ∷ SignedMoment ∷ Moment ∷ Force ∷ Moment ∷ [])
    -- another building
    ∷ (13, [])
    ∷ []

unfoldable pub known_in : List (ℕ × List Form) → ℕ → Bool
known_in [] byte = false
known_in (l ∷ ls) byte = cond (eqb byte l.0) true (known_in ls byte)

unfoldable pub forms_in : List (ℕ × List Form) → ℕ → List Form
forms_in [] byte = []
forms_in (l ∷ ls) byte = cond (eqb byte l.0) l.1 (forms_in ls byte)

-- the byte is that of a command by itself
unfoldable pub known : ℕ → Bool
unfolding known_in
known byte = known_in layouts byte

-- its operands; an unknown byte has none
unfoldable pub forms_of : ℕ → List Form
unfolding forms_in
forms_of byte = forms_in layouts byte

unfoldable pub width_of_all : List Form → ℕ
unfolding width
width_of_all [] = 0
width_of_all (f ∷ fs) = width f + width_of_all fs

-- the bytes of a command's operands
unfoldable pub operands_width : ℕ → ℕ
unfolding forms_of width_of_all
operands_width byte = width_of_all (forms_of byte)

-- ---- the kinds of commands: those above, and a block, whose count and sets have no fixed width (`blocks`)

-- the byte of each
abbrev pub byte_of_kind : Kind → ℕ
byte_of_kind Finish = 0
byte_of_kind Settings = 1
byte_of_kind Joint = 2
byte_of_kind Column = 3
byte_of_kind Beam = 4
byte_of_kind Hingeless = 5
byte_of_kind WallBase = 6
byte_of_kind Storey = 7
byte_of_kind Soil = 8
byte_of_kind Footing = 9
byte_of_kind Detail = 10
byte_of_kind Block = 11
byte_of_kind Basement = 12
byte_of_kind Building = 13

-- the kind of a byte; a byte that is no command's has none
unfoldable pub kind_of : ℕ → Option Kind
kind_of byte =
    cond (eqb byte 0) (Some Finish)
    (cond (eqb byte 1) (Some Settings)
    (cond (eqb byte 2) (Some Joint)
    (cond (eqb byte 3) (Some Column)
    (cond (eqb byte 4) (Some Beam)
    (cond (eqb byte 5) (Some Hingeless)
    (cond (eqb byte 6) (Some WallBase)
    (cond (eqb byte 7) (Some Storey)
    (cond (eqb byte 8) (Some Soil)
    (cond (eqb byte 9) (Some Footing)
    (cond (eqb byte 10) (Some Detail)
    (cond (eqb byte 11) (Some Block)
    (cond (eqb byte 12) (Some Basement)
    (cond (eqb byte 13) (Some Building)
    None)))))))))))))
