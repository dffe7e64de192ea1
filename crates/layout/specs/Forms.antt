-- The forms of operands: width in bytes, and range. 01, "Job commands": "Ranges". The ranges are those of `quantity`.
use Rattle.std.specs.Prelude.{Bool, true, ℕ}
use Rattle.quantity.specs.Range.{Range, within, within_signed}
use Rattle.quantity.specs.Quantities.{force_limit, moment_limit, force, moment, member_length, wall_length, side, behaviour, overstrength}
use Rattle.layout.specs.declared.Form.{Form}
use Rattle.layout.specs.declared.Form.TheVariants.{Id, Behaviour, Overstrength, MemberLength, Moment, Force, SignedMoment, SignedForce, WallLength, Inertia, SoilKind, SoilValue, YesNo, Side, FootingFlags, Place, Depth, Ductility, HingePlace}
use Rattle.layout.specs.Number.{signed32}

-- u8, u16, u32, i32, f32
unfoldable pub width : Form → ℕ
width Id = 1
width Behaviour = 2
width Overstrength = 2
width MemberLength = 4
width Moment = 4
width Force = 4
width SignedMoment = 4
width SignedForce = 4
width WallLength = 4
width Inertia = 4
width SoilKind = 1
width SoilValue = 4
width YesNo = 1
width Side = 4
width FootingFlags = 1
width Place = 1
width Depth = 2
width Ductility = 2
width HingePlace = 1

abbrev pub to : ℕ → ℕ → Range
to least greatest = record { least = least; greatest = greatest }

-- the value as it stands in the file; that of a soil goes by its kind (`related`)
unfoldable pub form_in_range : Form → ℕ → Bool
form_in_range Id x = true
form_in_range Behaviour x = within behaviour x
form_in_range Overstrength x = within overstrength x
form_in_range MemberLength x = within member_length x
form_in_range Moment x = within moment x
form_in_range Force x = within force x
form_in_range SignedMoment x = within_signed moment_limit (signed32 x)
form_in_range SignedForce x = within_signed force_limit (signed32 x)
form_in_range WallLength x = within wall_length x
form_in_range Inertia x = within (to 1 4294967295) x
form_in_range SoilKind x = within (to 0 1) x
form_in_range SoilValue x = true
form_in_range YesNo x = within (to 0 1) x
form_in_range Side x = within side x
form_in_range FootingFlags x = within (to 0 7) x
form_in_range Place x = within (to 0 2) x
form_in_range Depth x = within (to 0 1000) x
form_in_range Ductility x = within (to 1000 2000) x
form_in_range HingePlace x = within (to 0 1) x
