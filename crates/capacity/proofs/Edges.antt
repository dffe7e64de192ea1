-- The words that `run` gives for small jobs, by computation: each of the bits 1, 2, 4, 8, 32 is clear where a demand equals its
-- strength and set one unit beyond it (a side over 2 is passed one below it alone); bits 16, 64 and 128 at their bounds. So the
-- claims of demand 3 speak of checks that pass and of checks that fail. 01, "Rows and verdict bits". And a member before and after
-- its joint is given again: 02, No. 1; and both bits of a basement member, under a joint and under a wall: No. 9. Assumes nothing.
use mathlib.Core.Path.{◌≡◌, refl}
use mathlib.Core.List.{List, [], ◌∷◌, ◌++◌}
use Prim.Native.Nat.{ℕ, ◌*◌}
use lib.Count.{ones_in, ones}
use lib.Ieee.{of_bits}
use lib.IntN.{ℤ, pos, negsuc}
use lib.ListN.{length, replicate}
use Rattle.exact.specs.Quotient.{up, down, up_ℤ, down_ℤ}
use Rattle.exact.specs.Fraction.{smaller}
use Rattle.quantity.specs.Range.{within, within_signed}
use Rattle.soil.specs.Answers.{accepted, refused}
use Rattle.soil.specs.Value.{allowed, cut}
use Rattle.soil.specs.Kinds.{known as kind_known, top_of, factor_of, value_allowed}
use Rattle.soil.specs.Reading.{soil_allowed, soil_holding}
use Rattle.soil.specs.Taken.{taken, take_down, tangent_of}
use Rattle.cubes.specs.Root.{first_from, least_root}
use Rattle.coefficient.specs.Coefficient.{coefficient_of, cap_governs}
use Rattle.members.specs.Column.{column_row}
use Rattle.members.specs.Beam.{beam_row}
use Rattle.members.specs.Hingeless.{hingeless_row}
use Rattle.members.specs.Detail.{detail_row}
use Rattle.basement.specs.Basement.{basement_row}
use Rattle.walls.specs.Base.{base_row, base_row_from}
use Rattle.walls.specs.Storey.{storey_row, storey_row_from}
use Rattle.footing.specs.Rows.{footing_row, base_resistance}
use Rattle.layout.specs.Number.{number, number_after, signed32, bits32}
use Rattle.layout.specs.Forms.{width, form_in_range}
use Rattle.layout.specs.Layouts.{known, known_in, forms_of, forms_in, width_of_all, operands_width}
use Rattle.format.specs.Commands.{command_of, in_range, all_in_range, related}
use Rattle.layout.specs.Operands.{read_operands}
use Rattle.format.specs.Reading.{command_at}
use Rattle.context.specs.Context.{next, absent}
use Rattle.rows.specs.Rows.{rows_of, rows_with}
use Rattle.rows.specs.Writing.{joined}
use Rattle.blocks.specs.FileCommands.{file_command_at, width_at}
use Rattle.job.specs.Faults.{too_many, seventeenth, misplaced, command_tests, tests_at}
use Rattle.job.specs.Placed.{listed_by, listed, placed, all_rows}
use Rattle.totals.specs.Rows.{verdict_at, row_failed, checks_of, verdict_sum, rows_failed, checks_failed}
use Rattle.capacity.specs.Calls.{ran_answer, run_of, rows_after}

-- ---- commands

abbrev zeros : ℕ → List ℕ
zeros n = replicate n 0

-- q 350, gj 140, gf 120: 7 bytes
abbrev settings : List ℕ
settings = 0x01 ∷ 0x01 ∷ 0x5e ∷ 0x00 ∷ 0x8c ∷ 0x00 ∷ 0x78 ∷ []

-- 3,000 long; R 200,000, 200,000, 180,000, 210,000; VE 80,000; VR 0x02d9 and a last byte. V is 186,667 = 0x02d92b
abbrev column : ℕ → List ℕ
column last =
    0x03 ∷ 0x00 ∷ 0x00 ∷ 0x0b ∷ 0xb8 ∷ 0x00 ∷ 0x03 ∷ 0x0d ∷ 0x40 ∷ 0x00 ∷ 0x03 ∷ 0x0d ∷ 0x40 ∷ 0x00 ∷ 0x02 ∷ 0xbf ∷ 0x20
    ∷ 0x00 ∷ 0x03 ∷ 0x34 ∷ 0x50 ∷ 0x00 ∷ 0x01 ∷ 0x38 ∷ 0x80 ∷ 0x00 ∷ 0x02 ∷ 0xd9 ∷ last ∷ []

-- 6,000 long; R 300,000, 150,000, 150,000, 300,000; V0 in four bytes; VE 70,000; VR 0x0249 and a last byte. D is 90,000
abbrev beam : List ℕ → ℕ → List ℕ
beam nonseismic last =
    0x04 ∷ 0x00 ∷ 0x00 ∷ 0x17 ∷ 0x70 ∷ 0x00 ∷ 0x04 ∷ 0x93 ∷ 0xe0 ∷ 0x00 ∷ 0x02 ∷ 0x49 ∷ 0xf0 ∷ 0x00 ∷ 0x02 ∷ 0x49 ∷ 0xf0
    ∷ 0x00 ∷ 0x04 ∷ 0x93 ∷ 0xe0 ∷ nonseismic ++ 0x00 ∷ 0x01 ∷ 0x11 ∷ 0x70 ∷ 0x00 ∷ 0x02 ∷ 0x49 ∷ last ∷ []

-- 60,000 and −60,000
abbrev upwards : List ℕ
upwards = 0x00 ∷ 0x00 ∷ 0xea ∷ 0x60 ∷ []

abbrev downwards : List ℕ
downwards = 0xff ∷ 0xff ∷ 0x15 ∷ 0xa0 ∷ []

-- length 0x0f and a last byte, 1,000 thick; MR 5,000,000, ME 2,000,000; VE 900,000; VR 3,000,000. Four times 1,000 is 0x0fa0
abbrev wall_base : ℕ → List ℕ
wall_base last =
    0x06 ∷ 0x00 ∷ 0x00 ∷ 0x0f ∷ last ∷ 0x00 ∷ 0x00 ∷ 0x03 ∷ 0xe8 ∷ 0x00 ∷ 0x4c ∷ 0x4b ∷ 0x40 ∷ 0x00 ∷ 0x1e ∷ 0x84 ∷ 0x80
    ∷ 0x00 ∷ 0x0d ∷ 0xbb ∷ 0xa0 ∷ 0x00 ∷ 0x2d ∷ 0xc6 ∷ 0xc0 ∷ []

-- ME 100,000; VE 100,000; J 1, J0 1,000,000,000; VR 400,000; MS 0x04f5 and a last byte. The moment is 325,000 = 0x04f588
abbrev storey : ℕ → List ℕ
storey last =
    0x07 ∷ 0x00 ∷ 0x01 ∷ 0x86 ∷ 0xa0 ∷ 0x00 ∷ 0x01 ∷ 0x86 ∷ 0xa0 ∷ 0x00 ∷ 0x00 ∷ 0x00 ∷ 0x01 ∷ 0x3b ∷ 0x9a ∷ 0xca ∷ 0x00
    ∷ 0x00 ∷ 0x06 ∷ 0x1a ∷ 0x80 ∷ 0x00 ∷ 0x04 ∷ 0xf5 ∷ last ∷ []

-- the joint 9: RB 100, RC 200, EB in a byte
abbrev joint : ℕ → List ℕ
joint seismic = 0x02 ∷ 0x09 ∷ 0x00 ∷ 0x00 ∷ 0x00 ∷ 0x64 ∷ 0x00 ∷ 0x00 ∷ 0x00 ∷ 0xc8 ∷ 0x00 ∷ 0x00 ∷ 0x00 ∷ seismic ∷ []

-- without hinges, 500 long, the joint 9 at both ends; ME1 and ME2 1,000; V0 and VR 0
abbrev hingeless : List ℕ
hingeless = 0x05 ∷ 0x00 ∷ 0x00 ∷ 0x01 ∷ 0xf4 ∷ 0x09 ∷ 0x09 ∷ 0x00 ∷ 0x00 ∷ 0x03 ∷ 0xe8 ∷ 0x00 ∷ 0x00 ∷ 0x03 ∷ 0xe8 ∷ zeros 8

-- place and id; VV −1, VE 2; MV 1, ME 2; VR and MR in a byte
abbrev basement : (place id shear moment : ℕ) → List ℕ
basement place id shear moment =
    0x0c ∷ place ∷ id ∷ 0xff ∷ 0xff ∷ 0xff ∷ 0xff ∷ 0x00 ∷ 0x00 ∷ 0x00 ∷ 0x02 ∷ 0x00 ∷ 0x00 ∷ 0x00 ∷ 0x01 ∷ 0x00 ∷ 0x00 ∷ 0x00 ∷ 0x02
    ∷ 0x00 ∷ 0x00 ∷ 0x00 ∷ shear ∷ 0x00 ∷ 0x00 ∷ 0x00 ∷ moment ∷ []

-- granular, of tangent 0.5; sensitive or not
abbrev soil : ℕ → List ℕ
soil sensitive = 0x08 ∷ 0x00 ∷ 0x3f ∷ 0x00 ∷ 0x00 ∷ 0x00 ∷ sensitive ∷ []

-- B and L of four bytes each, the same; MR 400,000, ME 200,000; NV, XV, YV, HV of four bytes each; all seismic actions, U and P 0
abbrev footing : (side normal along_b along_l horizontal : List ℕ) → ℕ → List ℕ
footing side normal along_b along_l horizontal flags =
    0x09 ∷ side ++ side ++ 0x00 ∷ 0x06 ∷ 0x1a ∷ 0x80 ∷ 0x00 ∷ 0x03 ∷ 0x0d ∷ 0x40
    ∷ normal ++ zeros 4 ++ along_b ++ zeros 4 ++ along_l ++ zeros 4 ++ horizontal ++ zeros 4 ++ zeros 8 ++ flags ∷ []

-- 2,000, 3,000 and 4,000 in four bytes
abbrev side2000 : List ℕ
side2000 = 0x00 ∷ 0x00 ∷ 0x07 ∷ 0xd0 ∷ []

abbrev side3000 : List ℕ
side3000 = 0x00 ∷ 0x00 ∷ 0x0b ∷ 0xb8 ∷ []

abbrev side4000 : List ℕ
side4000 = 0x00 ∷ 0x00 ∷ 0x0f ∷ 0xa0 ∷ []

-- 99,900, 100,000 and 100,001
abbrev action99900 : List ℕ
action99900 = 0x00 ∷ 0x01 ∷ 0x86 ∷ 0x3c ∷ []

abbrev action100000 : List ℕ
action100000 = 0x00 ∷ 0x01 ∷ 0x86 ∷ 0xa0 ∷ []

abbrev action100001 : List ℕ
action100001 = 0x00 ∷ 0x01 ∷ 0x86 ∷ 0xa1 ∷ []

-- place; xu; xy 0; mu of two bytes; lap
abbrev detail : (place ultimate ductility1 ductility2 lap : ℕ) → List ℕ
detail place ultimate ductility1 ductility2 lap = 0x0a ∷ place ∷ 0x00 ∷ ultimate ∷ 0x00 ∷ 0x00 ∷ ductility1 ∷ ductility2 ∷ lap ∷ []

abbrev finish : List ℕ
finish = 0x00 ∷ []

-- ---- what run gives

abbrev row : (offset byte word2 word3 word4 word5 word6 verdict : ℕ) → List ℤ
row offset byte word2 word3 word4 word5 word6 verdict =
    pos offset ∷ pos byte ∷ pos word2 ∷ pos word3 ∷ pos word4 ∷ pos word5 ∷ pos word6 ∷ pos verdict ∷ []

-- that of a beam at offset 7
abbrev beam_row_words : (upper lower : ℤ) → (strength verdict : ℕ) → List ℤ
beam_row_words upper lower strength verdict = pos 7 ∷ pos 4 ∷ upper ∷ lower ∷ pos strength ∷ pos 0 ∷ pos 0 ∷ pos verdict ∷ []

-- that of a member without hinges, whose VR is 0
abbrev hingeless_row_words : ℕ → (upper lower : ℤ) → List ℤ
hingeless_row_words offset upper lower = pos offset ∷ pos 5 ∷ upper ∷ lower ∷ pos 0 ∷ pos 0 ∷ pos 0 ∷ pos 1 ∷ []

-- those of a basement member
abbrev basement_row_words : ℕ → (upper lower : ℤ) → (strength verdict : ℕ) → List ℤ
basement_row_words offset upper lower strength verdict = pos offset ∷ pos 12 ∷ upper ∷ lower ∷ pos strength ∷ pos 0 ∷ pos 0 ∷ pos verdict ∷ []

-- on a slice of zeros with just room for them, run answers the number of these rows, so many failed and so many checks failed, and
-- writes them
pub record Gives (job : List ℕ) (rows : List (List ℤ)) (failed checks : ℕ) : Type 0 where
  pub answer : run_of job (8 * length rows) ≡ ran_answer (record { rows = length rows; failed = failed; checks = checks })
  pub words : rows_after job (replicate (8 * length rows) (pos 0)) ≡ joined rows

-- ---- the jobs

-- bit 1, V against VR: 186,667, then 186,666
abbrev column_equal : List ℕ
column_equal = settings ++ column 0x2b ++ finish

abbrev column_beyond : List ℕ
column_beyond = settings ++ column 0x2a ++ finish

-- bit 1, upper against VR: 150,000, then 149,999
abbrev upper_equal : List ℕ
upper_equal = settings ++ beam upwards 0xf0 ++ finish

abbrev upper_beyond : List ℕ
upper_beyond = settings ++ beam upwards 0xef ++ finish

-- bit 1, minus lower against VR
abbrev lower_equal : List ℕ
lower_equal = settings ++ beam downwards 0xf0 ++ finish

abbrev lower_beyond : List ℕ
lower_beyond = settings ++ beam downwards 0xef ++ finish

-- bit 2, moment against MS: 325,000, then 324,999
abbrev moment_equal : List ℕ
moment_equal = settings ++ wall_base 0xa1 ++ storey 0x88 ++ finish

abbrev moment_beyond : List ℕ
moment_beyond = settings ++ wall_base 0xa1 ++ storey 0x87 ++ finish

-- bit 4, ex against B/3: 1,000, then 1,001
abbrev third_equal : List ℕ
third_equal = settings ++ soil 0 ++ footing side3000 action100000 action100000 (zeros 4) (zeros 4) 0 ++ finish

abbrev third_beyond : List ℕ
third_beyond = settings ++ soil 0 ++ footing side3000 action100000 action100001 (zeros 4) (zeros 4) 0 ++ finish

-- bit 4 on sensitive soil, ey against L/4, with both flags set
abbrev quarter_equal : List ℕ
quarter_equal = settings ++ soil 1 ++ footing side4000 action100000 (zeros 4) action100000 (zeros 4) 3 ++ finish

abbrev quarter_beyond : List ℕ
quarter_beyond = settings ++ soil 1 ++ footing side4000 action100000 (zeros 4) action100001 (zeros 4) 3 ++ finish

-- bit 4 with the exception, ex against B/2: 999, then 1,000
abbrev half_below : List ℕ
half_below = settings ++ soil 0 ++ footing side2000 action100000 action99900 (zeros 4) (zeros 4) 3 ++ finish

abbrev half_equal : List ℕ
half_equal = settings ++ soil 0 ++ footing side2000 action100000 action100000 (zeros 4) (zeros 4) 3 ++ finish

-- bit 8, H against R = 50,000: 50,000, then 50,001
abbrev sliding_equal : List ℕ
sliding_equal = settings ++ soil 0 ++ footing side3000 action100000 (zeros 4) (zeros 4) (0x00 ∷ 0x00 ∷ 0xc3 ∷ 0x50 ∷ []) 0 ++ finish

abbrev sliding_beyond : List ℕ
sliding_beyond = settings ++ soil 0 ++ footing side3000 action100000 (zeros 4) (zeros 4) (0x00 ∷ 0x00 ∷ 0xc3 ∷ 0x51 ∷ []) 0 ++ finish

-- bit 16, N: 20,000, then 19,999
abbrev normal_least : List ℕ
normal_least = settings ++ soil 0 ++ footing side3000 (0x00 ∷ 0x00 ∷ 0x4e ∷ 0x20 ∷ []) (zeros 4) (zeros 4) (zeros 4) 0 ++ finish

abbrev normal_below : List ℕ
normal_below = settings ++ soil 0 ++ footing side3000 (0x00 ∷ 0x00 ∷ 0x4e ∷ 0x1f ∷ []) (zeros 4) (zeros 4) (zeros 4) 0 ++ finish

-- bit 32, xu·mu against 175,000: 175 by 1,000, then 139 by 1,259
abbrev detail_equal : List ℕ
detail_equal = settings ++ detail 0 0xaf 0x03 0xe8 0 ++ finish

abbrev detail_beyond : List ℕ
detail_beyond = settings ++ detail 0 0x8b 0x04 0xeb 0 ++ finish

-- bits 32 and 64 of one row: the same detail with a lap at place 2
abbrev detail_both : List ℕ
detail_both = settings ++ detail 2 0x8b 0x04 0xeb 1 ++ finish

-- bit 64: a lap at the places 0, 1 and 2, and no lap at place 2
abbrev laps : List ℕ
laps = settings ++ detail 0 0 0x03 0xe8 1 ++ detail 1 0 0x03 0xe8 1 ++ detail 2 0 0x03 0xe8 1 ++ detail 2 0 0x03 0xe8 0 ++ finish

-- bit 128: walls 4,000 and 4,001 long
abbrev lengths : List ℕ
lengths = settings ++ wall_base 0xa0 ++ wall_base 0xa1 ++ finish

-- a joint given again between two members that are alike: a is 1.40 · 100 / 100, then q, 3.50, as EB is 0
abbrev joint_again : List ℕ
joint_again = settings ++ joint 0x64 ++ hingeless ++ joint 0 ++ hingeless ++ finish

-- bit 1 by minus lower and bit 2 by upper, under a joint of a = 1.75: −1 − 3.5 is −5 and 1 + 3.5 is 5; strengths 5, then 4
abbrev basement_equal : List ℕ
basement_equal = settings ++ joint 0x50 ++ basement 0 9 5 5 ++ finish

abbrev basement_beyond : List ℕ
basement_beyond = settings ++ joint 0x50 ++ basement 0 9 4 4 ++ finish

-- under a wall of a = 3.25, behind a joint that is not its own: −1 ± 6.5 and 1 ± 6.5
abbrev basement_under_wall : List ℕ
basement_under_wall = settings ++ joint 0x50 ++ wall_base 0xa1 ++ basement 1 0 8 7 ++ finish

-- ---- their rows

pub record Edges : Type 0 where
  pub column_equal_lem : Gives column_equal (row 7 3 186667 186667 0 0 0 0 ∷ []) 0 0
  pub column_beyond_lem : Gives column_beyond (row 7 3 186667 186666 0 0 0 1 ∷ []) 1 1
  pub upper_equal_lem : Gives upper_equal (beam_row_words (pos 150000) (negsuc 29999) 150000 0 ∷ []) 0 0
  pub upper_beyond_lem : Gives upper_beyond (beam_row_words (pos 150000) (negsuc 29999) 149999 1 ∷ []) 1 1
  pub lower_equal_lem : Gives lower_equal (beam_row_words (pos 30000) (negsuc 149999) 150000 0 ∷ []) 0 0
  pub lower_beyond_lem : Gives lower_beyond (beam_row_words (pos 30000) (negsuc 149999) 149999 1 ∷ []) 1 1
  pub moment_equal_lem : Gives moment_equal (row 7 6 2925000 3000000 5000000 5000000 0 0 ∷ row 32 7 325000 400000 325000 325000 1 0 ∷ []) 0 0
  pub moment_beyond_lem : Gives moment_beyond (row 7 6 2925000 3000000 5000000 5000000 0 0 ∷ row 32 7 325000 400000 325000 324999 1 2 ∷ []) 1 1
  -- both directions of a footing alike
  pub third_equal_lem : Gives third_equal (row 14 9 100000 1000 0 0 50000 0 ∷ row 14 9 100000 1000 0 0 50000 0 ∷ []) 0 0
  pub third_beyond_lem : Gives third_beyond (row 14 9 100000 1001 0 0 50000 4 ∷ row 14 9 100000 1001 0 0 50000 4 ∷ []) 2 2
  pub quarter_equal_lem : Gives quarter_equal (row 14 9 100000 0 1000 0 50000 0 ∷ row 14 9 100000 0 1000 0 50000 0 ∷ []) 0 0
  pub quarter_beyond_lem : Gives quarter_beyond (row 14 9 100000 0 1001 0 50000 4 ∷ row 14 9 100000 0 1001 0 50000 4 ∷ []) 2 2
  pub half_below_lem : Gives half_below (row 14 9 100000 999 0 0 50000 0 ∷ row 14 9 100000 999 0 0 50000 0 ∷ []) 0 0
  pub half_equal_lem : Gives half_equal (row 14 9 100000 1000 0 0 50000 4 ∷ row 14 9 100000 1000 0 0 50000 4 ∷ []) 2 2
  pub sliding_equal_lem : Gives sliding_equal (row 14 9 100000 0 0 50000 50000 0 ∷ row 14 9 100000 0 0 50000 50000 0 ∷ []) 0 0
  pub sliding_beyond_lem : Gives sliding_beyond (row 14 9 100000 0 0 50001 50000 8 ∷ row 14 9 100000 0 0 50001 50000 8 ∷ []) 2 2
  pub normal_least_lem : Gives normal_least (row 14 9 20000 0 0 0 10000 0 ∷ row 14 9 20000 0 0 0 10000 0 ∷ []) 0 0
  pub normal_below_lem : Gives normal_below (row 14 9 19999 0 0 0 0 16 ∷ row 14 9 19999 0 0 0 0 16 ∷ []) 2 2
  pub detail_equal_lem : Gives detail_equal (row 7 10 175000 175000 0 0 0 0 ∷ []) 0 0
  pub detail_beyond_lem : Gives detail_beyond (row 7 10 175001 175000 0 0 0 32 ∷ []) 1 1
  pub detail_both_lem : Gives detail_both (row 7 10 175001 175000 0 0 0 96 ∷ []) 1 2
  pub lap_at_2_only : Gives laps (row 7 10 0 175000 0 0 0 0 ∷ row 16 10 0 175000 0 0 0 0 ∷ row 25 10 0 175000 0 0 0 64 ∷ row 34 10 0 175000 0 0 0 0 ∷ []) 1 1
  pub four_thicknesses : Gives lengths (row 7 6 2925000 3000000 5000000 5000000 0 128 ∷ row 32 6 2925000 3000000 5000000 5000000 0 0 ∷ []) 1 1
  pub joint_again_lem : Gives joint_again (hingeless_row_words 21 (pos 5600) (negsuc 5599) ∷ hingeless_row_words 58 (pos 14000) (negsuc 13999) ∷ []) 2 2
  pub basement_equal_lem : Gives basement_equal (basement_row_words 21 (pos 3) (negsuc 4) 5 0 ∷ basement_row_words 21 (pos 5) (negsuc 2) 5 0 ∷ []) 0 0
  pub basement_beyond_lem : Gives basement_beyond (basement_row_words 21 (pos 3) (negsuc 4) 4 1 ∷ basement_row_words 21 (pos 5) (negsuc 2) 4 2 ∷ []) 2 2
  pub basement_of_wall : Gives basement_under_wall (row 21 6 2925000 3000000 5000000 5000000 0 0 ∷ basement_row_words 46 (pos 6) (negsuc 7) 8 0 ∷ basement_row_words 46 (pos 8) (negsuc 5) 7 2 ∷ []) 1 1

pub edges : Edges
unfolding
    run_of rows_after verdict_at row_failed checks_of verdict_sum rows_failed checks_failed ones_in ones placed listed listed_by all_rows rows_of rows_with tests_at command_tests file_command_at width_at too_many seventeenth misplaced known known_in forms_of forms_in operands_width width_of_all width command_at command_of read_operands number number_after in_range all_in_range
    form_in_range related within within_signed signed32 bits32 next absent column_row beam_row hingeless_row basement_row detail_row base_row base_row_from storey_row storey_row_from footing_row base_resistance coefficient_of cap_governs smaller up down up_ℤ down_ℤ
    first_from least_root soil_allowed soil_holding value_allowed kind_known top_of factor_of allowed cut taken take_down tangent_of accepted refused of_bits
edges =
    record {
      column_equal_lem = record { answer = refl; words = refl };
      column_beyond_lem = record { answer = refl; words = refl };
      upper_equal_lem = record { answer = refl; words = refl };
      upper_beyond_lem = record { answer = refl; words = refl };
      lower_equal_lem = record { answer = refl; words = refl };
      lower_beyond_lem = record { answer = refl; words = refl };
      moment_equal_lem = record { answer = refl; words = refl };
      moment_beyond_lem = record { answer = refl; words = refl };
      third_equal_lem = record { answer = refl; words = refl };
      third_beyond_lem = record { answer = refl; words = refl };
      quarter_equal_lem = record { answer = refl; words = refl };
      quarter_beyond_lem = record { answer = refl; words = refl };
      half_below_lem = record { answer = refl; words = refl };
      half_equal_lem = record { answer = refl; words = refl };
      sliding_equal_lem = record { answer = refl; words = refl };
      sliding_beyond_lem = record { answer = refl; words = refl };
      normal_least_lem = record { answer = refl; words = refl };
      normal_below_lem = record { answer = refl; words = refl };
      detail_equal_lem = record { answer = refl; words = refl };
      detail_beyond_lem = record { answer = refl; words = refl };
      detail_both_lem = record { answer = refl; words = refl };
      lap_at_2_only = record { answer = refl; words = refl };
      four_thicknesses = record { answer = refl; words = refl };
      joint_again_lem = record { answer = refl; words = refl };
      basement_equal_lem = record { answer = refl; words = refl };
      basement_beyond_lem = record { answer = refl; words = refl };
      basement_of_wall = record { answer = refl; words = refl };
    }
