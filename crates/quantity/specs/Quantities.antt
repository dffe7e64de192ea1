-- The greatest values and the ranges of 01, "Quantities" and "Job commands". Forces are newtons, moments newton metres,
-- lengths millimetres, factors hundredths.
use Rattle.std.specs.Prelude.{ℕ}
use Rattle.quantity.specs.Range.{Range}

abbrev pub force_limit : ℕ
force_limit = 100000000

abbrev pub moment_limit : ℕ
moment_limit = 100000000

abbrev pub length_limit : ℕ
length_limit = 100000

abbrev pub force : Range
force = record { least = 0; greatest = force_limit }

abbrev pub moment : Range
moment = record { least = 0; greatest = moment_limit }

-- "member length u32, 500 to 100,000"
abbrev pub member_length : Range
member_length = record { least = 500; greatest = length_limit }

-- 06: "length, thickness (u32, 100 to 10,000)"
abbrev pub wall_length : Range
wall_length = record { least = 100; greatest = 10000 }

-- 09: "sides B, L (u32, 500 to 20,000)"
abbrev pub side : Range
side = record { least = 500; greatest = 20000 }

-- q, the behaviour factor
abbrev pub behaviour : Range
behaviour = record { least = 100; greatest = 400 }

-- gj and gf, the overstrengths of joints and of foundations
abbrev pub overstrength : Range
overstrength = record { least = 100; greatest = 200 }
