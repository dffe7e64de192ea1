-- The flags of a footing, and how much of P counts. 01, "Job commands": bit 0 uncertainties minimised, bit 1 strict tolerances. 02, No. 6
-- (EAK 2000, 5.2.3.2 β [1]): bit 2 declares full contact with undisturbed or compacted ground that won't be dug away; "Without it P adds
-- nothing to R, in the rows and in the exact strength alike."
use Rattle.std.specs.Prelude.{Bool, ◌&&◌, cond, ℕ, ◌/◌, ◌%◌, eqb}
use Rattle.footing.specs.declared.Footing.{Footing}

-- the bit of value b, a power of two, is set
abbrev pub bit_set : ℕ → ℕ → Bool
bit_set b flags = eqb (flags / b % 2) 1

-- "both flags" of bit 4: bits 0 and 1, whatever bit 2 is
abbrev pub both_flags : Footing → Bool
both_flags f = bit_set 1 f.flags && bit_set 2 f.flags

-- bit 2
abbrev pub contact : Footing → Bool
contact f = bit_set 4 f.flags

-- P where the contact is declared, else 0; P is the same operand in both cases, with the same range
abbrev pub counted_thrust : Footing → ℕ
counted_thrust f = cond (contact f) f.passive 0
