-- 01, "Figures to hold to", and the ends of both ranges: take-down of bit patterns, by computation. Assumes nothing.
use mathlib.Core.Path.{◌≡◌, refl}
use lib.Ieee.{binary32, of_bits}
use Rattle.soil.specs.Taken.{take_down}

-- 0.7 as a binary32 lies below 0.7
pub tangent_0_7 : take_down 0 (of_bits binary32 0x3F33_3333) ≡ record { number = 0; offset = 0; value = 6999 }
unfolding take_down of_bits
tangent_0_7 = refl

pub tangent_2 : take_down 0 (of_bits binary32 0x4000_0000) ≡ record { number = 0; offset = 0; value = 20000 }
unfolding take_down of_bits
tangent_2 = refl

-- one pattern above 2.0
pub tangent_above_2 : take_down 0 (of_bits binary32 0x4000_0001) ≡ record { number = 5; offset = 0; value = 0 }
unfolding take_down of_bits
tangent_above_2 = refl

-- −0.0
pub tangent_minus_0 : take_down 0 (of_bits binary32 0x8000_0000) ≡ record { number = 5; offset = 0; value = 0 }
unfolding take_down of_bits
tangent_minus_0 = refl

-- the least value above 0, a subnormal
pub tangent_subnormal : take_down 0 (of_bits binary32 0x0000_0001) ≡ record { number = 0; offset = 0; value = 0 }
unfolding take_down of_bits
tangent_subnormal = refl

pub tangent_nan : take_down 0 (of_bits binary32 0x7FC0_0000) ≡ record { number = 5; offset = 0; value = 0 }
unfolding take_down of_bits
tangent_nan = refl

pub tangent_infinity : take_down 0 (of_bits binary32 0x7F80_0000) ≡ record { number = 5; offset = 0; value = 0 }
unfolding take_down of_bits
tangent_infinity = refl

pub cohesion_0 : take_down 1 (of_bits binary32 0x0000_0000) ≡ record { number = 0; offset = 0; value = 0 }
unfolding take_down of_bits
cohesion_0 = refl

pub cohesion_1000 : take_down 1 (of_bits binary32 0x447A_0000) ≡ record { number = 0; offset = 0; value = 1000000 }
unfolding take_down of_bits
cohesion_1000 = refl

-- one pattern above 1000.0
pub cohesion_above_1000 : take_down 1 (of_bits binary32 0x447A_0001) ≡ record { number = 5; offset = 0; value = 0 }
unfolding take_down of_bits
cohesion_above_1000 = refl

pub cohesion_minus_0 : take_down 1 (of_bits binary32 0x8000_0000) ≡ record { number = 5; offset = 0; value = 0 }
unfolding take_down of_bits
cohesion_minus_0 = refl

pub cohesion_nan : take_down 1 (of_bits binary32 0x7FC0_0000) ≡ record { number = 5; offset = 0; value = 0 }
unfolding take_down of_bits
cohesion_nan = refl

pub cohesion_infinity : take_down 1 (of_bits binary32 0x7F80_0000) ≡ record { number = 5; offset = 0; value = 0 }
unfolding take_down of_bits
cohesion_infinity = refl

-- 0.5 of a kind that there is not
pub kind_2 : take_down 2 (of_bits binary32 0x3F00_0000) ≡ record { number = 5; offset = 0; value = 0 }
unfolding take_down of_bits
kind_2 = refl
