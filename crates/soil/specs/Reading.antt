-- A soil from its kind and the 32 bits of its value (01, "Job commands", 08, and "Soil and footing"). Assumes nothing.
use Rattle.std.specs.Prelude.{ℕ, Bool, cond, eqb, Float, Option, Some, None}
use Rattle.std.specs.Float.{binary32}
use Rattle.std.specs.Float.Ieee.{of_bits}
use Rattle.soil.specs.declared.Soil.{Soil}
use Rattle.soil.specs.declared.Soil.TheVariants.{Granular, Cohesive}
use Rattle.soil.specs.Kinds.{value_allowed}

-- kind and value in range: what 08 asks of both, and take-down
unfoldable pub soil_allowed : ℕ → ℕ → Bool
unfolding value_allowed
soil_allowed kind bits = value_allowed kind (of_bits binary32 bits)

-- "A granular soil holds the tangent of its friction angle and a cohesive one its undrained strength in kPa"
unfoldable pub soil_holding : ℕ → Float → Soil
soil_holding kind x = cond (eqb kind 0) (Granular x) (Cohesive x)

unfoldable pub soil_of : ℕ → ℕ → Option Soil
unfolding soil_allowed soil_holding
soil_of kind bits = cond (soil_allowed kind bits) (Some (soil_holding kind (of_bits binary32 bits))) None

-- the kind and the value of a soil
unfoldable pub kind_of : Soil → ℕ
kind_of (Granular x) = 0
kind_of (Cohesive x) = 1

unfoldable pub value_of : Soil → Float
value_of (Granular x) = x
value_of (Cohesive x) = x
