-- The kinds of soil: 0 granular, 1 cohesive, each with the range of its value and the factor of take-down (01, "Job commands", 08, and
-- "Soil and footing"). Assumes nothing.
use Rattle.std.specs.Prelude.{ℕ, Bool, ◌&&◌, cond, leb, eqb, Float}
use Rattle.soil.specs.Value.{allowed}

-- "kind u8 (0 granular, 1 cohesive)"
unfoldable pub known : ℕ → Bool
known kind = leb kind 1

-- "(tangent, 0 to 2.0)", "(kPa to Pa, 0 to 1000.0)"
unfoldable pub top_of : ℕ → ℕ
top_of kind = cond (eqb kind 0) 2 1000

-- "times 10,000", "times 1,000"
unfoldable pub factor_of : ℕ → ℕ
factor_of kind = cond (eqb kind 0) 10000 1000

-- the kind and the value are in range
unfoldable pub value_allowed : ℕ → Float → Bool
unfolding known top_of allowed
value_allowed kind x = known kind && allowed (top_of kind) x
