-- Take-down of a soil's value (01, "Soil and footing"). Assumes nothing.
use Rattle.std.specs.Prelude.{ℕ, cond, Float}
use Rattle.soil.specs.Value.{allowed, cut}
use Rattle.soil.specs.Kinds.{known, top_of, factor_of}
use Rattle.soil.specs.Answers.{Answer, accepted, refused}

-- in range from 0 to top: the value times the factor, taken down
unfoldable pub taken : ℕ → ℕ → Float → Answer
unfolding allowed cut accepted refused
taken top factor x = cond (allowed top x) (accepted (cut factor x)) refused

-- "Take-down of one soil value (kind, binary32)"
unfoldable pub take_down : ℕ → Float → Answer
unfolding taken known top_of factor_of refused
take_down kind x = cond (known kind) (taken (top_of kind) (factor_of kind) x) refused

-- t of a tangent, and s in Pa of a strength in kPa; 0 where the value is out of range
unfoldable pub tangent_of : Float → ℕ
unfolding take_down
tangent_of x = (take_down 0 x).value

unfoldable pub cohesion_of : Float → ℕ
unfolding take_down
cohesion_of x = (take_down 1 x).value
