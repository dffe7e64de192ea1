-- An action: a non-seismic value V plus or minus the coefficient a times a seismic value E, unrounded. 01, "Soil and footing": "N = NV ±
-- a·NE"; 02, No. 9: "VV + a·VE up, VV − a·VE down". V0 ± D of a beam is the action with D for a and 1 for E (proofs/Sums.antt, `plus_one`).
use Rattle.std.specs.Prelude.{◌*◌, ℤ}
use Rattle.exact.specs.Fraction.{Fraction}
use Rattle.exact.specs.SignedFraction.{SignedFraction, above, below, whole_s, ◌+S◌, ◌-S◌}
use Rattle.actions.specs.declared.Sign.{Sign}
use Rattle.actions.specs.declared.Sign.TheVariants.{Plus, Minus}

-- a·z
abbrev pub scaled : Fraction → ℤ → SignedFraction
scaled a z = record { plus = a.num * above z; minus = a.num * below z; den = a.den }

-- V ± a·E
abbrev pub action : Sign → Fraction → ℤ → ℤ → SignedFraction
action Plus a v e = whole_s v +S scaled a e
action Minus a v e = whole_s v -S scaled a e
