-- What demand 3 claims of a footing row whose reported N is at least 20,000. 01, "Exact values" and "Rows and verdict bits".
use Rattle.std.specs.Prelude.{Bool, true, false, [], ◌∷◌, ℕ, ◌+◌, ◌*◌, ℤ}
use Rattle.exact.specs.Fraction.{Fraction, whole, ratio, times, smaller, ◌≤F◌, ◌+F◌, ◌∸F◌, ◌*F◌, ◌÷F◌}
use Rattle.exact.specs.SignedFraction.{signed, whole_s, size, positive}
use Rattle.soil.specs.declared.Soil.{Soil}
use Rattle.soil.specs.declared.Soil.TheVariants.{Granular, Cohesive}
use Rattle.soil.specs.Taken.{tangent_of, cohesion_of}
use Rattle.coefficient.specs.declared.Settings.{Settings}
use Rattle.claims.specs.declared.Row.{Row}
use Rattle.claims.specs.Exact.{value}
use Rattle.claims.specs.Claims.{Claims, Demand, Strength, Check, plain, check}
use Rattle.actions.specs.declared.Sign.{Sign}
use Rattle.footing.specs.declared.Footing.{Footing}
use Rattle.footing.specs.Flags.{counted_thrust}
use Rattle.footing.specs.Actions.{footing_coefficient, normal, moment_b, moment_l, horizontal}
use Rattle.footing.specs.Rows.{exception}

-- ---- exact values: every up and down left out

-- the unrounded N, which is positive where the reported one is at least 20,000
abbrev pub exact_normal : Settings → Footing → Sign → Fraction
exact_normal s f sign = positive (normal s f sign)

-- ex is 1000 times the unrounded X over the unrounded N, ey likewise
abbrev pub exact_ex : Settings → Footing → Sign → Fraction
exact_ex s f sign = times 1000 (size (moment_b s f sign)) ÷F exact_normal s f sign

abbrev pub exact_ey : Settings → Footing → Sign → Fraction
exact_ey s f sign = times 1000 (size (moment_l s f sign)) ÷F exact_normal s f sign

abbrev pub exact_area : Settings → Footing → Sign → Fraction
exact_area s f sign = (whole f.breadth ∸F times 2 (exact_ex s f sign)) *F (whole f.length ∸F times 2 (exact_ey s f sign))

-- only t and s stay as taken down
abbrev pub exact_base : Settings → Footing → Soil → Sign → Fraction
exact_base s f (Granular x) sign = (exact_normal s f sign ∸F whole f.uplift) *F ratio (tangent_of x) 10000
exact_base s f (Cohesive x) sign = smaller (exact_area s f sign *F ratio (cohesion_of x) 1000000) (exact_normal s f sign *F ratio 2 5)

-- and of P what counts, as in the row
abbrev pub exact_sliding : Settings → Footing → Soil → Sign → Fraction
exact_sliding s f soil sign = exact_base s f soil sign +F ratio (2 * counted_thrust f) 5

-- ---- the checks

-- ex or ey: the excess is under 2 where the exact value is at most side/2
abbrev pub eccentricity_demand : ℤ → Fraction → ℕ → Demand
eccentricity_demand reported exact side =
    record { reported = reported; exact = value (signed exact); guard = exact ≤F ratio side 2; amount = whole 2 }

-- the side over 4 on sensitive soil; on other soil over 2 where the exception holds (passed only below it), else over 3
abbrev pub side_over : ℕ → ℕ → Strength
side_over side n = record { reported = signed (ratio side n); exact = signed (ratio side n); amount = whole 0 }

abbrev pub eccentricity_check : Bool → Bool → Demand → ℕ → Check
eccentricity_check true excepted d side = record { bit = 4; demand = d; strength = side_over side 4; strict = false }
eccentricity_check false true d side = record { bit = 4; demand = d; strength = side_over side 2; strict = true }
eccentricity_check false false d side = record { bit = 4; demand = d; strength = side_over side 3; strict = false }

-- R falls short by under 4 on granular soil, by under 4·(B + L)·s/10⁶ + 3 on cohesive
abbrev pub sliding_amount : Footing → Soil → Fraction
sliding_amount f (Granular x) = whole 4
sliding_amount f (Cohesive x) = ratio (4 * (f.breadth + f.length) * cohesion_of x) 1000000 +F whole 3

abbrev pub sliding_strength : Settings → Footing → Soil → Sign → ℤ → Strength
sliding_strength s f soil sign reported =
    record { reported = whole_s reported; exact = signed (exact_sliding s f soil sign); amount = sliding_amount f soil }

unfoldable pub footing_claims : Settings → Footing → Soil → Bool → Sign → Row → Claims
footing_claims s f soil sensitive sign r =
    let excepted = exception s.behaviour f (footing_coefficient s f) in
    record {
      demands = [];
      checks =
          eccentricity_check sensitive excepted (eccentricity_demand r.word3 (exact_ex s f sign) f.breadth) f.breadth
          ∷ eccentricity_check sensitive excepted (eccentricity_demand r.word4 (exact_ey s f sign) f.length) f.length
          ∷ check 8 (plain r.word5 (value (signed (size (horizontal s f sign)))) (whole 1)) (sliding_strength s f soil sign r.word6)
          ∷ [];
      verdict = r.verdict;
    }
