-- The actions on a footing. 01, "Soil and footing": both directions, sign + then −, with g = gf, a from MR, ME.
use Rattle.exact.specs.Fraction.{Fraction}
use Rattle.exact.specs.SignedFraction.{SignedFraction}
use Rattle.coefficient.specs.declared.Settings.{Settings}
use Rattle.coefficient.specs.Coefficient.{coefficient_of}
use Rattle.actions.specs.declared.Sign.{Sign}
use Rattle.actions.specs.Action.{action}
use Rattle.footing.specs.declared.Footing.{Footing}

-- a of the element above: `resistance` is MR, `moment` ME
abbrev pub footing_coefficient : Settings → Footing → Fraction
footing_coefficient s f = coefficient_of s.foundations f.resistance f.moment s.behaviour

-- N, and X, Y, H with their signs, unrounded
abbrev pub normal : Settings → Footing → Sign → SignedFraction
normal s f sign = action sign (footing_coefficient s f) f.nv f.ne

abbrev pub moment_b : Settings → Footing → Sign → SignedFraction
moment_b s f sign = action sign (footing_coefficient s f) f.xv f.xe

abbrev pub moment_l : Settings → Footing → Sign → SignedFraction
moment_l s f sign = action sign (footing_coefficient s f) f.yv f.ye

abbrev pub horizontal : Settings → Footing → Sign → SignedFraction
horizontal s f sign = action sign (footing_coefficient s f) f.hv f.he
