-- Detail. 01, "Members": passes when xu·mu ≤ 175·(1000 − xy); a lap is a fault at place 2, elsewhere only advised against.
use Rattle.std.specs.Prelude.{◌&&◌, [], ◌∷◌, ℕ, ◌+◌, ◌-◌, ◌*◌, ◌≤◌, ltb, eqb, pos}
use Rattle.exact.specs.Fraction.{whole}
use Rattle.exact.specs.SignedFraction.{whole_s}
use Rattle.claims.specs.declared.Row.{Row}
use Rattle.claims.specs.Verdict.{flag}
use Rattle.claims.specs.Exact.{value}
use Rattle.claims.specs.Claims.{Claims, plain, operand, check}
use Rattle.members.specs.declared.Detail.{Detail}

-- xu·mu: the neutral axis depth at failure times the ductility factor
abbrev pub detail_demand : Detail → ℕ
detail_demand d = d.ultimate * d.ductility

-- 175·(1000 − xy), xy the neutral axis depth at yield
abbrev pub detail_limit : Detail → ℕ
detail_limit d = 175 * (1000 - d.yielded)

-- words: xu·mu, 175·(1000 − xy); bit 32 where not passed, bit 64 for a lap at place 2
unfoldable pub detail_row : Detail → Row
detail_row d =
    record {
      word2 = pos (detail_demand d);
      word3 = pos (detail_limit d);
      word4 = pos 0;
      word5 = pos 0;
      word6 = pos 0;
      verdict = pos (flag 32 (ltb (detail_limit d) (detail_demand d)) + flag 64 (eqb d.place 2 && eqb d.lap 1));
    }

-- one check: xu·mu is its own exact value, and its amount is 0
unfoldable pub detail_claims : Detail → Row → Claims
detail_claims d r =
    record {
      demands = [];
      checks = check 32 (plain r.word2 (value (whole_s (pos (detail_demand d)))) (whole 0)) (operand r.word3 (detail_limit d)) ∷ [];
      verdict = r.verdict;
    }

pub record DetailRange (d : Detail) : Type 0 where
  pub place : d.place ≤ 2
  pub ultimate : d.ultimate ≤ 1000
  pub yielded : d.yielded ≤ 1000
  pub ductility : d.ductility ≤ 2000
  pub lap : d.lap ≤ 1
