-- `FootingOnSoil::excepted` meets its contract: q is at most 400 and both terms of a are in range. Assumes nothing.
use Prim.Native.Nat.{◌≤◌}
use native.Mathlib.Omega.{arith}
use native.Mathlib.Nat.{mul-le-mul}
use Rattle.footing.proofs.Directions.{capped_coefficient}
use Rattle.footing.proofs.FootingOnSoil.excepted.Goals as goal

pub overflow_mul-result : goal.overflow_mul-result
overflow_mul-result c =
    let s = c.args.self.now in
    omega (arith, (capped_coefficient s.settings s.footing s.coefficient s.range s.is).num)

pub overflow_mul-result-then-behaviour-gt100 : goal.overflow_mul-result-then-behaviour-gt100
overflow_mul-result-then-behaviour-gt100 c =
    let s = c.args.self.now in
    let q : c.from-behaviour.result ≤ 400 = omega (arith, s.range.behaviour) in
    omega (arith, mul-le-mul q (capped_coefficient s.settings s.footing s.coefficient s.range s.is).den)
