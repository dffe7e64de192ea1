-- `soil::whole` meets its contract: the digits times the factor, shifted, are the value times the factor, taken down. The check does not
-- find it by `using` alone. Assumes nothing.
use mathlib.Core.Path.{sym, subst}
use Prim.Native.Nat.{ℕ, ◌*◌, ◌^◌, ◌≤◌, ◌<◌}
use native.Mathlib.Nat.{lt_of_le_of_lt, mul-le-mul}
use native.Mathlib.Omega.{arith}
use lib.Dec.{lit<}
use mir.Val.{Fits}
use mir.Syntax.{w32}
use Rattle.soil.proofs.Values.{cut_le}
use Rattle.soil.proofs.Patterns.{below, small, shifted}
use Rattle.soil.proofs.whole.Goals as goal

product_lt : (digits factor : ℕ) → digits ≤ 16777216 → factor ≤ 10000 → digits * factor < 2 ^ 64
product_lt digits factor d f = lt_of_le_of_lt (mul-le-mul d f) (lit< tt)

-- at most 1000 times the factor
fits : (factor r : ℕ) → factor ≤ 10000 → r ≤ 1000 * factor → Fits w32 r
fits factor r h l = record { fits = omega arith }

pub returns-then-field-lt87 : goal.returns-then-field-lt87
returns-then-field-lt87 c = sym (small c.args.bits c.args.factor c.if-field-lt87.true c.requires.factor)

pub overflow_sub-result : goal.overflow_sub-result
overflow_sub-result c = omega (arith, below c.args.bits c.requires.value)

pub overflow_cast-result-2 : goal.overflow_cast-result-2
overflow_cast-result-2 c =
    rw (c.from.ensures, c.from-2.ensures)
    (subst (λ (r : ℕ). Fits w32 r) (shifted c.args.bits c.args.factor c.if-field-lt87.false (below c.args.bits c.requires.value))
    (fits c.args.factor _ c.requires.factor (cut_le 1000 c.args.factor _ c.requires.value)))

pub returns : goal.returns
returns c = rw (c.from.ensures, c.from-2.ensures) (sym (shifted c.args.bits c.args.factor c.if-field-lt87.false (below c.args.bits c.requires.value)))
