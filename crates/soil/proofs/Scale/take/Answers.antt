-- `Scale::take` meets its contract: with the sign bit clear, at most the limit is in range. The check does not find it by `using` alone.
-- Assumes nothing.
use mathlib.Core.Path.{sym, ap, ◌∙◌, subst}
use Prim.Native.Nat.{ℕ, ◌<◌}
use denote.Floats.{passes}
use lib.Dec.{T}
use lib.Ieee.{Float, binary32, to_bits, fits, le}
use lib.Ieee.Bits.{of_bits-to_bits}
use Rattle.soil.specs.Value.{allowed, cut}
use Rattle.soil.specs.Answers.{answer_of, accepted}
use Rattle.soil.proofs.Values.{le_allowed, top_allowed, not_le_refused}
use Rattle.soil.proofs.Patterns.{clear_value, set_value}
use Rattle.soil.proofs.Laws.{taken_in, taken_out}
use Rattle.soil.proofs.Scale.take.Goals as goal

-- past both tests the value is in range where the limit is
range : (x limit : Float) (top : ℕ) → T (fits binary32 x) → to_bits binary32 x < 2147483648 → T (le x limit) → T (allowed top limit) → T (allowed top x)
range x limit top h s l t = le_allowed x limit top t (clear_value x h s) l

pub whole-requires : goal.whole-requires
whole-requires c =
    record {
      value = subst (λ (x : Float). T (allowed 1000 x)) (sym (of_bits-to_bits binary32 c.args.value (passes _ c.well_formed.1.0.1)))
          (range _ _ 1000 (passes _ c.well_formed.1.0.1) c.if-bits-lt2147483648.true (passes _ c.if-value-self.true) c.requires.limit);
      factor = c.requires.factor;
    }

pub returns-then-bits-lt2147483648 : goal.returns-then-bits-lt2147483648
unfolding answer_of
returns-then-bits-lt2147483648 c top v =
    ap accepted
    (c.whole.ensures ∙ ap (cut c.args.self.factor) (of_bits-to_bits binary32 c.args.value (passes _ c.well_formed.1.0.1)))
    ∙ sym (taken_in top c.args.self.factor c.args.value
    (range _ _ top (passes _ c.well_formed.1.0.1) c.if-bits-lt2147483648.true (passes _ c.if-value-self.true) (top_allowed c.args.self.limit top v)))

pub returns-else-bits-lt2147483648 : goal.returns-else-bits-lt2147483648
unfolding answer_of
returns-else-bits-lt2147483648 c top v =
    sym (taken_out top c.args.self.factor c.args.value
    (set_value top c.args.value (passes _ c.well_formed.1.0.1) c.if-bits-lt2147483648.false))

pub returns-else-value-self : goal.returns-else-value-self
unfolding answer_of
returns-else-value-self c top v =
    sym (taken_out top c.args.self.factor c.args.value
    (not_le_refused c.args.value c.args.self.limit top v c.if-value-self.false))
