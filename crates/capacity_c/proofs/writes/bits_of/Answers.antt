-- `capacity_c::writes::bits_of` meets its contract: one value alone is no number. Assumes nothing.
use mathlib.Core.Path.{◌≡◌, refl, sym, ap, ◌∙◌}
use mathlib.Core.Bool.{true, true≢false}
use lib.Ieee.{Float, nan, inf, fin, binary32, is_nan, to_bits}
use Rattle.capacity_c.proofs.writes.bits_of.Goals as goal

no_number : (x : Float) → is_nan x ≡ true → x ≡ nan
unfolding is_nan
no_number nan e = refl
no_number (inf s) e = absurd (true≢false (sym e))
no_number (fin s m k) e = absurd (true≢false (sym e))

nan-bits : 0x7fc0_0000 ≡ to_bits binary32 nan
unfolding to_bits
nan-bits = refl

pub returns-then-is_nan : goal.returns-then-is_nan
returns-then-is_nan c = nan-bits ∙ ap (to_bits binary32) (sym (no_number c.args.value (sym c.is_nan.ensures.value ∙ c.if-is_nan.true)))
