-- What a sum whole + num/den asks: a positive denominator, and that it and (whole·den + num) fit an i64.
use Rattle.std.specs.Prelude.{ℕ, ◌+◌, ◌*◌, ◌^◌, ◌<◌, ℤ, nat_abs}

pub record SumFits (whole num : ℤ) (den : ℕ) : Type 0 where
  pub positive : 0 < den
  pub den_fits : den < 2 ^ 63
  pub fits : nat_abs whole * den + nat_abs num < 2 ^ 63
