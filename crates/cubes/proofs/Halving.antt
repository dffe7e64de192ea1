-- The search by halving: the least k lies from `low` to `low + length`, and each turn takes half of the length away.
-- Assumes nothing.
use mathlib.Core.Path.{◌≡◌}
use mathlib.Core.Logic.{◌⊎◌, ⊎_elim}
use Prim.Native.Nat.{ℕ, ◌+◌, ◌-◌, ◌*◌, ◌/◌, ◌^◌, ◌≤◌, ◌<◌}
use native.Mathlib.Omega.{arith}
use Rattle.cubes.specs.Cube.{cube}
use Rattle.cubes.specs.Root.{Least, least_root}
use Rattle.cubes.proofs.Roots.{Short, short_to, cube_mono, least_is}

-- no number below `low` is enough, and `low + length` is; `rest` is what a turn leaves of the length, at least half of it
pub record Bracket (j j0 low length rest : ℕ) : Type 0 where
  pub top : low + length ≤ 1000
  pub less : rest ≤ length - 1
  pub half : length ≤ 2 * rest + 1
  pub short : Short j j0 low
  pub enough : 10 ^ 9 * j ≤ cube (low + length) * j0

-- the whole table
pub start : {j j0 : ℕ} → j ≤ j0 → Bracket j j0 0 1000 511
start h = record { top = omega arith; less = omega arith; half = omega arith; short = λ i l. omega arith; enough = omega arith }

-- the number that a turn tries: the last of those that it can take away
abbrev pub tried : ℕ → ℕ → ℕ → ℕ
tried low length rest = low + (length - rest) - 1

-- it is not enough: the low end moves behind it
pub raise : (j j0 low length rest added : ℕ) → Bracket j j0 low length rest → 0 < length → cube (tried low length rest) * j0 < 10 ^ 9 * j → added ≡ length - rest →
    Bracket j j0 (low + added) rest (rest / 2)
raise j j0 low length rest added b p h e =
    let l = b.less in
    let same : low + added + rest ≡ low + length = omega arith in
    record {
      top = omega (arith, b.top);
      less = omega arith;
      half = omega arith;
      short = λ i m. short_to j j0 (tried low length rest) h i (omega arith);
      enough = rw same b.enough;
    }

-- it is enough: the low end stays
pub keep : (j j0 low length rest added : ℕ) → Bracket j j0 low length rest → 0 < length → 10 ^ 9 * j ≤ cube (tried low length rest) * j0 → added ≡ 0 →
    Bracket j j0 (low + added) rest (rest / 2)
keep j j0 low length rest added b p h e =
    let l = b.less in
    let half = b.half in
    record {
      top = omega (arith, b.top);
      less = omega arith;
      half = omega arith;
      short = λ i m. b.short i (omega arith);
      enough = omega (arith, h, cube_mono {i = tried low length rest} {k = low + added + rest} j0 (omega arith));
    }

-- nothing of the length is left
pub met : {j j0 low length rest : ℕ} → Bracket j j0 low length rest → length ≤ 0 → Least j j0 low
met {low = low} {length} b h =
    let e : low + length ≡ low = omega arith in record { within = omega (arith, b.top); enough = rw e at b.enough; least = b.short }

-- a turn adds the step, or nothing
pub turn : {j j0 low length rest added : ℕ} → Bracket j j0 low length rest → 0 < length →
    ((cube (tried low length rest) * j0 < 10 ^ 9 * j) × (added ≡ length - rest)) ⊎ ((10 ^ 9 * j ≤ cube (tried low length rest) * j0) × (added ≡ 0)) →
    Bracket j j0 (low + added) rest (rest / 2)
turn {j} {j0} {low} {length} {rest} {added} b p s =
    ⊎_elim (λ w. raise j j0 low length rest added b p w.0 w.1) (λ w. keep j j0 low length rest added b p w.0 w.1) s

-- then `low` is the root
pub found : {j j0 low length rest : ℕ} → Bracket j j0 low length rest → length ≤ 0 → low ≡ least_root j j0
found b h = least_is (met b h)
