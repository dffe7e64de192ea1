-- The rows of a footing. 01, "Soil and footing" and "Rows and verdict bits".
use Rattle.std.specs.Prelude.{Bool, ◌&&◌, ◌||◌, not, cond, ℕ, ◌+◌, ◌-◌, ◌*◌, ◌≤◌, min, ltb, ℤ, pos, nat_abs}
use Rattle.std.specs.Int.Signed.{le_z}
use Rattle.exact.specs.Quotient.{up, down}
use Rattle.exact.specs.Fraction.{Fraction, up_f}
use Rattle.exact.specs.SignedFraction.{size, down_s}
use Rattle.soil.specs.declared.Soil.{Soil}
use Rattle.soil.specs.declared.Soil.TheVariants.{Granular, Cohesive}
use Rattle.soil.specs.Taken.{tangent_of, cohesion_of}
use Rattle.coefficient.specs.declared.Settings.{Settings}
use Rattle.claims.specs.declared.Row.{Row}
use Rattle.claims.specs.Verdict.{flag}
use Rattle.actions.specs.declared.Sign.{Sign}
use Rattle.footing.specs.declared.Footing.{Footing}
use Rattle.footing.specs.Flags.{both_flags, counted_thrust}
use Rattle.footing.specs.Actions.{footing_coefficient, normal, moment_b, moment_l, horizontal}

-- ex = 1000·X/N up, likewise ey
abbrev pub eccentricity : ℕ → ℕ → ℕ
eccentricity x n = up (1000 * x) n

-- A = (B − 2ex)·(L − 2ey), 0 when a factor is not positive
abbrev pub effective_area : Footing → ℕ → ℕ → ℕ
effective_area f ex ey = (f.breadth - 2 * ex) * (f.length - 2 * ey)

-- cohesive, smaller of A·s/10⁶ down and 2·N/5 down; granular, larger of 0 and (N − U)·t/10000 down
unfoldable pub base_resistance : Soil → ℕ → ℕ → ℕ → ℕ
base_resistance (Granular x) area n uplift = down ((n - uplift) * tangent_of x) 10000
base_resistance (Cohesive x) area n uplift = min (down (area * cohesion_of x) 1000000) (down (2 * n) 5)

-- R is that plus 2·P/5 down, of the P that counts (02, No. 6)
abbrev pub sliding_resistance : Footing → Soil → ℕ → ℕ → ℕ → ℕ
sliding_resistance f soil ex ey n = base_resistance soil (effective_area f ex ey) n f.uplift + down (2 * counted_thrust f) 5

-- the exception of bit 4, as far as flags, q and a go: both flags set, q > 100, a < q/100
abbrev pub exception : ℕ → Footing → Fraction → Bool
exception q f a = both_flags f && ltb 100 q && ltb (a.num * 100) (q * a.den)

-- n·e exceeds the side, for one of the two
abbrev pub outside : ℕ → Footing → ℕ → ℕ → Bool
outside n f ex ey = ltb f.breadth (n * ex) || ltb f.length (n * ey)

-- bit 4: sensitive soil with 4ex > B or 4ey > L; other soil with 3ex > B or 3ey > L, unless the exception holds, 2ex < B and 2ey < L
abbrev pub eccentric : ℕ → Footing → Fraction → Bool → ℕ → ℕ → Bool
eccentric q f a sensitive ex ey =
    cond sensitive (outside 4 f ex ey) (outside 3 f ex ey && not (exception q f a && ltb (2 * ex) f.breadth && ltb (2 * ey) f.length))

-- with N below 20,000: ex, ey, R are 0, H stands, bit 16
abbrev pub light_row : ℤ → ℕ → Row
light_row n h = record { word2 = n; word3 = pos 0; word4 = pos 0; word5 = pos h; word6 = pos 0; verdict = pos 16 }

-- words: N, ex, ey, H, R; bits 4 and 8 (H > R)
abbrev pub heavy_row : Settings → Footing → Soil → Bool → ℕ → ℕ → ℕ → ℕ → Row
heavy_row s f soil sensitive n ex ey h =
    let r = sliding_resistance f soil ex ey n in
    record {
      word2 = pos n;
      word3 = pos ex;
      word4 = pos ey;
      word5 = pos h;
      word6 = pos r;
      verdict = pos (flag 4 (eccentric s.behaviour f (footing_coefficient s f) sensitive ex ey) + flag 8 (ltb r h));
    }

-- N down; X, Y, H the size, up
unfoldable pub footing_row : Settings → Footing → Soil → Bool → Sign → Row
footing_row s f soil sensitive sign =
    let n = down_s (normal s f sign) in
    let x = up_f (size (moment_b s f sign)) in
    let y = up_f (size (moment_l s f sign)) in
    let h = up_f (size (horizontal s f sign)) in
    cond (le_z (pos 20000) n) (heavy_row s f soil sensitive (nat_abs n) (eccentricity x (nat_abs n)) (eccentricity y (nat_abs n)) h) (light_row n h)

pub record FootingRange (s : Settings) (f : Footing) : Type 0 where
  pub behaviour : s.behaviour ≤ 400
  pub foundations : s.foundations ≤ 200
  pub breadth_least : 500 ≤ f.breadth
  pub breadth_greatest : f.breadth ≤ 20000
  pub length_least : 500 ≤ f.length
  pub length_greatest : f.length ≤ 20000
  pub resistance : f.resistance ≤ 100000000
  pub moment : f.moment ≤ 100000000
  pub nv : nat_abs f.nv ≤ 100000000
  pub ne : nat_abs f.ne ≤ 100000000
  pub xv : nat_abs f.xv ≤ 100000000
  pub xe : nat_abs f.xe ≤ 100000000
  pub yv : nat_abs f.yv ≤ 100000000
  pub ye : nat_abs f.ye ≤ 100000000
  pub hv : nat_abs f.hv ≤ 100000000
  pub he : nat_abs f.he ≤ 100000000
  pub uplift : f.uplift ≤ 100000000
  pub passive : f.passive ≤ 100000000
  pub flags : f.flags ≤ 7
