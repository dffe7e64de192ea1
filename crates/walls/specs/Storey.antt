-- Storey of a wall (B.5, B.6). 01, "Members": a of its base. k is the least whole number with k³·J0 ≥ 10⁹·J. Shear: larger of
-- a·VE up and k·W/3000 up. Moment: larger of a·ME up and k·MR/3000 up, at most MR. The exact value has the unrounded base
-- shear and the cube root c of J/J0 for k/1000.
use Rattle.std.specs.Prelude.{[], ◌∷◌, ℕ, ◌+◌, ◌*◌, ◌≤◌, max, ltb, pos}
use Rattle.exact.specs.Quotient.{up}
use Rattle.exact.specs.Fraction.{Fraction, whole, ratio, up_f, ◌+F◌, ◌*F◌, ◌/F◌}
use Rattle.exact.specs.SignedFraction.{signed, whole_s}
use Rattle.cubes.specs.Root.{least_root}
use Rattle.claims.specs.declared.Row.{Row}
use Rattle.claims.specs.Verdict.{flag}
use Rattle.claims.specs.Exact.{Exact, value, root_third, larger_of, smaller_of}
use Rattle.claims.specs.Claims.{Claims, plain, operand, check}
use Rattle.walls.specs.declared.WallBase.{WallBase}
use Rattle.walls.specs.declared.Storey.{Storey}
use Rattle.walls.specs.Base.{wall_coefficient, base_shear, exact_base_shear, design_moment}

-- the shear of a storey from a, k, its VE and the W of its base
abbrev pub design_shear : Fraction → ℕ → ℕ → ℕ → ℕ
design_shear a k shear base = max (up_f (a *F whole shear)) (up (k * base) 3000)

-- The row from a, W and MR of the base. `moment` is ME, `shear` VE, `inertia` J, `base_inertia` J0, `strength` VR, `resistance` MS.
-- words: V, VR, moment, MS, k; bit 1 where V exceeds VR, bit 2 where the moment exceeds MS
unfoldable pub storey_row_from : Fraction → ℕ → ℕ → Storey → Row
storey_row_from a base resistance s =
    let k = least_root s.inertia s.base_inertia in
    let v = design_shear a k s.shear base in
    let m = design_moment a k s.moment resistance in
    record {
      word2 = pos v;
      word3 = pos s.strength;
      word4 = pos m;
      word5 = pos s.resistance;
      word6 = pos k;
      verdict = pos (flag 1 (ltb s.strength v) + flag 2 (ltb s.resistance m));
    }

-- the row of a storey of the wall with this base
unfoldable pub storey_row : ℕ → WallBase → Storey → Row
unfolding storey_row_from
storey_row q b s = storey_row_from (wall_coefficient q b) (base_shear q b) b.resistance s

-- larger of a·VE and c·w/3
abbrev pub exact_storey_shear : ℕ → WallBase → Storey → Exact
exact_storey_shear q b s = larger_of (value (signed (wall_coefficient q b *F whole s.shear))) (root_third s.inertia s.base_inertia (exact_base_shear q b))

-- larger of a·ME and c·MR/3, at most MR
abbrev pub exact_storey_moment : ℕ → WallBase → Storey → Exact
exact_storey_moment q b s =
    smaller_of
    (larger_of (value (signed (wall_coefficient q b *F whole s.moment))) (root_third s.inertia s.base_inertia (whole b.resistance)))
    (value (whole_s (pos b.resistance)))

-- the amounts: w/3000 + 2 and MR/3000 + 1
abbrev pub shear_amount : ℕ → WallBase → Fraction
shear_amount q b = exact_base_shear q b /F 3000 +F whole 2

abbrev pub moment_amount : WallBase → Fraction
moment_amount b = ratio b.resistance 3000 +F whole 1

-- two checks: V against VR under bit 1, the moment against MS under bit 2
unfoldable pub storey_claims : ℕ → WallBase → Storey → Row → Claims
storey_claims q b s r =
    record {
      demands = [];
      checks =
          check 1 (plain r.word2 (exact_storey_shear q b s) (shear_amount q b)) (operand r.word3 s.strength)
          ∷ check 2 (plain r.word4 (exact_storey_moment q b s) (moment_amount b)) (operand r.word5 s.resistance)
          ∷ [];
      verdict = r.verdict;
    }

pub record StoreyRange (s : Storey) : Type 0 where
  pub moment : s.moment ≤ 100000000
  pub shear : s.shear ≤ 100000000
  pub inertia_least : 1 ≤ s.inertia
  pub inertia_greatest : s.inertia ≤ s.base_inertia
  pub strength : s.strength ≤ 100000000
  pub resistance : s.resistance ≤ 100000000
