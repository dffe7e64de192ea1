-- Where the cap q governs the coefficient of a wall base. 02, No. 5: "Designers want to know if a larger section would raise the
-- shear or if the cap holds." A word of 1 says that no greater MR changes the base shear; a word of 0 says that the base shear is
-- that of MR, and not that a greater MR raises it.
use Rattle.std.specs.Prelude.{◌≡◌, ◌⊎◌, ℕ, ◌*◌, ◌≤◌, pos}
use Rattle.exact.specs.Fraction.{Fraction, ratio, whole, up_f, ◌*F◌, ◌<F◌, ◌≈F◌}
use Rattle.coefficient.specs.Governs.{CoefficientTells}
use Rattle.claims.specs.Told.{Tells}
use Rattle.walls.specs.declared.WallBase.{WallBase}
use Rattle.walls.specs.Base.{base_row}

-- the term of the resistance, 130·MR/(100·ME), and the cap, q/100
abbrev pub wall_term : WallBase → Fraction
wall_term b = ratio (130 * b.resistance) (100 * b.moment)

abbrev pub wall_cap : ℕ → Fraction
wall_cap q = ratio q 100

-- W, from a coefficient
abbrev pub shear_of : WallBase → Fraction → ℕ
shear_of b a = up_f (a *F whole b.shear)

-- the same ME and VE, and an MR at least as great; length, thickness and VR are any
pub record BaseNotWeaker (b d : WallBase) : Type 0 where
  pub moment : d.moment ≡ b.moment
  pub shear : d.shear ≡ b.shear
  pub resistance : b.resistance ≤ d.resistance

pub record BaseTells (q : ℕ) (b : WallBase) : Type 0 where
  -- word 6 is 1 exactly where ME is 0 or q/100 is strictly below 130·MR/(100·ME); then W is made with q/100, else with the other
  pub tells : Tells (base_row q b).word6 ((b.moment ≡ 0) ⊎ (wall_cap q <F wall_term b)) (base_row q b).word2 (pos (shear_of b (wall_cap q))) (pos (shear_of b (wall_term b)))
  -- where ME is not 0 and the two are the same number it is 0
  pub equal : (b.moment ≡ 0 → ⊥) → wall_term b ≈F wall_cap q → (base_row q b).word6 ≡ pos 0
  -- where it is 1, no greater MR changes W or the word
  pub held : (base_row q b).word6 ≡ pos 1 → (d : WallBase) → BaseNotWeaker b d → ((base_row q d).word2 ≡ (base_row q b).word2) × ((base_row q d).word6 ≡ pos 1)
  -- the same of the coefficient itself, `wall_coefficient`
  pub exact : CoefficientTells 130 b.resistance b.moment q
