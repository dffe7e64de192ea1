-- Where the cap governs. 02, No. 5: "Designers want to know if a larger section would raise the shear or if the cap holds." What
-- the flag tells of a term and its cap, and of the coefficient. It has two halves: where it is set, the value is the cap and no
-- greater resistance changes it; where it is clear, the value is that of the resistances. Clear does not say that a greater
-- resistance raises the value.
use Rattle.std.specs.Prelude.{◌≡◌, true, false, ◌↔◌, ◌⊎◌, ℕ, ◌*◌, ◌≤◌}
use Rattle.exact.specs.Fraction.{Fraction, Proper, ratio, lt_f, smaller, ◌≤F◌, ◌<F◌, ◌≈F◌}
use Rattle.coefficient.specs.Coefficient.{coefficient_of, cap_governs}

-- of the smaller of a term and its cap
pub record SmallerTells (term cap : Fraction) : Type 0 where
  -- set exactly where the cap is strictly below the term, so clear where they are the same number
  pub strictly : (lt_f cap term ≡ true) ↔ (cap <F term)
  pub equal : term ≈F cap → lt_f cap term ≡ false
  -- set: the smaller is the cap; it is for every greater term, and there too the flag is set
  pub set : lt_f cap term ≡ true → smaller term cap ≡ cap
  pub greater : lt_f cap term ≡ true → (other : Fraction) → Proper other → term ≤F other → (smaller other cap ≡ smaller term cap) × (lt_f cap other ≡ true)
  -- clear: the smaller is the term
  pub clear : lt_f cap term ≡ false → smaller term cap ≡ term

-- of the coefficient
pub record CoefficientTells (g R E q : ℕ) : Type 0 where
  -- set exactly where q/100 is strictly below g·R/(100·E), or E is 0; so clear where E is not 0 and they are the same number
  pub strictly : (cap_governs g R E q ≡ true) ↔ ((E ≡ 0) ⊎ (ratio q 100 <F ratio (g * R) (100 * E)))
  pub equal : (E ≡ 0 → ⊥) → ratio (g * R) (100 * E) ≈F ratio q 100 → cap_governs g R E q ≡ false
  -- set: a is q/100; it is for every greater resistance, and there too the flag is set
  pub set : cap_governs g R E q ≡ true → coefficient_of g R E q ≡ ratio q 100
  pub greater : cap_governs g R E q ≡ true → (other : ℕ) → R ≤ other → (coefficient_of g other E q ≡ coefficient_of g R E q) × (cap_governs g other E q ≡ true)
  -- clear: a is that of the resistance
  pub clear : cap_governs g R E q ≡ false → coefficient_of g R E q ≡ ratio (g * R) (100 * E)
  -- a < q/100, as the exception of bit 4 asks, is not the negation: where it holds the flag is clear, but where both are the same
  -- number neither is so
  pub below : coefficient_of g R E q <F ratio q 100 → cap_governs g R E q ≡ false
  pub neither : (E ≡ 0 → ⊥) → ratio (g * R) (100 * E) ≈F ratio q 100 → ¬ (coefficient_of g R E q <F ratio q 100)
