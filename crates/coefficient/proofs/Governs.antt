-- What the flag tells of a term and its cap, and of the coefficient: the laws of specs/Governs.antt, for all numbers. Assumes nothing.
use mathlib.Core.Path.{◌≡◌, refl, sym, ap, ◌∙◌, subst}
use mathlib.Core.Bool.{Bool, true, false, ◌||◌, true≢false}
use mathlib.Core.Logic.{◌⊎◌, inl, inr}
use Prim.Native.Nat.{ℕ, ◌*◌}
use native.Mathlib.Omega.{arith}
use native.Mathlib.Decide.{ℕ_discrete}
use native.Mathlib.Nat.{mul-le-mul_left, lt_of_mul-lt-mul_right}
use borrow.Author.Tests.{ltb-true, ltb-false, lt-ltb, le-ltb, eq-eqb, ne_eqb}
use Rattle.exact.specs.Fraction.{Fraction, Proper, ratio, lt_f, smaller, ◌≤F◌, ◌<F◌}
use Rattle.exact.proofs.Multiply.{◌·◌}
use Rattle.coefficient.specs.Coefficient.{coefficient_of, cap_governs}
use Rattle.coefficient.specs.Governs.{SmallerTells, CoefficientTells}
use Rattle.coefficient.proofs.Bounds.{smaller_first, smaller_second, coefficient_zero, coefficient_else}

-- ---- a term and its cap

pub governs_below : (term cap : Fraction) → lt_f cap term ≡ true → cap <F term
governs_below term cap e = ltb-true (cap.num * term.den) (term.num * cap.den) e

pub below_governs : (term cap : Fraction) → cap <F term → lt_f cap term ≡ true
below_governs term cap h = lt-ltb (cap.num * term.den) (term.num * cap.den) h

pub not_below : (term cap : Fraction) → term ≤F cap → lt_f cap term ≡ false
not_below term cap h = le-ltb (cap.num * term.den) (term.num * cap.den) h

pub governed_value : (term cap : Fraction) → lt_f cap term ≡ true → smaller term cap ≡ cap
governed_value term cap e = smaller_second term cap (governs_below term cap e)

pub free_value : (term cap : Fraction) → lt_f cap term ≡ false → smaller term cap ≡ term
free_value term cap e = smaller_first term cap (ltb-false (cap.num * term.den) (term.num * cap.den) e)

-- what is below a fraction is below a greater one
below_greater : (cap term other : Fraction) → Proper other → cap <F term → term ≤F other → cap <F other
below_greater cap term other p h l =
    lt_of_mul-lt-mul_right term.den (omega (arith, h · other.den, l · cap.den))

pub ruleset comparing = (smaller_first, smaller_second, below_governs, not_below)

pub smaller_tells : (term cap : Fraction) → SmallerTells term cap
smaller_tells term cap =
    record {
      strictly = (governs_below term cap, below_governs term cap);
      equal = λ h. not_below term cap (omega (arith, h));
      set = governed_value term cap;
      greater = λ e other p l.
          let t = below_governs other cap (below_greater cap term other p (governs_below term cap e) l) in
          (governed_value other cap t ∙ sym (governed_value term cap e), t);
      clear = free_value term cap;
    }

-- ---- the coefficient

pub zero_value : (g R E q : ℕ) → E ≡ 0 → coefficient_of g R E q ≡ ratio q 100
zero_value g R E q h = rw h (coefficient_zero g R q)

pub zero_governs : (g R E q : ℕ) → E ≡ 0 → cap_governs g R E q ≡ true
unfolding cap_governs
zero_governs g R E q h = ap (λ (t : Bool). t || lt_f (ratio q 100) (ratio (g * R) (100 * E))) (eq-eqb E 0 h)

pub else_governs : (g R E q : ℕ) → (E ≡ 0 → ⊥) → cap_governs g R E q ≡ lt_f (ratio q 100) (ratio (g * R) (100 * E))
unfolding cap_governs
else_governs g R E q h = ap (λ (t : Bool). t || lt_f (ratio q 100) (ratio (g * R) (100 * E))) (ne_eqb E 0 h)

pub ruleset by_seismic = (zero_value, zero_governs, coefficient_else, else_governs)

module _ (g R E q : ℕ) where
  abbrev term : Fraction
  term = ratio (g * R) (100 * E)

  abbrev cap : Fraction
  cap = ratio q 100

  -- where a flag set makes a the cap, a below the cap makes it clear
  clear_below : (cap_governs g R E q ≡ true → coefficient_of g R E q ≡ cap) → coefficient_of g R E q <F cap → cap_governs g R E q ≡ false
  clear_below set h = by (cap_governs g R E q) refl
    where
      by : (t : Bool) → cap_governs g R E q ≡ t → cap_governs g R E q ≡ false
      by true e = absurd (omega (arith, subst (λ (x : Fraction). x <F cap) (set e) h))
      by false e = e

  at_zero : E ≡ 0 → CoefficientTells g R E q
  at_zero z =
      record {
        strictly = (λ e. inl z, λ h. zero_governs g R E q z);
        equal = λ n. λ e. absurd (n z);
        set = λ e. zero_value g R E q z;
        greater = λ e other l. (zero_value g other E q z ∙ sym (zero_value g R E q z), zero_governs g other E q z);
        clear = λ e. absurd (true≢false (sym (zero_governs g R E q z) ∙ e));
        below = clear_below (λ e. zero_value g R E q z);
        neither = λ n. absurd (n z);
      }

  at_other : (E ≡ 0 → ⊥) → CoefficientTells g R E q
  at_other n =
      let t = smaller_tells term cap in
      let f = else_governs g R E q n in
      let v = coefficient_else g R E q n in
      record {
        strictly = (λ e. inr (t.strictly.0 (sym f ∙ e)), λ h. f ∙ t.strictly.1 (other h));
        equal = λ _ e. f ∙ t.equal e;
        set = λ e. v ∙ t.set (sym f ∙ e);
        greater = λ e other l.
            let k = t.greater (sym f ∙ e) (ratio (g * other) (100 * E)) (omega arith) (omega (arith, mul-le-mul_left g l · (100 * E))) in
            (coefficient_else g other E q n ∙ k.0 ∙ sym v, else_governs g other E q n ∙ k.1);
        clear = λ e. v ∙ t.clear (sym f ∙ e);
        below = clear_below (λ e. v ∙ t.set (sym f ∙ e));
        neither = λ _ e h. omega (arith, e, subst (λ (x : Fraction). x <F cap) (v ∙ t.clear (t.equal e)) h);
      }
    where
      other : (E ≡ 0) ⊎ (cap <F term) → cap <F term
      other (inl z) = absurd (n z)
      other (inr h) = h

pub coefficient_tells : (g R E q : ℕ) → CoefficientTells g R E q
coefficient_tells g R E q = by (ℕ_discrete E 0)
  where
    by : Dec (E ≡ 0) → CoefficientTells g R E q
    by (yes z) = at_zero g R E q z
    by (no n) = at_other g R E q n
