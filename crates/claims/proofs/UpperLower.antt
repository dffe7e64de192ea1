-- The claims of a row with an upper and a lower value against one strength, from those of its two checks; and the two checks of signed
-- fractions, the upper rounded up and the lower down. Assumes nothing.
use mathlib.Core.Path.{◌≡◌, refl, ap}
use mathlib.Core.Bool.{Bool, false, ◌||◌}
use mathlib.Core.Logic.{◌↔◌}
use mathlib.Core.List.{List, [], ◌∷◌}
use Prim.Native.Nat.{ℕ}
use native.Mathlib.Omega.{arith}
use lib.IntN.{ℤ, pos, neg_ℤ}
use lib.Signed.{lt_z}
use Rattle.exact.specs.Fraction.{Fraction, whole}
use Rattle.exact.specs.SignedFraction.{SignedFraction, ProperS, neg_s, up_s, down_s}
use Rattle.claims.specs.Exact.{value}
use Rattle.claims.specs.Verdict.{flag}
use Rattle.claims.specs.Claims.{Check, CheckHolds, Claims, Hold, AllPass, plain, operand, check}
use Rattle.claims.proofs.Bits.{flags, holds, none_raised, two_raised, neither, not_below}
use Rattle.claims.proofs.Checks.{check_holds}
use Rattle.claims.proofs.Rounded.{up_s_not_below, up_s_excess, down_s_not_below, down_s_excess, operand_strength}

-- the check of an upper value, of exact value x, and of minus a lower one, of exact value y
abbrev pub upper_check : ℕ → ℤ → SignedFraction → Fraction → ℕ → Check
upper_check bit upper x amount s = check bit (plain upper (value x) amount) (operand (pos s) s)

abbrev pub lower_check : ℕ → ℤ → SignedFraction → Fraction → ℕ → Check
lower_check bit lower y amount s = check bit (plain (neg_ℤ lower) (value (neg_s y)) amount) (operand (pos s) s)

-- one of the two exceeds the strength
abbrev pub exceeds : ℤ → ℤ → ℕ → Bool
exceeds upper lower s = lt_z (pos s) upper || lt_z (pos s) (neg_ℤ lower)

module _ (upper lower : ℤ) (x y : SignedFraction) (amount : Fraction) (s : ℕ) where
  abbrev pair : ℕ → List Check
  pair bit = upper_check bit upper x amount s ∷ lower_check bit lower y amount s ∷ []

  abbrev claimed : ℕ → Claims
  claimed bit = record { demands = []; checks = pair bit; verdict = pos (flag bit (exceeds upper lower s)) }

  raised : (bit : ℕ) → (exceeds upper lower s ≡ false) ↔ AllPass bit (pair bit)
  raised bit =
      two_raised bit (upper_check bit upper x amount s) (lower_check bit lower y amount s) [] (exceeds upper lower s) refl refl tt
      (neither (lt_z (pos s) upper) (lt_z (pos s) (neg_ℤ lower)) (not_below (pos s) upper) (not_below (pos s) (neg_ℤ lower)))

  -- shears, under bit 1
  pub shears_hold : CheckHolds (upper_check 1 upper x amount s) → CheckHolds (lower_check 1 lower y amount s) → Hold (claimed 1)
  shears_hold h k =
      holds (claimed 1) (flags (exceeds upper lower s) false false false false false false false) (ap pos (omega arith)) tt (h, (k, tt))
      (raised 1) (none_raised 2 (pair 1) tt) (none_raised 4 (pair 1) tt) (none_raised 8 (pair 1) tt) (none_raised 32 (pair 1) tt)

  -- moments, under bit 2
  pub moments_hold : CheckHolds (upper_check 2 upper x amount s) → CheckHolds (lower_check 2 lower y amount s) → Hold (claimed 2)
  moments_hold h k =
      holds (claimed 2) (flags false (exceeds upper lower s) false false false false false false) (ap pos (omega arith)) tt (h, (k, tt))
      (none_raised 1 (pair 2) tt) (raised 2) (none_raised 4 (pair 2) tt) (none_raised 8 (pair 2) tt) (none_raised 32 (pair 2) tt)

-- a signed fraction rounded up, and minus one rounded down, against a strength
pub upper_check_lem : (bit : ℕ) (x : SignedFraction) (s : ℕ) → ProperS x → CheckHolds (upper_check bit (up_s x) x (whole 1) s)
upper_check_lem bit x s p =
    check_holds (upper_check bit (up_s x) x (whole 1) s) p (omega arith) (up_s_not_below x p) (λ g. up_s_excess x p) (operand_strength (pos s)) (λ k. tt)

pub lower_check_lem : (bit : ℕ) (x : SignedFraction) (s : ℕ) → ProperS x → CheckHolds (lower_check bit (down_s x) x (whole 1) s)
lower_check_lem bit x s p =
    check_holds (lower_check bit (down_s x) x (whole 1) s) p (omega arith) (down_s_not_below x p) (λ g. down_s_excess x p) (operand_strength (pos s)) (λ k. tt)
