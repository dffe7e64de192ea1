-- The bits of a verdict, a sum of flags: a bit is clear exactly when its flag is not raised, so the claims of a row hold where
-- each flag is raised exactly when a check of its bit fails. Assumes nothing.
use mathlib.Core.Path.{◌≡◌, refl, ap, ◌∙◌, subst}
use mathlib.Core.Bool.{Bool, true, false, not, ◌||◌, ◌&&◌}
use mathlib.Core.Logic.{◌↔◌, ◌⊎◌, inl, inr}
use mathlib.Core.List.{List, [], ◌∷◌}
use Prim.Native.Nat.{ℕ, ◌+◌, ◌*◌, ◌/◌, ◌%◌, ◌≤◌, ◌<◌}
use native.Mathlib.Omega.{arith}
use native.Mathlib.Nat.{mul-add-div, div-eq_of_lt}
use lib.Dec.{T, ltb, eqb}
use borrow.Author.Tests.{ltb-false, le-ltb, eqb-false}
use lib.IntN.{ℤ, pos}
use lib.Signed.{lt_z}
use Rattle.exact.specs.SignedFraction.{whole_s, above, below, ◌≤S◌}
use Rattle.exact.proofs.Integers.{<ℤ_in, <ℤ_out}
use Rattle.claims.proofs.Orders.{≤_or}
use Rattle.claims.specs.Verdict.{flag}
use Rattle.claims.specs.Claims.{Check, Passes, Claims, AllDemands, AllChecks, AllPass, BitClear, BitHolds, Hold}

-- ---- one bit of a sum

flag_times : (b : ℕ) (t : Bool) → flag b t ≡ b * flag 1 t
flag_times b true = omega arith
flag_times b false = omega arith

-- (low + b·t + 2·b·high)/b is t + 2·high
digit : (b low high : ℕ) (t : Bool) → low < b → (low + flag b t + 2 * b * high) / b ≡ flag 1 t + 2 * high
digit b low high t h =
    let n = flag 1 t + 2 * high in
    let sum : low + flag b t + 2 * b * high ≡ b * n + low = omega (arith, flag_times b t) in
    let quotient : (b * n + low) / b ≡ n + low / b = mul-add-div (omega arith) n low in
    rw (sum, quotient, div-eq_of_lt h) (omega arith)

even : (t : Bool) (high : ℕ) → ((flag 1 t + 2 * high) % 2 ≡ 0) ↔ (t ≡ false)
even true high = (λ h. absurd (odd high h), λ h. absurd (subst T h tt))
  where
    odd : (high : ℕ) → (1 + 2 * high) % 2 ≡ 0 → ⊥
    odd high h = omega arith
even false high = (λ h. refl, λ h. omega arith)

-- a verdict's bit b is clear exactly when its flag is not raised; low are the flags below b, high those above
clear : (b low high : ℕ) (t : Bool) → low < b → BitClear b (pos (low + flag b t + 2 * b * high)) ↔ (t ≡ false)
clear b low high t h = rw (digit b low high t h) (even t high)

bit_holds : (c : Claims) (b low high : ℕ) (t : Bool) → low < b → c.verdict ≡ pos (low + flag b t + 2 * b * high) →
    ((t ≡ false) ↔ AllPass b c.checks) → BitHolds b c
bit_holds c b low high t h e k =
    let l = clear b low high t h in
    rw e (λ z. k.0 (l.0 z), λ z. l.1 (k.1 z))

-- ---- a verdict with each bit of 01

pub record Failed : Type 0 where
  pub bit1 : Bool
  pub bit2 : Bool
  pub bit4 : Bool
  pub bit8 : Bool
  pub bit16 : Bool
  pub bit32 : Bool
  pub bit64 : Bool
  pub bit128 : Bool

-- the flags in the order of their bits
abbrev pub flags : (b1 b2 b4 b8 b16 b32 b64 b128 : Bool) → Failed
flags b1 b2 b4 b8 b16 b32 b64 b128 =
    record { bit1 = b1; bit2 = b2; bit4 = b4; bit8 = b8; bit16 = b16; bit32 = b32; bit64 = b64; bit128 = b128 }

abbrev pub verdict_of : Failed → ℕ
verdict_of f = flag 1 f.bit1 + flag 2 f.bit2 + flag 4 f.bit4 + flag 8 f.bit8 + flag 16 f.bit16 + flag 32 f.bit32 + flag 64 f.bit64 + flag 128 f.bit128

pub flag_le : (b : ℕ) (t : Bool) → flag b t ≤ b
flag_le b true = omega arith
flag_le b false = omega arith

-- The claims of a row hold where its verdict is the sum of its flags, its demands and its checks hold, and each flag is raised
-- exactly when a check of its bit fails. Bits 16, 64 and 128 are no checks.
pub holds : (c : Claims) (f : Failed) → c.verdict ≡ pos (verdict_of f) → AllDemands c.demands → AllChecks c.checks →
    ((f.bit1 ≡ false) ↔ AllPass 1 c.checks) → ((f.bit2 ≡ false) ↔ AllPass 2 c.checks) → ((f.bit4 ≡ false) ↔ AllPass 4 c.checks) →
    ((f.bit8 ≡ false) ↔ AllPass 8 c.checks) → ((f.bit32 ≡ false) ↔ AllPass 32 c.checks) → Hold c
holds c f e demands checks p1 p2 p4 p8 p32 =
    let d2 = flag 1 f.bit2 in
    let d4 = flag 1 f.bit4 in
    let d8 = flag 1 f.bit8 in
    let d16 = flag 1 f.bit16 in
    let d32 = flag 1 f.bit32 in
    let d64 = flag 1 f.bit64 in
    let d128 = flag 1 f.bit128 in
    let e2 = flag_times 2 f.bit2 in
    let e4 = flag_times 4 f.bit4 in
    let e8 = flag_times 8 f.bit8 in
    let e16 = flag_times 16 f.bit16 in
    let e32 = flag_times 32 f.bit32 in
    let e64 = flag_times 64 f.bit64 in
    let e128 = flag_times 128 f.bit128 in
    let low2 = flag 1 f.bit1 in
    let low4 = low2 + flag 2 f.bit2 in
    let low8 = low4 + flag 4 f.bit4 in
    let low32 = low8 + flag 8 f.bit8 + flag 16 f.bit16 in
    let l2 : low2 < 2 = omega (arith, flag_le 1 f.bit1) in
    let l4 : low4 < 4 = omega (arith, flag_le 2 f.bit2) in
    let l8 : low8 < 8 = omega (arith, flag_le 4 f.bit4) in
    let l32 : low32 < 32 = omega (arith, flag_le 8 f.bit8, flag_le 16 f.bit16) in
    record {
      demands = demands;
      checks = checks;
      bit1 = bit_holds c 1 0 (d2 + 2 * d4 + 4 * d8 + 8 * d16 + 16 * d32 + 32 * d64 + 64 * d128) f.bit1 (omega arith) (e ∙ ap pos (omega arith)) p1;
      bit2 = bit_holds c 2 low2 (d4 + 2 * d8 + 4 * d16 + 8 * d32 + 16 * d64 + 32 * d128) f.bit2 l2 (e ∙ ap pos (omega arith)) p2;
      bit4 = bit_holds c 4 low4 (d8 + 2 * d16 + 4 * d32 + 8 * d64 + 16 * d128) f.bit4 l4 (e ∙ ap pos (omega arith)) p4;
      bit8 = bit_holds c 8 low8 (d16 + 2 * d32 + 4 * d64 + 8 * d128) f.bit8 l8 (e ∙ ap pos (omega arith)) p8;
      bit32 = bit_holds c 32 low32 (d64 + 2 * d128) f.bit32 l32 (e ∙ ap pos (omega arith)) p32;
    }

-- ---- when all checks of a bit pass

-- no check of the list has the bit
abbrev pub without : ℕ → List Check → Bool
without b [] = true
without b (c ∷ cs) = not (eqb c.bit b) && without b cs

without_pass : (b : ℕ) (cs : List Check) → T (without b cs) → AllPass b cs
without_pass b [] h = tt
without_pass b (c ∷ cs) h = by (eqb c.bit b) refl h (λ k. without_pass b cs k)
  where
    by : (t : Bool) → eqb c.bit b ≡ t → T (not t && without b cs) → (T (without b cs) → AllPass b cs) → AllPass b (c ∷ cs)
    by true e h rest = absurd h
    by false e h rest = (λ k. absurd (eqb-false c.bit b e k), rest h)

pub none_raised : (b : ℕ) (cs : List Check) → T (without b cs) → (false ≡ false) ↔ AllPass b cs
none_raised b cs h = (λ z. without_pass b cs h, λ z. refl)

-- one check of the bit, and two, before others that are not
pub one_raised : (b : ℕ) (c : Check) (cs : List Check) (t : Bool) → c.bit ≡ b → T (without b cs) → ((t ≡ false) ↔ Passes c) → (t ≡ false) ↔ AllPass b (c ∷ cs)
one_raised b c cs t e n k = (λ z. (λ u. k.0 z, without_pass b cs n), λ z. k.1 (z.0 e))

pub two_raised : (b : ℕ) (c d : Check) (cs : List Check) (t : Bool) → c.bit ≡ b → d.bit ≡ b → T (without b cs) → ((t ≡ false) ↔ (Passes c × Passes d)) →
    (t ≡ false) ↔ AllPass b (c ∷ d ∷ cs)
two_raised b c d cs t e f n k = (λ z. (λ u. (k.0 z).0, (λ u. (k.0 z).1, without_pass b cs n)), λ z. k.1 (z.0 e, z.1.0 f))

-- a check of another bit changes nothing
pub other_raised : (b : ℕ) (c : Check) (cs : List Check) (t : Bool) → (c.bit ≡ b → ⊥) → ((t ≡ false) ↔ AllPass b cs) → (t ≡ false) ↔ AllPass b (c ∷ cs)
other_raised b c cs t n k = (λ z. (λ e. absurd (n e), k.0 z), λ z. k.1 z.1)

-- ---- the tests of a flag

-- neither of two tests is met
pub neither : {P Q : Type 0} (t u : Bool) → ((t ≡ false) ↔ P) → ((u ≡ false) ↔ Q) → ((t || u) ≡ false) ↔ (P × Q)
neither true u p q = (λ z. absurd (subst T z tt), λ z. absurd (subst T (p.1 z.0) tt))
neither false u p q = (λ z. (p.0 refl, q.0 z), λ z. q.1 z.1)

pub at_most : (m n : ℕ) → (ltb m n ≡ false) ↔ (n ≤ m)
at_most m n = (λ e. ltb-false m n e, λ h. le-ltb m n h)

is_false : (t : Bool) → (T t → ⊥) → t ≡ false
is_false true h = absurd (h tt)
is_false false h = refl

-- a whole number is at most another exactly when that is not below it
pub not_below : (x y : ℤ) → (lt_z x y ≡ false) ↔ (whole_s y ≤S whole_s x)
not_below x y = (λ e. out e, λ h. is_false (lt_z x y) (λ t. in' h t))
  where
    in' : whole_s y ≤S whole_s x → T (lt_z x y) → ⊥
    in' h t = omega (arith, <ℤ_out {x = x} {y = y} (record { lt = t }))

    out : lt_z x y ≡ false → whole_s y ≤S whole_s x
    out e = by (≤_or (above y + below x) (above x + below y))
      where
        by : (above y + below x ≤ above x + below y) ⊎ (above x + below y < above y + below x) → whole_s y ≤S whole_s x
        by (inl h) = omega arith
        by (inr h) = absurd (subst T e (<ℤ_in x y h).lt)

pub not_below_ℕ : (m n : ℕ) → (ltb m n ≡ false) ↔ (whole_s (pos n) ≤S whole_s (pos m))
not_below_ℕ m n = (λ e. omega (arith, ltb-false m n e), λ h. le-ltb m n (omega arith))
