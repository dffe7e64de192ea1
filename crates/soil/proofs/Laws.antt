-- What callers use of take-down: t is at most 20,000 and s at most 1,000,000; in range there is no refusal; and a soil that was read
-- takes down. Assumes nothing.
use mathlib.Core.Path.{◌≡◌, refl, sym, ap, ◌∙◌, subst}
use Rattle.std.specs.Prelude.{Option, Some, None, is_some}
use Rattle.std.specs.Option.{unwrap_or}
use mathlib.Core.Bool.{Bool, true, false, not, ◌&&◌, cond, true≢false}
use Prim.Native.Nat.{ℕ, ◌*◌, ◌≤◌, ◌<◌, zero-le}
use native.Mathlib.Omega.{arith}
use borrow.Author.Tests.{lt-leb, eqb-true, eqb-false, eq-eqb, ne_eqb}
use lib.Dec.{T, eqb, leb→le, lit≤}
use lib.Ieee.{Float, binary32, of_bits, nan_bits, le}
use lib.Ieee.Bits.{is_true}
use lib.Ieee.Fits.{and_l, and_r}
use Rattle.soil.specs.declared.Soil.{Soil}
use Rattle.soil.specs.declared.Soil.TheVariants.{Granular, Cohesive}
use Rattle.soil.specs.Value.{allowed, cut}
use Rattle.soil.specs.Kinds.{known, top_of, factor_of, value_allowed}
use Rattle.soil.specs.Answers.{Answer, accepted, refused, answer_of}
use Rattle.soil.specs.Taken.{taken, take_down, tangent_of, cohesion_of}
use Rattle.soil.specs.Reading.{soil_allowed, soil_holding, soil_of, kind_of, value_of}
use Rattle.soil.proofs.Values.{same_test, cut_le, le_is_allowed}
use Rattle.soil.proofs.Patterns.{over, allowed_pattern, sign_clear, no_nan, two, thousand, limits}

-- ---- one value

pub taken_in : (top factor : ℕ) (x : Float) → T (allowed top x) → taken top factor x ≡ accepted (cut factor x)
unfolding taken
taken_in top factor x t = ap (λ (b : Bool). cond b (accepted (cut factor x)) refused) (is_true (allowed top x) t)

pub taken_out : (top factor : ℕ) (x : Float) → allowed top x ≡ false → taken top factor x ≡ refused
unfolding taken
taken_out top factor x e = ap (λ (b : Bool). cond b (accepted (cut factor x)) refused) e

taken_le : (top factor : ℕ) (x : Float) → (taken top factor x).value ≤ top * factor
unfolding taken accepted refused
taken_le top factor x = go (allowed top x) (cut_le top factor x)
  where
    go : (b : Bool) → (T b → cut factor x ≤ top * factor) → (cond b (accepted (cut factor x)) refused).value ≤ top * factor
    go true h = h tt
    go false h = zero-le

-- 2.0 times 10,000
pub tangent_le : (x : Float) → tangent_of x ≤ 20000
unfolding tangent_of take_down
tangent_le x = taken_le 2 10000 x

-- 1000.0 times 1,000
pub cohesion_le : (x : Float) → cohesion_of x ≤ 1000000
unfolding cohesion_of take_down
cohesion_le x = taken_le 1000 1000 x

-- ---- in range or not

pub take_down_in : (kind : ℕ) (x : Float) → value_allowed kind x ≡ true → take_down kind x ≡ accepted (cut (factor_of kind) x)
unfolding value_allowed take_down
take_down_in kind x = go (known kind) (allowed (top_of kind) x)
  where
    go : (k a : Bool) → (k && a) ≡ true → cond k (cond a (accepted (cut (factor_of kind) x)) refused) refused ≡ accepted (cut (factor_of kind) x)
    go true true e = refl
    go true false e = absurd (true≢false (sym e))
    go false a e = absurd (true≢false (sym e))

pub take_down_out : (kind : ℕ) (x : Float) → value_allowed kind x ≡ false → take_down kind x ≡ refused
unfolding value_allowed take_down
take_down_out kind x = go (known kind) (allowed (top_of kind) x)
  where
    go : (k a : Bool) → (k && a) ≡ false → cond k (cond a (accepted (cut (factor_of kind) x)) refused) refused ≡ refused
    go true true e = absurd (true≢false e)
    go true false e = refl
    go false a e = refl

-- ---- by kind

pub take_down_granular : (kind : ℕ) (x : Float) → kind ≡ 0 → take_down kind x ≡ taken 2 10000 x
unfolding take_down
take_down_granular kind x e = rw e

pub take_down_cohesive : (kind : ℕ) (x : Float) → kind ≡ 1 → take_down kind x ≡ taken 1000 1000 x
unfolding take_down
take_down_cohesive kind x e = rw e

unknown : (kind : ℕ) → (kind ≡ 0 → ⊥) → (kind ≡ 1 → ⊥) → known kind ≡ false
unfolding known
unknown kind n m = lt-leb kind 1 (omega arith)

pub allowed_granular : (kind : ℕ) (x : Float) → kind ≡ 0 → value_allowed kind x ≡ allowed 2 x
unfolding value_allowed
allowed_granular kind x e = rw e

pub allowed_cohesive : (kind : ℕ) (x : Float) → kind ≡ 1 → value_allowed kind x ≡ allowed 1000 x
unfolding value_allowed
allowed_cohesive kind x e = rw e

pub allowed_other : (kind : ℕ) (x : Float) → (kind ≡ 0 → ⊥) → (kind ≡ 1 → ⊥) → value_allowed kind x ≡ false
unfolding value_allowed
allowed_other kind x n m = ap (λ (k : Bool). k && allowed (top_of kind) x) (unknown kind n m)

pub take_down_other : (kind : ℕ) (x : Float) → (kind ≡ 0 → ⊥) → (kind ≡ 1 → ⊥) → take_down kind x ≡ refused
take_down_other kind x n m = take_down_out kind x (allowed_other kind x n m)

pub ruleset by_kind = (take_down_granular, take_down_cohesive, take_down_other, limits)

-- ---- a pattern

top_le : (kind : ℕ) → top_of kind ≤ 1000
unfolding top_of
top_le kind = go (eqb kind 0)
  where
    go : (z : Bool) → cond z 2 1000 ≤ 1000
    go true = lit≤ tt
    go false = lit≤ tt

-- from 1024.0 on, an infinity, a NaN or a set sign bit among them
pub allowed_none : (kind b : ℕ) → 1149239296 ≤ b → value_allowed kind (of_bits binary32 b) ≡ false
unfolding value_allowed
allowed_none kind b h =
    let x = of_bits binary32 b in
    same_test (known kind && allowed (top_of kind) x) false
    (λ t. subst T (over (top_of kind) b (top_le kind) h) (and_r (known kind) (allowed (top_of kind) x) t))
    (λ t. absurd t)

pub allowed_no_nan : (kind b : ℕ) → soil_allowed kind b ≡ true → T (not (nan_bits binary32 b))
unfolding soil_allowed
allowed_no_nan kind b e =
    allowed_pattern (top_of kind) b (and_r (known kind) (allowed (top_of kind) (of_bits binary32 b)) (subst T (sym e) tt))

-- the soil of an allowed value
pub granular_read : (kind b : ℕ) → soil_allowed kind b ≡ true → kind ≡ 0 → soil_of kind b ≡ Some (Granular (of_bits binary32 b))
unfolding soil_of
granular_read kind b e k = rw (e, eq-eqb kind 0 k)

pub cohesive_read : (kind b : ℕ) → soil_allowed kind b ≡ true → (kind ≡ 0 → ⊥) → soil_of kind b ≡ Some (Cohesive (of_bits binary32 b))
unfolding soil_of
cohesive_read kind b e n = rw (e, ne_eqb kind 0 n)

-- ---- a pattern with the sign bit clear, by the machine's comparison with the limit of its kind

granular_test : (kind b : ℕ) → b < 2139095040 → kind ≡ 0 → le (of_bits binary32 b) (of_bits binary32 1073741824) ≡ soil_allowed kind b
unfolding soil_allowed
granular_test kind b h k =
    let x = of_bits binary32 b in
    le_is_allowed x (of_bits binary32 1073741824) 2 two (sign_clear b (omega arith)) ∙ sym (allowed_granular kind x k)

cohesive_test : (kind b : ℕ) → b < 2139095040 → kind ≡ 1 → le (of_bits binary32 b) (of_bits binary32 1148846080) ≡ soil_allowed kind b
unfolding soil_allowed
cohesive_test kind b h k =
    let x = of_bits binary32 b in
    le_is_allowed x (of_bits binary32 1148846080) 1000 thousand (sign_clear b (omega arith)) ∙ sym (allowed_cohesive kind x k)

-- the soil that is read
pub soil_granular : (kind b : ℕ) → b < 2139095040 → kind ≡ 0 → le (of_bits binary32 b) (of_bits binary32 1073741824) ≡ true →
    soil_of kind b ≡ Some (Granular (of_bits binary32 b))
soil_granular kind b h k t = granular_read kind b (sym (granular_test kind b h k) ∙ t) k

pub soil_cohesive : (kind b : ℕ) → b < 2139095040 → kind ≡ 1 → le (of_bits binary32 b) (of_bits binary32 1148846080) ≡ true →
    soil_of kind b ≡ Some (Cohesive (of_bits binary32 b))
soil_cohesive kind b h k t = cohesive_read kind b (sym (cohesive_test kind b h k) ∙ t) (omega arith)

-- no soil is
pub soil_none : (kind b : ℕ) → soil_allowed kind b ≡ false → soil_of kind b ≡ None
unfolding soil_of
soil_none kind b e = rw e

pub no_granular : (kind b : ℕ) → b < 2139095040 → kind ≡ 0 → le (of_bits binary32 b) (of_bits binary32 1073741824) ≡ false → soil_of kind b ≡ None
no_granular kind b h k f = soil_none kind b (sym (granular_test kind b h k) ∙ f)

pub no_cohesive : (kind b : ℕ) → b < 2139095040 → kind ≡ 1 → le (of_bits binary32 b) (of_bits binary32 1148846080) ≡ false → soil_of kind b ≡ None
no_cohesive kind b h k f = soil_none kind b (sym (cohesive_test kind b h k) ∙ f)

pub no_kind : (kind b : ℕ) → (kind ≡ 0 → ⊥) → (kind ≡ 1 → ⊥) → soil_of kind b ≡ None
unfolding soil_allowed
no_kind kind b n m = soil_none kind b (allowed_other kind (of_bits binary32 b) n m)

pub no_pattern : (kind b : ℕ) → 2139095040 ≤ b → soil_of kind b ≡ None
unfolding soil_allowed
no_pattern kind b h = soil_none kind b (allowed_none kind b (omega arith))

pub ruleset reading = (no_nan, soil_granular, soil_cohesive, no_granular, no_cohesive, no_kind, no_pattern)

-- a soil is read where the kind and the value are in range
pub some_soil : (kind b : ℕ) → is_some (soil_of kind b) ≡ soil_allowed kind b
unfolding soil_of
some_soil kind b = go (soil_allowed kind b)
  where
    go : (a : Bool) → is_some (cond a (Some (soil_holding kind (of_bits binary32 b))) None) ≡ a
    go true = refl
    go false = refl

-- the value of an answer, 0 in a refusal
pub value_or_0 : (o : Option ℕ) → unwrap_or o 0 ≡ (answer_of o).value
unfolding answer_of accepted refused
value_or_0 (Some v) = refl
value_or_0 None = refl

nothing_read : {s : Soil} → None ≡ Some s → ⊥
nothing_read h = let z : ◌≡◌ {A = ℕ} 0 1 = cc in omega arith

-- a soil that was read holds the kind and the value of its bits
pub read_holds : (kind b : ℕ) (s : Soil) → soil_of kind b ≡ Some s → (soil_allowed kind b ≡ true) × (s ≡ soil_holding kind (of_bits binary32 b))
unfolding soil_of
read_holds kind b s = go (soil_allowed kind b)
  where
    go : (a : Bool) → cond a (Some (soil_holding kind (of_bits binary32 b))) None ≡ Some s → (a ≡ true) × (s ≡ soil_holding kind (of_bits binary32 b))
    go true h = (refl, cc)
    go false h = absurd (nothing_read h)

pub read_kind : (kind b : ℕ) (s : Soil) → soil_of kind b ≡ Some s → kind_of s ≡ kind
unfolding soil_allowed soil_holding kind_of known
read_kind kind b s h =
    let held = read_holds kind b s h in
    let le = leb→le kind 1 (and_l (known kind) (allowed (top_of kind) (of_bits binary32 b)) (subst T (sym held.0) tt)) in
    ap kind_of held.1 ∙ go (eqb kind 0) refl le
  where
    go : (z : Bool) → eqb kind 0 ≡ z → kind ≤ 1 → kind_of (cond z (Granular (of_bits binary32 b)) (Cohesive (of_bits binary32 b))) ≡ kind
    go true e l = sym (eqb-true kind 0 e)
    go false e l = let n = eqb-false kind 0 e in omega arith

pub read_value : (kind b : ℕ) (s : Soil) → soil_of kind b ≡ Some s → value_of s ≡ of_bits binary32 b
unfolding soil_holding value_of
read_value kind b s h = ap value_of (read_holds kind b s h).1 ∙ go (eqb kind 0)
  where
    go : (z : Bool) → value_of (cond z (Granular (of_bits binary32 b)) (Cohesive (of_bits binary32 b))) ≡ of_bits binary32 b
    go true = refl
    go false = refl

-- the kind and the value of a soil that was read take down, with no refusal
pub read_takes_down : (kind b : ℕ) (s : Soil) → soil_of kind b ≡ Some s → (take_down (kind_of s) (value_of s)).number ≡ 0
unfolding accepted soil_allowed
read_takes_down kind b s h =
    rw (read_kind kind b s h, read_value kind b s h)
    (ap (λ (a : Answer). a.number) (take_down_in kind (of_bits binary32 b) (read_holds kind b s h).0))
