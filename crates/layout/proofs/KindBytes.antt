-- A byte and its kind: a kind is found exactly for the bytes that are known, and for that of a block; and its byte is that one. Assumes
-- nothing.
use mathlib.Core.Bool.{true, false}
use mathlib.Core.Path.{◌≡◌, refl, sym, ap}
use Prim.Native.Nat.{ℕ, ◌<◌}
use lib.Dec.{eqb}
use Rattle.std.specs.Prelude.{Option, Some, None}
use Rattle.layout.specs.declared.Kind.{Kind}
use Rattle.layout.specs.declared.Kind.TheVariants.{Finish, Settings, Joint, Column, Beam, Hingeless, WallBase, Storey, Soil, Footing, Detail, Block, Basement, Building}
use Rattle.layout.specs.Layouts.{known, known_in, kind_of, byte_of_kind}
use Rattle.layout.proofs.KnownBytes.{up_to_13, above_13, known_above, block_unknown}

kind_above : (b : ℕ) → 13 < b → kind_of b ≡ None
unfolding kind_of
kind_above b h = simp (above_13 b h)

-- a kind found is this one
is_kind : (k l : Kind) → ◌≡◌ {A = Option Kind} (Some k) (Some l) → byte_of_kind l ≡ byte_of_kind k
is_kind k l e = let i : k ≡ l = cc in sym (ap byte_of_kind i)

pub byte_of_found : (b : ℕ) (k : Kind) → kind_of b ≡ Some k → byte_of_kind k ≡ b
unfolding kind_of
byte_of_found b k =
    up_to_13 (λ b. kind_of b ≡ Some k → byte_of_kind k ≡ b) (is_kind Finish k) (is_kind Settings k) (is_kind Joint k) (is_kind Column k) (is_kind Beam k)
    (is_kind Hingeless k) (is_kind WallBase k) (is_kind Storey k) (is_kind Soil k) (is_kind Footing k) (is_kind Detail k)
    (is_kind Block k) (is_kind Basement k) (is_kind Building k) (λ b h e. let n = kind_above b h in cc) b

-- a byte that is not a block's is known exactly where it has a kind
pub known_found : (b : ℕ) (k : Kind) → eqb b 11 ≡ false → kind_of b ≡ Some k → known b ≡ true
unfolding known known_in
known_found b k =
    up_to_13 (λ b. eqb b 11 ≡ false → kind_of b ≡ Some k → known b ≡ true) (λ o e. refl) (λ o e. refl) (λ o e. refl) (λ o e. refl) (λ o e. refl) (λ o e. refl) (λ o e. refl)
    (λ o e. refl) (λ o e. refl) (λ o e. refl) (λ o e. refl) (λ o e. sym o) (λ o e. refl) (λ o e. refl) (λ b h o e. let n = kind_above b h in cc) b

pub unknown : (b : ℕ) → kind_of b ≡ None → known b ≡ false
unfolding kind_of
unknown b =
    up_to_13 (λ b. kind_of b ≡ None → known b ≡ false) (λ e. cc) (λ e. cc) (λ e. cc) (λ e. cc) (λ e. cc) (λ e. cc) (λ e. cc) (λ e. cc) (λ e. cc) (λ e. cc) (λ e. cc)
    (λ e. block_unknown) (λ e. cc) (λ e. cc) (λ b h e. known_above b h) b
