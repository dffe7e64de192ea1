-- The two forms of a footing row, by its N. Assumes nothing.
use mathlib.Core.Path.{◌≡◌, refl, sym, subst}
use Prim.Native.Nat.{ℕ}
use mathlib.Core.Bool.{Bool, true, false}
use lib.IntN.{ℤ, pos, nat_abs}
use lib.Dec.{T}
use lib.Signed.{le_z, ◌≤ℤ◌}
use Rattle.exact.specs.Fraction.{up_f}
use Rattle.exact.specs.SignedFraction.{size, down_s}
use Rattle.soil.specs.declared.Soil.{Soil}
use Rattle.coefficient.specs.declared.Settings.{Settings}
use Rattle.claims.specs.declared.Row.{Row}
use Rattle.actions.specs.declared.Sign.{Sign}
use Rattle.footing.specs.declared.Footing.{Footing}
use Rattle.footing.specs.Actions.{normal, moment_b, moment_l, horizontal}
use Rattle.footing.specs.Rows.{footing_row, heavy_row, light_row, eccentricity}

-- the row with N at least 20,000
abbrev pub heavy_of : Settings → Footing → Soil → Bool → Sign → Row
heavy_of s f soil sensitive sign =
    let n = nat_abs (down_s (normal s f sign)) in
    heavy_row s f soil sensitive n (eccentricity (up_f (size (moment_b s f sign))) n) (eccentricity (up_f (size (moment_l s f sign))) n)
    (up_f (size (horizontal s f sign)))

module _ (s : Settings) (f : Footing) (soil : Soil) (sensitive : Bool) (sign : Sign) where
  pub heavy_is : le_z (pos 20000) (down_s (normal s f sign)) ≡ true → footing_row s f soil sensitive sign ≡ heavy_of s f soil sensitive sign
  unfolding footing_row
  heavy_is h = rw h

  pub light_is : le_z (pos 20000) (down_s (normal s f sign)) ≡ false → footing_row s f soil sensitive sign ≡ light_row (down_s (normal s f sign)) (up_f (size (horizontal s f sign)))
  unfolding footing_row
  light_is h = rw h

  -- a row whose reported N is at least 20,000 is of the first form
  pub is_heavy : pos 20000 ≤ℤ (footing_row s f soil sensitive sign).word2 → le_z (pos 20000) (down_s (normal s f sign)) ≡ true
  is_heavy h = by (le_z (pos 20000) (down_s (normal s f sign))) refl
    where
      by : (t : Bool) → le_z (pos 20000) (down_s (normal s f sign)) ≡ t → t ≡ true
      by true e = refl
      by false e = absurd (subst T e (subst (λ (row : Row). T (le_z (pos 20000) row.word2)) (light_is e) h.le))

  -- the row of computed values
  pub heavy_path : (n : ℤ) (N ex ey h : ℕ) → le_z (pos 20000) n ≡ true → n ≡ down_s (normal s f sign) → N ≡ nat_abs n →
      ex ≡ eccentricity (up_f (size (moment_b s f sign))) (nat_abs (down_s (normal s f sign))) → ey ≡ eccentricity (up_f (size (moment_l s f sign))) (nat_abs (down_s (normal s f sign))) →
      h ≡ up_f (size (horizontal s f sign)) → heavy_row s f soil sensitive N ex ey h ≡ footing_row s f soil sensitive sign
  heavy_path n N ex ey h t en N-is ex-is ey-is h-is = rw (ex-is, ey-is, h-is, N-is, en) (sym (heavy_is (rw en at t)))

  pub light_path : (n : ℤ) (h : ℕ) → le_z (pos 20000) n ≡ false → n ≡ down_s (normal s f sign) → h ≡ up_f (size (horizontal s f sign)) →
      light_row n h ≡ footing_row s f soil sensitive sign
  light_path n h t en h-is = rw (h-is, en) (sym (light_is (rw en at t)))
