-- What a word of a row tells that is 1 for yes, else 0. 02, No. 5: whether the cap was strictly the smaller.
use Rattle.std.specs.Prelude.{◌≡◌, ◌↔◌, ℤ, pos}

-- It is 1 exactly where the cap governs and 0 exactly where it does not. Where it is 1 the design value is the cap's; where it is 0
-- it is that of the resistances.
pub record Tells (word : ℤ) (CapGoverns : Type 0) (design of_cap of_resistances : ℤ) : Type 0 where
  pub one : (word ≡ pos 1) ↔ CapGoverns
  pub zero : (word ≡ pos 0) ↔ (¬ CapGoverns)
  pub capped : word ≡ pos 1 → design ≡ of_cap
  pub free : word ≡ pos 0 → design ≡ of_resistances
