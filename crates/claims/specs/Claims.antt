-- The claims of demand 3 about one row. 01, "Rows and verdict bits" and "Exact values". Reported values are those of the row,
-- exact values are made from the job alone, and an amount is what a reported value may stray by.
use Rattle.std.specs.Prelude.{◌≡◌, Bool, true, false, ◌↔◌, ◌⊎◌, List, [], ◌∷◌, ℕ, ◌/◌, ◌%◌, ℤ, pos, nat_abs}
use Rattle.exact.specs.Fraction.{Fraction, Proper, whole, ◌+F◌}
use Rattle.exact.specs.SignedFraction.{SignedFraction, ProperS, whole_s, signed, ◌≤S◌, ◌<S◌, ◌+S◌, ◌-S◌}
use Rattle.claims.specs.Exact.{Exact, at_least, ProperE}

-- A demand: the value that the row reports (of a lower shear its negative), the exact one, and the amount, which bounds the
-- excess where the guard holds.
pub record Demand : Type 1 where
  pub reported : ℤ
  pub exact : Exact
  pub guard : Type 0
  pub amount : Fraction

-- the reported value is the exact one: whatever is at least the exact demand is at least the reported one
abbrev pub NoExcess : Demand → Type 0
NoExcess d = (y : SignedFraction) → ProperS y → at_least d.exact y → whole_s d.reported ≤S y

-- the reported value less the amount is below the exact one
abbrev pub ExcessUnder : Demand → Type 0
ExcessUnder d = ¬ at_least d.exact (whole_s d.reported -S signed d.amount)

-- no reported demand lies below the exact one, and the excess stays under the amount
pub record DemandHolds (d : Demand) : Type 0 where
  pub proper : ProperE d.exact
  pub proper_amount : Proper d.amount
  pub not_below : at_least d.exact (whole_s d.reported)
  pub excess : d.guard → NoExcess d ⊎ ExcessUnder d

-- A strength: what the row reports, the exact one, and the amount by which the reported one may fall short.
pub record Strength : Type 0 where
  pub reported : SignedFraction
  pub exact : SignedFraction
  pub amount : Fraction

-- no reported strength lies above the exact one; it is the exact one, or short of it by under the amount
pub record StrengthHolds (s : Strength) : Type 0 where
  pub proper : ProperS s.exact
  pub proper_reported : ProperS s.reported
  pub proper_amount : Proper s.amount
  pub not_above : s.reported ≤S s.exact
  pub short : (s.exact ≤S s.reported) ⊎ (s.exact <S (s.reported +S signed s.amount))

-- A check: a demand held against a strength, under the verdict bit that names it. It passes when the reported demand is at
-- most the reported strength, a strict one when it is below.
pub record Check : Type 1 where
  pub bit : ℕ
  pub demand : Demand
  pub strength : Strength
  pub strict : Bool

abbrev pub within : Bool → SignedFraction → SignedFraction → Type 0
within false x y = x ≤S y
within true x y = x <S y

abbrev pub Passes : Check → Type 0
Passes c = within c.strict (whole_s c.demand.reported) c.strength.reported

-- the check is clear by the amounts of its demand and its strength
abbrev pub Clear : Check → Type 0
Clear c = at_least c.demand.exact (c.strength.exact -S signed (c.demand.amount +F c.strength.amount))

-- no check passes whose exact demand exceeds its exact strength, and whatever is clear by the amounts passes
pub record CheckHolds (c : Check) : Type 0 where
  pub demand : DemandHolds c.demand
  pub strength : StrengthHolds c.strength
  pub safe : Passes c → at_least c.demand.exact c.strength.exact
  pub clear : Clear c → Passes c

-- What is claimed of a row: demands that stand in no check, the checks, and the verdict.
pub record Claims : Type 1 where
  pub demands : List Demand
  pub checks : List Check
  pub verdict : ℤ

abbrev pub AllDemands : List Demand → Type 0
AllDemands [] = Unit {0}
AllDemands (d ∷ ds) = DemandHolds d × AllDemands ds

abbrev pub AllChecks : List Check → Type 0
AllChecks [] = Unit {0}
AllChecks (c ∷ cs) = CheckHolds c × AllChecks cs

-- every check of the bit passes
abbrev pub AllPass : ℕ → List Check → Type 0
AllPass b [] = Unit {0}
AllPass b (c ∷ cs) = (c.bit ≡ b → Passes c) × AllPass b cs

-- the bit of value b (a power of two) is clear in a verdict
abbrev pub BitClear : ℕ → ℤ → Type 0
BitClear b v = nat_abs v / b % 2 ≡ 0

-- the bit is clear exactly when all its checks pass; a bit that has no check in the row is clear
abbrev pub BitHolds : ℕ → Claims → Type 0
BitHolds b c = BitClear b c.verdict ↔ AllPass b c.checks

pub record Hold (c : Claims) : Type 0 where
  pub demands : AllDemands c.demands
  pub checks : AllChecks c.checks
  pub bit1 : BitHolds 1 c
  pub bit2 : BitHolds 2 c
  pub bit4 : BitHolds 4 c
  pub bit8 : BitHolds 8 c
  pub bit32 : BitHolds 32 c

-- ---- the usual forms

-- a demand with no guard
abbrev pub plain : ℤ → Exact → Fraction → Demand
plain reported exact amount = record { reported = reported; exact = exact; guard = Unit {0}; amount = amount }

-- a strength that the row has from an operand
abbrev pub operand : ℤ → ℕ → Strength
operand word n = record { reported = whole_s word; exact = whole_s (pos n); amount = whole 0 }

-- a check that passes at equality
abbrev pub check : ℕ → Demand → Strength → Check
check bit demand strength = record { bit = bit; demand = demand; strength = strength; strict = false }
