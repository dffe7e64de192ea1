-- `format::relation_operand` meets its contract: kind by kind. Assumes nothing.
use mathlib.Core.Logic.{◌⊎◌, inl, inr}
use mathlib.Core.Path.{◌≡◌, refl}
use Rattle.std.specs.Prelude.{Some, None}
use Rattle.layout.specs.declared.Kind.{Kind}
use Rattle.layout.specs.declared.Kind.TheVariants.{Finish, Settings, Joint, Column, Beam, Hingeless, WallBase, Storey, Soil, Footing, Detail, Block, Basement, Building}
use Rattle.layout.specs.Layouts.{byte_of_kind}
use Rattle.format.specs.Commands.{relation_operand}
use Rattle.format.proofs.relation_operand.Goals as goal

no_relation : (k : Kind) → (k ≡ Storey → ⊥) → (k ≡ Soil → ⊥) → (k ≡ Basement → ⊥) → None ≡ relation_operand (byte_of_kind k)
unfolding relation_operand
no_relation Finish s g b = refl
no_relation Settings s g b = refl
no_relation Joint s g b = refl
no_relation Column s g b = refl
no_relation Beam s g b = refl
no_relation Hingeless s g b = refl
no_relation WallBase s g b = refl
no_relation Storey s g b = absurd (s refl)
no_relation Soil s g b = absurd (g refl)
no_relation Footing s g b = refl
no_relation Detail s g b = refl
no_relation Block s g b = refl
no_relation Basement s g b = absurd (b refl)
no_relation Building s g b = refl

second : (k : Kind) → (k ≡ Soil) ⊎ (k ≡ Basement) → Some 1 ≡ relation_operand (byte_of_kind k)
unfolding relation_operand
second k (inl e) = rw e
second k (inr e) = rw e

pub returns-in-Storey : goal.returns-in-Storey
unfolding relation_operand
returns-in-Storey c = rw c.in-Storey.is

pub returns-in-Soil : goal.returns-in-Soil
returns-in-Soil c = second c.args.kind c.in-Soil.is

pub returns-in_default : goal.returns-in_default
returns-in_default c = no_relation c.args.kind c.in_default.not-Storey c.in_default.not-Soil c.in_default.not-Basement
