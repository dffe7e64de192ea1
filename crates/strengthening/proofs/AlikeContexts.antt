-- Contexts alike but for VR of the wall base: nothing that is tested and no row tells them apart, so that commands pass behind the one where
-- they pass behind the other, with the same rows. Assumes nothing.
use mathlib.Core.Path.{◌≡◌, refl, sym, ap, ap₂, ◌∙◌}
use mathlib.Core.Bool.{Bool, cond}
use mathlib.Core.List.{List, [], ◌∷◌, ◌++◌, map}
use Rattle.std.specs.Prelude.{Option, None, Some}
use Rattle.std.specs.Option.{option_map}
use Prim.Native.Nat.{ℕ, ◌+◌}
use lib.Dec.{eqb}
use Rattle.coefficient.specs.declared.Settings.{Settings}
use Rattle.walls.specs.declared.WallBase.{WallBase}
use Rattle.walls.specs.declared.Storey.{Storey}
use Rattle.walls.specs.Base.{wall_coefficient}
use Rattle.walls.specs.Storey.{storey_row}
use Rattle.basement.specs.Basement.{basement_shear_row, basement_moment_row}
use Rattle.members.specs.declared.Joint.{Joint}
use Rattle.members.specs.Hingeless.{joint_coefficient}
use Rattle.format.specs.declared.Command.{Command}
use Rattle.format.specs.declared.Command.TheVariants.{Settings as settings, Joint as joint, Column as column, Beam as beam, Hingeless as hingeless, WallBase as wall_base, Storey as storey, Soil as soil, Footing as footing, Detail as detail, Basement as basement, Building as building}
use Rattle.format.specs.Commands.{byte_of}
use Rattle.blocks.specs.FileCommands.{FileCommand, one, block, width_of, given, commands_from}
use Rattle.context.specs.Context.{Context, next, with_joint, missing, absent, when_given}
use Rattle.rows.specs.Rows.{rows_of, rows_with, words}
use Rattle.job.specs.declared.Counts.{Counts}
use Rattle.job.specs.Counts.{counted}
use Rattle.job.specs.Placed.{place_each, placed_all, all_rows}
use Rattle.job.proofs.AlreadyMet.{rows_of_both}
use Rattle.job.proofs.Passing.{PassesAt, Passes, through}
use Rattle.capacity.proofs.FileListed.{entries_from}

-- ---- alike

-- the base has another VR
pub record SameBase (a b : WallBase) : Type 0 where
  pub resistance : b.resistance ≡ a.resistance
  pub moment : b.moment ≡ a.moment
  pub shear : b.shear ≡ a.shear

abbrev pub SameWall : Option WallBase → Option WallBase → Type 0
SameWall None None = Unit {0}
SameWall (Some a) (Some b) = SameBase a b
SameWall _ _ = ⊥

pub record Alike (h g : Context) : Type 0 where
  pub settings : g.settings ≡ h.settings
  pub joints : g.joints ≡ h.joints
  pub wall : SameWall h.wall g.wall
  pub ground : g.ground ≡ h.ground

same_wall : (o : Option WallBase) → SameWall o o
same_wall None = tt
same_wall (Some b) = record { resistance = refl; moment = refl; shear = refl }

pub alike_itself : (h : Context) → Alike h h
alike_itself h = record { settings = refl; joints = refl; wall = same_wall h.wall; ground = refl }

pub alike_next : (c : Command) (h g : Context) → Alike h g → Alike (next h c) (next g c)
unfolding next
alike_next (settings s) h g a = record { settings = refl; joints = a.joints; wall = a.wall; ground = a.ground }
alike_next (joint id j) h g a = record { settings = a.settings; joints = ap (with_joint id j) a.joints; wall = a.wall; ground = a.ground }
alike_next (wall_base b) h g a = record { settings = a.settings; joints = a.joints; wall = same_wall (Some b); ground = a.ground }
alike_next (soil s) h g a = record { settings = a.settings; joints = a.joints; wall = a.wall; ground = refl }
alike_next building h g a = record { settings = refl; joints = refl; wall = tt; ground = refl }
alike_next _ h g a = a

alike_through : (cs : List Command) (h g : Context) → Alike h g → Alike (through h cs) (through g cs)
alike_through [] h g a = a
alike_through (c ∷ cs) h g a = alike_through cs (next h c) (next g c) (alike_next c h g a)

-- ---- what is tested

missing_too : (o p : Option WallBase) → SameWall o p → missing p ≡ missing o
missing_too None None s = refl
missing_too (Some a) (Some b) s = refl
missing_too None (Some b) s = absurd s
missing_too (Some a) None s = absurd s

absent_too : (c : Command) (h g : Context) → Alike h g → absent g c ≡ absent h c
unfolding absent
absent_too (hingeless id1 id2 m) h g a = rw a.joints
absent_too (storey s) h g a = missing_too h.wall g.wall a.wall
absent_too (footing f) h g a = rw a.ground
absent_too (basement id m) h g a = ap₂ (λ (x y : Bool). cond (eqb m.place 0) x y) (ap (λ (j : ℕ → Option Joint). missing (j id)) a.joints) (missing_too h.wall g.wall a.wall)
absent_too _ h g a = refl

pass_too : (counts : Counts) (c : FileCommand) (h g : Context) → Alike h g → PassesAt counts h c → PassesAt counts g c
pass_too counts (one c) h g a p =
    record { other = p.other; few = p.few; buildings = p.buildings; settings = rw a.settings p.settings; range = p.range; present = absent_too c h g a ∙ p.present }
pass_too counts (block ss) h g a p =
    record { count_in_range_lem = p.count_in_range_lem; few = p.few; settings = rw a.settings p.settings; base = missing_too h.wall g.wall a.wall ∙ p.base; range = p.range }

pub all_pass : (cs : List FileCommand) (counts : Counts) (h g : Context) → Alike h g → Passes counts h cs → Passes counts g cs
all_pass [] counts h g a p = rw a.settings p
all_pass (c ∷ cs) counts h g a (o, p) = (pass_too counts c h g a o, all_pass cs (counted counts c) (through h (given c)) (through g (given c)) (alike_through (given c) h g a) p)

-- ---- the rows

storey_too : (q : ℕ) (t : Storey) (o p : Option WallBase) → SameWall o p → when_given p (λ b. storey_row q b t ∷ []) ≡ when_given o (λ b. storey_row q b t ∷ [])
unfolding storey_row
storey_too q t None None s = refl
storey_too q t (Some a) (Some b) s = rw (s.resistance, s.moment, s.shear)
storey_too q t None (Some b) s = absurd s
storey_too q t (Some a) None s = absurd s

coefficient_too : (q : ℕ) (o p : Option WallBase) → SameWall o p → option_map (wall_coefficient q) p ≡ option_map (wall_coefficient q) o
coefficient_too q None None s = refl
coefficient_too q (Some a) (Some b) s = rw (s.resistance, s.moment)
coefficient_too q None (Some b) s = absurd s
coefficient_too q (Some a) None s = absurd s

with_settings : (s : Settings) (c : Command) (h g : Context) → Alike h g → rows_with g s c ≡ rows_with h s c
unfolding rows_with
with_settings s (column c) h g a = refl
with_settings s (beam b) h g a = refl
with_settings s (hingeless id1 id2 m) h g a = rw a.joints
with_settings s (wall_base b) h g a = refl
with_settings s (storey t) h g a = storey_too s.behaviour t h.wall g.wall a.wall
with_settings s (footing f) h g a = rw a.ground
with_settings s (detail d) h g a = refl
with_settings s (basement id m) h g a =
    ap (λ o. when_given o (λ k. basement_shear_row k m ∷ basement_moment_row k m ∷ []))
    (ap₂ (cond (eqb m.place 0)) (ap (λ (j : ℕ → Option Joint). option_map (joint_coefficient s) (j id)) a.joints) (coefficient_too s.behaviour h.wall g.wall a.wall))
with_settings s _ h g a = refl

rows_too : (c : Command) (h g : Context) → Alike h g → rows_of g c ≡ rows_of h c
unfolding rows_of
rows_too c h g a = rw a.settings (by h.settings)
  where
    by : (o : Option Settings) → when_given o (λ s. rows_with g s c) ≡ when_given o (λ s. rows_with h s c)
    by None = refl
    by (Some s) = with_settings s c h g a

placed_rows : (cs : List (ℕ × Command)) (h g : Context) → Alike h g → all_rows (place_each g cs) ≡ all_rows (place_each h cs)
unfolding all_rows
placed_rows [] h g a = refl
placed_rows ((at, c) ∷ cs) h g a = ap₂ ◌++◌ (ap (map (words at (byte_of c))) (rows_too c h g a)) (placed_rows cs (next h c) (next g c) (alike_next c h g a))

pub same_rows : (cs : List FileCommand) (at : ℕ) (h g : Context) → Alike h g → all_rows (placed_all (entries_from at g cs)) ≡ all_rows (placed_all (entries_from at h cs))
unfolding all_rows
same_rows [] at h g a = refl
same_rows (c ∷ cs) at h g a =
    rows_of_both (place_each g (commands_from at c)) (placed_all (entries_from (at + width_of c) (through g (given c)) cs))
    ∙ ap₂ ◌++◌ (placed_rows (commands_from at c) h g a) (same_rows cs (at + width_of c) (through h (given c)) (through g (given c)) (alike_through (given c) h g a))
    ∙ sym (rows_of_both (place_each h (commands_from at c)) (placed_all (entries_from (at + width_of c) (through h (given c)) cs)))
