-- Every placed command of an accepted job is in range, and so is what holds at it. Assumes nothing.
use mathlib.Core.Path.{◌≡◌, refl, sym, ◌∙◌, subst}
use mathlib.Core.Bool.{true}
use mathlib.Core.List.{List, [], ◌∷◌, ◌++◌}
use Rattle.std.specs.Prelude.{None, Some}
use Prim.Native.Nat.{ℕ, zero, suc}
use native.Mathlib.Decide.{ℕ_discrete}
use borrow.Author.Tests.{eq-eqb, ne_eqb}
use Rattle.coefficient.specs.declared.Settings.{Settings}
use Rattle.members.specs.declared.Joint.{Joint}
use Rattle.members.specs.Hingeless.{JointRange}
use Rattle.walls.specs.declared.WallBase.{WallBase}
use Rattle.format.specs.declared.Command.{Command}
use Rattle.format.specs.declared.Command.TheVariants.{Settings as settings, Joint as joint, WallBase as wall_base, Soil as soil, Building as building}
use Rattle.format.specs.Commands.{in_range}
use Rattle.format.specs.Types.{OfTypes}
use Rattle.layout.proofs.Numbers.{Bytes}
use Rattle.blocks.proofs.GivenTypes.{AllTyped, types_given}
use Rattle.context.specs.Running.{SettingsRange}
use Rattle.context.proofs.Ranges.{settings_range, joint_range}
use Rattle.context.specs.Context.{Context, nothing, next, with_joint}
use Rattle.job.specs.Faults.{tests_at, after_command}
use Rattle.job.specs.declared.Counts.{Counts}
use Rattle.job.specs.Counts.{first_counts}
use Rattle.job.specs.Placed.{Placed, context_after, place_each, Entry, entry_at, commands_in, placed_in, placed_all, Listing, Job, refused, accepted, before, listed_by, listed, placed_of, placed}
use Rattle.job.proofs.PlacedCases.{counts_behind, context_behind, rest_after, by_cases}
use Rattle.job.proofs.Faultless.{Chained, passed}

-- what holds is in range
pub record ContextRange (h : Context) : Type 0 where
  pub settings : (s : Settings) → h.settings ≡ Some s → SettingsRange s
  pub joints : (id : ℕ) (j : Joint) → h.joints id ≡ Some j → JointRange j
  pub wall : (b : WallBase) → h.wall ≡ Some b → in_range (wall_base b) ≡ true

pub no_some : {A : Type 0} (a : A) → None ≡ Some a → ⊥
no_some a e = cc

pub same_some : {A : Type 0} (a b : A) → Some a ≡ Some b → a ≡ b
same_some a b e = cc

-- ---- what holds stays in range

nothing_range : ContextRange nothing
nothing_range =
    record {
      settings = λ s e. absurd (no_some s e);
      joints = λ id j e. absurd (no_some j e);
      wall = λ b e. absurd (no_some b e);
    }

next_range : (h : Context) (c : Command) → ContextRange h → in_range c ≡ true → ContextRange (next h c)
unfolding next
next_range h (settings s) r i =
    record { settings = λ t e. subst SettingsRange (same_some s t e) (settings_range s i); joints = r.joints; wall = r.wall }
next_range h (joint id j) r i = record { settings = r.settings; joints = λ k x e. each k x (ℕ_discrete k id) e; wall = r.wall }
  where
    each : (k : ℕ) (x : Joint) → Dec (k ≡ id) → with_joint id j h.joints k ≡ Some x → JointRange x
    each k x (yes q) e = subst JointRange (same_some j x (sym (rw (eq-eqb k id q) refl) ∙ e)) (joint_range id j i)
    each k x (no q) e = r.joints k x (sym (rw (ne_eqb k id q) refl) ∙ e)
next_range h (wall_base b) r i =
    record { settings = r.settings; joints = r.joints; wall = λ c e. subst (λ (x : WallBase). in_range (wall_base x) ≡ true) (same_some b c e) i }
next_range h (soil s) r i = record { settings = r.settings; joints = r.joints; wall = r.wall }
next_range h building r i = nothing_range
next_range h _ r i = r

-- ---- every placed command

pub record Good (p : Placed) : Type 0 where
  pub range : in_range p.command ≡ true
  pub types : OfTypes p.command
  pub context : ContextRange p.context

abbrev pub AllGood : List Placed → Type 0
AllGood [] = Unit {0}
AllGood (p ∷ ps) = Good p × AllGood ps

abbrev pub GoodJob : Job → Type 0
GoodJob (refused number offset) = Unit {0}
GoodJob (accepted ps) = AllGood ps

good_both : (ps qs : List Placed) → AllGood ps → AllGood qs → AllGood (ps ++ qs)
good_both [] qs a b = b
good_both (p ∷ ps) qs a b = (a.0, good_both ps qs a.1 b)

-- the same of the commands of the file
abbrev GoodListing : Listing → Type 0
GoodListing (refused number offset) = Unit {0}
GoodListing (accepted es) = AllGood (placed_all es)

good_in_front : (x : Entry) (j : Listing) → AllGood (placed_in x) → GoodListing j → GoodListing (before x j)
good_in_front x (refused number offset) g r = tt
good_in_front x (accepted es) g r = good_both (placed_in x) (placed_all es) g r

-- the commands that one of the file gives, where each stands and its values are of the code's types; and what holds behind them
good_given : (h : Context) → ContextRange h → (cs : List (ℕ × Command)) → AllTyped cs → Chained h (place_each h cs) → AllGood (place_each h cs) × ContextRange (context_after h (place_each h cs))
good_given h r [] t k = (tt, r)
good_given h r ((at, c) ∷ cs) (t, ts) (e, w, k) =
    let g = good_given (next h c) (next_range h c r w.range) cs ts k in
    ((record { range = w.range; types = t; context = r }, g.0), g.1)

good_from : (n : ℕ) (job : List ℕ) → Bytes job → (offset : ℕ) (counts : Counts) (h : Context) → ContextRange h → GoodListing (listed_by tests_at n job offset counts h)
unfolding listed_by
good_from zero job b offset counts h r = tt
good_from (suc n) job b offset counts h r =
    by_cases tests_at n job offset counts h GoodListing (λ l. tt) (λ l k e. tt) (λ l e z m. tt) (λ l e z m. tt)
    (λ l e z.
    let g = good_given h r (commands_in (entry_at job offset h)) (types_given job offset b) ((passed job offset counts h e).chained z) in
    good_in_front (entry_at job offset h) (rest_after tests_at n job offset counts h) g.0
    (good_from n job b (after_command job offset) (counts_behind job offset counts) (context_behind job offset h) g.1))

good_placed : (j : Listing) → GoodListing j → GoodJob (placed_of j)
good_placed (refused number offset) g = tt
good_placed (accepted es) g = g

pub all_good : (job : List ℕ) → Bytes job → GoodJob (placed job)
unfolding placed listed
all_good job b = good_placed (listed job) (good_from 4097 job b 0 first_counts nothing nothing_range)
