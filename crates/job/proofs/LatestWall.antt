-- The running values of the latest wall: at every storey that a walk reaches they are those that 01 gives for the latest base command;
-- a base command works them out, another building forgets them, no other command changes them, and a walk without room works out none.
-- 02, No. 4 and No. 10. Assumes nothing.
use mathlib.Core.Path.{◌≡◌, refl, sym, ap, ap₂, ◌∙◌}
use mathlib.Core.Bool.{Bool, true, false, ◌||◌, cond}
use mathlib.Core.List.{List, [], ◌∷◌, ◌++◌}
use Rattle.std.specs.Prelude.{Option, None, Some, option_map}
use Prim.Native.Nat.{ℕ}
use lib.IntN.{ℤ, pos}
use lib.ListN.{length, replicate}
use Rattle.coefficient.specs.declared.Settings.{Settings}
use Rattle.walls.specs.declared.WallBase.{WallBase}
use Rattle.walls.specs.declared.Storey.{Storey}
use Rattle.walls.specs.Storey.{storey_row_from, storey_row}
use Rattle.walls.specs.Base.{wall_coefficient, base_shear}
use Rattle.walls.specs.Running.{wall_of}
use Rattle.exact.specs.Fraction.{Fraction}
use Rattle.coefficient.specs.Coefficient.{fraction}
use Rattle.claims.specs.declared.Row.{Row}
use Rattle.format.specs.declared.Command.{Command}
use Rattle.format.specs.Commands.{byte_of}
use Rattle.format.specs.declared.Command.TheVariants.{Settings as settings, WallBase as wall_base, Storey as storey, Soil as soil, Building as building}
use Rattle.layout.proofs.Numbers.{Bytes}
use Rattle.context.specs.declared.State.{State}
use Rattle.context.specs.declared.LatestWall.{LatestWall}
use Rattle.context.specs.declared.LatestWall.TheVariants.{Missing, Given}
use Rattle.context.specs.Context.{Context, nothing, given, absent}
use Rattle.context.specs.Running.{room_for, start_state, running, wall_kept, next_state, no_joints}
use Rattle.context.proofs.Shown.{Shows, present}
use Rattle.rows.specs.Rows.{words, rows_of, rows_with}
use Rattle.rows.specs.Writing.{running_storey_row}
use Rattle.rows.proofs.RowsSame.{or_first, or_second}
use Rattle.job.specs.Faults.{is_building}
use Rattle.job.specs.Placed.{Placed, context_after, placed_all, rows_at}
use Rattle.job.specs.Earlier.{another_begun, or_else, base_in, latest_settings, latest_base}
use Rattle.job.specs.Walking.{state_through, joints_through}
use Rattle.job.specs.Reached.{reached, located}
use Rattle.job.specs.LatestWall.{Carries, AtEveryPlace, AtEveryStorey}
use Rattle.job.proofs.Reached.{reached_each, reached_placed}
use Rattle.job.proofs.AlreadyMet.{placed_both}
use Rattle.job.proofs.Located.{located_both, state_both, within, before_kept}
use Rattle.job.proofs.WalkThrough.{ends_there, state_there, stands_after, pauses_there, shows_after}
use Rattle.job.proofs.Latest.{settings_left, base_left}

-- ---- worked out once

-- the latest wall after a command, by the base that it gives; another building gives none
abbrev held : Bool → State → LatestWall
held begun t = cond begun Missing t.wall

abbrev wall_by : Bool → State → Bool → Option WallBase → LatestWall
wall_by room t begun None = held begun t
wall_by room t begun (Some b) = wall_kept t.settings room b

wall_next : (room : Bool) (t : State) (c : Command) → (next_state room t c).wall ≡ wall_by room t (is_building (byte_of c)) (base_in c)
unfolding next_state start_state
wall_next room t building = refl
wall_next room t (wall_base b) = refl
wall_next room t (settings s) = refl
wall_next room t (soil s) = refl
wall_next room t _ = refl

made : (o : Option Settings) (b : WallBase) → running (wall_kept o true b) ≡ option_map (λ s. wall_of s.behaviour b) o
made None b = refl
made (Some s) b = refl

-- a base command works them out, from its operands and the settings
pub values_made : (t : State) (b : WallBase) → running (next_state true t (wall_base b)).wall ≡ option_map (λ s. wall_of s.behaviour b) t.settings
values_made t b = ap running (wall_next true t (wall_base b)) ∙ made t.settings b

neither : {A : Type 0} (a b : Option A) → or_else a b ≡ None → (a ≡ None) × (b ≡ None)
neither None b e = (refl, e)
neither (Some a) b e = absurd cc

-- the commands up to the next base or the next building leave them, whatever they are
pub values_kept : (room : Bool) (t : State) (ps : List Placed) → another_begun ps ≡ false → latest_base ps ≡ None → (state_through room t (located ps)).wall ≡ t.wall
values_kept room t [] n e = refl
values_kept room t (p ∷ ps) n e =
    let more = or_first (another_begun ps) (is_building (byte_of p.command)) n in
    let (later, own) = neither (latest_base ps) (base_in p.command) (rw more at e) in
    values_kept room (next_state room t p.command) ps more later
    ∙ wall_next room t p.command ∙ ap₂ (wall_by room t) (or_second (another_begun ps) (is_building (byte_of p.command)) n) own

-- of the latest base among commands it is kept that one is given, and no values
abbrev pub given_alone : LatestWall → Option WallBase → LatestWall
given_alone w None = w
given_alone w (Some b) = Given

given_both : (w : LatestWall) (later own : Option WallBase) → given_alone (given_alone w own) later ≡ given_alone w (or_else later own)
given_both w None own = refl
given_both w (Some b) own = refl

-- a walk without room works out none
pub none_without_room : (t : State) (ps : List Placed) → (state_through false t (located ps)).wall ≡ given_alone (held (another_begun ps) t) (latest_base ps)
none_without_room t [] = refl
none_without_room t (p ∷ ps) =
    none_without_room (next_state false t p.command) ps
    ∙ ap (λ w. given_alone (cond (another_begun ps) Missing w) (latest_base ps)) (wall_next false t p.command ∙ alone (is_building (byte_of p.command)) (base_in p.command))
    ∙ behind (another_begun ps) (is_building (byte_of p.command)) (latest_base ps) (base_in p.command)
  where
    behind : (later first : Bool) (l g : Option WallBase) → given_alone (cond later Missing (given_alone (held first t) g)) l ≡ given_alone (held (later || first) t) (cond later l (or_else l g))
    behind true first l g = refl
    behind false first l g = given_both (held first t) l g

    unkept : (s : Option Settings) (b : WallBase) → wall_kept s false b ≡ Given
    unkept None b = refl
    unkept (Some s) b = refl

    alone : (begun : Bool) (o : Option WallBase) → wall_by false t begun o ≡ given_alone (held begun t) o
    alone begun None = refl
    alone begun (Some b) = unkept t.settings b

-- ---- those of the latest base

module _ (job : List ℕ) (b : Bytes job) (earlier later : List Placed) (e : placed_all (reached job) ≡ earlier ++ later) where
  there : State
  there = state_through true start_state (located earlier)

  after : Context
  after = context_after nothing earlier

  shows : Shows true there (joints_through no_joints (located earlier)) after
  unfolding there after
  shows = shows_after true job b earlier later e

  module _ (base : WallBase) (l : latest_base earlier ≡ Some base) where
    holds : after.wall ≡ Some base
    unfolding after
    holds = base_left earlier ∙ l

    given_settings : (s : Settings) × (after.settings ≡ Some s)
    given_settings = by after.settings refl
      where
        by : (o : Option Settings) → after.settings ≡ o → (s : Settings) × (after.settings ≡ Some s)
        by None q = let z : ◌≡◌ {A = Option WallBase} None (Some base) = sym (shows.ordered (ap given q)) ∙ holds in absurd cc
        by (Some s) q = (s, q)

    pub carried : Carries earlier base
    unfolding wall_of there after
    carried =
        let (s, q) = given_settings in
        record {
          settings = s;
          given = sym (settings_left earlier) ∙ q;
          wall = wall_of s.behaviour base;
          running_values = ap (λ (t : State). running t.wall) shows.state ∙ rw (q, holds);
          coefficient = refl;
          shear = refl;
          resistance = refl;
        }

-- eight words are room for a row
memory₈ : List ℤ
memory₈ = replicate 8 (pos 0)

room₈ : room_for (length memory₈) ≡ true
unfolding memory₈
room₈ = refl

-- at every place behind a base
pub at_every_place : (job : List ℕ) → Bytes job → AtEveryPlace job
at_every_place job b before later e base l = (
  ap (λ (t : State). running t.wall) (state_there true job b before later e memory₈ room₈),
  carried job b (placed_all before) (placed_all later) (ap placed_all e ∙ placed_both before later) base l,
)

-- the row of a storey that stands behind its base
row_carried : (earlier : List Placed) (p : Placed) (base : WallBase) (s : Storey) → p.context.settings ≡ latest_settings earlier → p.context.wall ≡ Some base → p.command ≡ storey s →
    (k : Carries earlier base) → rows_at p ≡ words p.offset 7 (running_storey_row k.wall s) ∷ []
unfolding rows_of rows_with storey_row
row_carried earlier p base s es ew c k =
    let q = k.settings.behaviour in
    let same : storey_row_from (fraction k.wall.coefficient) k.wall.shear k.wall.resistance s ≡ storey_row q base s =
    ap (λ (a : Fraction). storey_row_from a k.wall.shear k.wall.resistance s) k.coefficient
    ∙ ap (λ (w : ℕ). storey_row_from (wall_coefficient q base) w k.wall.resistance s) k.shear
    ∙ ap (λ (r : ℕ). storey_row_from (wall_coefficient q base) (base_shear q base) r s) k.resistance in
    rw (c, es ∙ k.given, ew) (ap (λ (r : Row). words p.offset 7 r ∷ []) (sym same))

-- at every storey
pub at_every_storey : (job : List ℕ) → Bytes job → AtEveryStorey job
unfolding absent
at_every_storey job b earlier p later e s c =
    let (context, t) = reached_placed job earlier p later e in
    let (base, holds) = present p.context.wall (rw c at t.present) in
    let l : latest_base earlier ≡ Some base = sym (base_left earlier) ∙ ap (λ (h : Context). h.wall) (sym context) ∙ holds in
    let k = carried job b earlier (p ∷ later) e base l in
    let w = within (reached job) earlier p later e in
    let at = reached_each job w.before w.entry w.after w.listed in
    let state = state_there true job b w.before (w.entry ∷ w.after) w.listed memory₈ room₈ in
    record {
      base = base;
      latest = l;
      holds = holds;
      before = w.before;
      entry = w.entry;
      sets = w.sets;
      among = (w.rest, w.among);
      earlier_are = w.earlier_are;
      offset = ends_there true job b w.before (w.entry ∷ w.after) w.listed memory₈ room₈ ∙ sym at.place;
      pauses = pauses_there true job b w.before (w.entry ∷ w.after) w.listed;
      stands = stands_after true job b w.before (w.entry ∷ w.after) w.listed;
      state = state ∙ sym (
          ap (λ (ps : List Placed). state_through true start_state (located ps)) w.earlier_are
          ∙ ap (state_through true start_state) (located_both (placed_all w.before) w.sets)
          ∙ state_both true start_state (located (placed_all w.before)) (located w.sets)
          ∙ before_kept true (state_through true start_state (located (placed_all w.before))) w.entry.context w.entry.offset w.entry.given w.sets p w.rest w.among
          );
      carries = k;
      row = row_carried earlier p base s (ap (λ (h : Context). h.settings) context ∙ settings_left earlier) holds c k;
    }
