-- A footing with a greater P in the second of two accepted jobs: its two rows resist at least as much, and every other row is the same.
-- Assumes nothing.
use mathlib.Core.Path.{◌≡◌, refl, ap, ◌∙◌}
use mathlib.Core.List.{List, [], ◌∷◌}
use Rattle.std.specs.Prelude.{Some}
use Prim.Native.Nat.{ℕ, ◌+◌}
use native.Mathlib.Omega.{arith}
use lib.Dec.{lit<}
use lib.IntN.{ℤ}
use Rattle.claims.specs.declared.Row.{Row}
use Rattle.coefficient.specs.declared.Settings.{Settings}
use Rattle.actions.specs.declared.Sign.{Sign}
use Rattle.actions.specs.declared.Sign.TheVariants.{Plus, Minus}
use Rattle.footing.specs.declared.Footing.{Footing}
use Rattle.footing.specs.Rows.{footing_row}
use Rattle.layout.proofs.Numbers.{Bytes}
use Rattle.format.specs.declared.Command.TheVariants.{Footing as footing}
use Rattle.format.specs.Commands.{footing_of, command_of}
use Rattle.blocks.specs.FileCommands.{one}
use Rattle.context.specs.declared.Ground.{Ground}
use Rattle.context.specs.Context.{Context, absent}
use Rattle.context.proofs.Shown.{present}
use Rattle.rows.specs.Rows.{rows_of, rows_with, words}
use Rattle.job.specs.Placed.{Entry, placed_all, accepted, placed, all_rows}
use Rattle.strengthening.specs.Raised.{Strength, value, Raised}
use Rattle.strengthening.specs.Others.{rows_count, P_of_footing, Resists, TwoStronger, FootingsStrengthened}
use Rattle.strengthening.proofs.ReadRaised.{operands, operands_with}
use Rattle.strengthening.proofs.Given.{Given}
use Rattle.strengthening.proofs.FootingRows.{Resisting, footing_resists, footing_P}
use Rattle.strengthening.proofs.Runs.{Part, Room, beside, beside_part, own_first, own_second, totals_kept, same_size}
use Rattle.strengthening.proofs.OneRow.{no_more}
use Rattle.strengthening.proofs.Single as single

rows_of_footing : (h : Context) (s : Settings) (g : Ground) (v : ℕ → ℕ) → h.settings ≡ Some s → h.ground ≡ Some g →
    rows_of h (command_of 9 v) ≡ footing_row s (footing_of v) g.soil g.sensitive Plus ∷ footing_row s (footing_of v) g.soil g.sensitive Minus ∷ []
unfolding command_of rows_of rows_with
rows_of_footing h s g v e w = rw (e, w)

resists : (at : ℕ) (row other : Row) → Resisting row other → Resists (words at 9 row) (words at 9 other) (P_of_footing at)
resists at row other k = record { row = k.raised.stronger at 9; resistance = k.resistance }

module _ {first second : List ℕ} {before : List Entry} {x : Entry} (j : Given first before x) (b2 : Bytes second) (f : Footing) (g : x.given ≡ one (footing f)) (r : Raised first second (P_of_footing x.offset)) where
  abbrev P : Strength
  P = P_of_footing x.offset

  abbrev entries : List Entry
  entries = single.entries j b2 (footing f) g footing_P r

  settings_hold : (s : Settings) × (x.context.settings ≡ Some s)
  settings_hold = single.settings_hold j b2 (footing f) g footing_P r

  ground_holds : (soil : Ground) × (x.context.ground ≡ Some soil)
  unfolding absent command_of
  ground_holds = present x.context.ground (single.asked_holds j b2 (footing f) g footing_P r)

  -- a row of the footing in the first job and in the second, by its sign
  abbrev row : Sign → Row
  row sign = footing_row settings_hold.0 (footing_of (operands first P)) ground_holds.0.soil ground_holds.0.sensitive sign

  abbrev other_row : Sign → Row
  other_row sign = footing_row settings_hold.0 (footing_of (operands_with first second P)) ground_holds.0.soil ground_holds.0.sensitive sign

  abbrev both : (Sign → Row) → List (List ℤ)
  both rs = words x.offset 9 (rs Plus) ∷ words x.offset 9 (rs Minus) ∷ []

  resisting : (sign : Sign) → Resisting (row sign) (other_row sign)
  resisting sign = footing_resists settings_hold.0 (operands first P) (value second P) (omega (arith, r.greater)) ground_holds.0.soil ground_holds.0.sensitive sign

  part : placed second ≡ accepted (placed_all entries) → Part first second (all_rows (placed_all before)) (both row) (both other_row) (all_rows (placed_all j.among.after))
  part a =
      record {
        bytes_first = j.bytes;
        bytes_second = b2;
        commands = placed_all j.among.commands;
        first_accepted = single.placed_first j b2 (footing f) g footing_P r;
        others = placed_all entries;
        second_accepted = a;
        first_rows = single.rows_first j b2 (footing f) g footing_P r ∙ ap (single.with_rows j b2 (footing f) g footing_P r) (rows_of_footing x.context settings_hold.0 ground_holds.0 (operands first P) settings_hold.1 ground_holds.1);
        second_rows = single.rows_second j b2 (footing f) g footing_P r
            ∙ ap (single.with_rows j b2 (footing f) g footing_P r) (rows_of_footing x.context settings_hold.0 ground_holds.0 (operands_with first second P) settings_hold.1 ground_holds.1);
        as_long = refl;
      }

  two_stronger : (a : placed second ≡ accepted (placed_all entries)) → {lent other : List ℤ} → Room (rows_count j.among.commands) lent other → TwoStronger first second lent other (rows_count j.among.commands) (rows_count before + 0) P
  unfolding part
  two_stronger a room =
      let p = part a in
      let n = rows_count before in
      let next : n + 0 + 1 ≡ n + 1 = omega arith in
      record {
        others = λ i l g h. beside p room i l (beside_part n 2 i (λ a b. omega (arith, g, h)));
        plus = rw (own_first p room 0 (lit< tt), own_second p room 0 (lit< tt)) (resists x.offset (row Plus) (other_row Plus) (resisting Plus));
        minus = rw (next, own_first p room 1 (lit< tt), own_second p room 1 (lit< tt)) (resists x.offset (row Minus) (other_row Minus) (resisting Minus));
        totals = totals_kept p room (no_more x.offset 9 (row Plus) (other_row Plus) (resisting Plus).raised, (no_more x.offset 9 (row Minus) (other_row Minus) (resisting Minus).raised, tt));
      }

pub footings_strengthened : (first second : List ℕ) → Bytes first → Bytes second → FootingsStrengthened first second
footings_strengthened first second b1 b2 f before x k g r =
    let j : Given first before x = record { bytes = b1; among = k } in
    record {
      runs = λ fs a lent other room1 room2. two_stronger j b2 f g r (single.placed_second j b2 (footing f) g footing_P r fs a) (record { first = room1; second = room2 });
      still_accepted = λ l. same_size (part j b2 f g r (single.placed_ranged j b2 (footing f) g footing_P r l));
    }
