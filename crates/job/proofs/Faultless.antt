-- A command of the file without fault: each test has passed, it ends where its bytes end, and each command that it gives is in its
-- place, in range, and has what it asks for. Assumes nothing.
use mathlib.Core.Path.{◌≡◌, refl, sym, ap, ◌∙◌}
use mathlib.Core.Bool.{Bool, true, false, not, ◌&&◌, ◌||◌, cond}
use mathlib.Core.List.{List, [], ◌∷◌}
use Rattle.std.specs.Prelude.{Option, None, Some}
use Prim.Native.Nat.{ℕ, suc, ◌+◌, ◌≤◌, ◌<◌}
use native.Mathlib.Omega.{arith}
use lib.Dec.{eqb, leb, ltb}
use lib.ListN.{length, length-map}
use borrow.Author.Tests.{ltb-false, leb-false, eqb-true, ne_eqb}
use Rattle.coefficient.specs.declared.Settings.{Settings}
use Rattle.layout.specs.Layouts.{known}
use Rattle.layout.specs.Operands.{byte_at}
use Rattle.walls.specs.declared.Storey.{Storey}
use Rattle.format.specs.declared.Command.TheVariants.{Storey as storey}
use Rattle.format.specs.Commands.{byte_of, in_range}
use Rattle.format.specs.Reading.{command_at}
use Rattle.format.proofs.CommandRead.{byte_read}
use Rattle.blocks.specs.Sets.{is_block, count_at, count_in_range, sets_of, all_in_range}
use Rattle.blocks.specs.FileCommands.{FileCommand, width_of, width_at, storeys_from, file_command_at, given as given_by}
use Rattle.blocks.proofs.Sets.{count_range, storeys_length, each_in_range}
use Rattle.blocks.proofs.FileCommands.{at_one, at_block, KnownAt, width_read}
use Rattle.context.specs.Context.{Context, next, given, missing, absent}
use Rattle.context.proofs.Shown.{differ}
use Rattle.job.specs.declared.Counts.{Counts}
use Rattle.job.specs.Faults.{is_building, too_many, seventeenth, passes_limit, misplaced, after_command, first_of, command_tests, block_tests, tests_at}
use Rattle.job.specs.Placed.{Placed, place_each, entry_at, placed_in}
use Rattle.job.specs.Earlier.{end_of}
use Rattle.job.proofs.PlacedCases.{fault_at, counts_behind, weight_at}

none : (k : ℕ) → suc k ≡ 0 → ⊥
none k e = omega arith

pub or_false : (a : Bool) → (a || false) ≡ a
or_false true = refl
or_false false = refl

pub or_true : (a : Bool) → (a || true) ≡ true
or_true true = refl
or_true false = refl

-- the byte is none of a block
pub other_byte : (byte : ℕ) → (byte ≡ 11 → ⊥) → is_block byte ≡ false
other_byte byte n = ne_eqb byte 11 n

-- ---- a command by itself

pub record Faultless (job : List ℕ) (offset : ℕ) (counts : Counts) (h : Context) : Type 0 where
  pub known_byte : known (byte_at job offset) ≡ true
  pub whole : after_command job offset ≤ length job
  pub few : too_many (byte_at job offset) counts.commands ≡ false
  pub buildings : seventeenth (byte_at job offset) counts.buildings ≡ false
  pub settings : misplaced (byte_at job offset) (given h.settings) ≡ false
  pub range : in_range (command_at job offset) ≡ true
  pub present : absent h (command_at job offset) ≡ false

module _ (job : List ℕ) (offset : ℕ) (counts : Counts) (h : Context) (b : is_block (byte_at job offset) ≡ false) where
  pub command_fault_lem : fault_at job offset counts h ≡ first_of (command_tests job offset counts h)
  unfolding tests_at
  command_fault_lem = rw b

  pub faultless : fault_at job offset counts h ≡ 0 → Faultless job offset counts h
  unfolding command_tests
  faultless z =
      by (known (byte_at job offset) || is_block (byte_at job offset)) (ltb (length job) (after_command job offset)) (too_many (byte_at job offset) counts.commands) (seventeenth (byte_at job offset) counts.buildings) (misplaced (byte_at job offset) (given h.settings))
      (in_range (command_at job offset)) (absent h (command_at job offset)) refl refl refl refl refl refl refl (sym command_fault_lem ∙ z)
    where
      by : (k c m b g r a : Bool) → (known (byte_at job offset) || is_block (byte_at job offset)) ≡ k → ltb (length job) (after_command job offset) ≡ c → too_many (byte_at job offset) counts.commands ≡ m →
          seventeenth (byte_at job offset) counts.buildings ≡ b →
          misplaced (byte_at job offset) (given h.settings) ≡ g → in_range (command_at job offset) ≡ r → absent h (command_at job offset) ≡ a →
          first_of ((not k, 2) ∷ (c, 1) ∷ (m, 8) ∷ (b, 13) ∷ (g, 4) ∷ (not r, 5) ∷ (a, 6) ∷ []) ≡ 0 → Faultless job offset counts h
      by false c m b g r a e1 e2 e3 e4 e5 e6 e7 z = absurd (none 1 z)
      by true true m b g r a e1 e2 e3 e4 e5 e6 e7 z = absurd (none 0 z)
      by true false true b g r a e1 e2 e3 e4 e5 e6 e7 z = absurd (none 7 z)
      by true false false true g r a e1 e2 e3 e4 e5 e6 e7 z = absurd (none 12 z)
      by true false false false true r a e1 e2 e3 e4 e5 e6 e7 z = absurd (none 3 z)
      by true false false false false false a e1 e2 e3 e4 e5 e6 e7 z = absurd (none 4 z)
      by true false false false false true true e1 e2 e3 e4 e5 e6 e7 z = absurd (none 5 z)
      by true false false false false true false e1 e2 e3 e4 e5 e6 e7 z =
          record {
            known_byte = sym (or_false (known (byte_at job offset))) ∙ ap (λ (k : Bool). known (byte_at job offset) || k) (sym b) ∙ e1;
            whole = ltb-false (length job) (after_command job offset) e2;
            few = e3;
            buildings = e4;
            settings = e5;
            range = e6;
            present = e7;
          }

-- ---- a block

pub record BlockFaultless (job : List ℕ) (offset : ℕ) (counts : Counts) (h : Context) : Type 0 where
  pub counted : offset + 1 < length job
  pub count_in_range_lem : count_in_range (count_at job offset) ≡ true
  pub whole : after_command job offset ≤ length job
  pub few : passes_limit (count_at job offset) counts.commands ≡ false
  pub settings : misplaced (byte_at job offset) (given h.settings) ≡ false
  pub base : missing h.wall ≡ false
  pub range : all_in_range (sets_of job offset) ≡ true

module _ (job : List ℕ) (offset : ℕ) (counts : Counts) (h : Context) (b : is_block (byte_at job offset) ≡ true) where
  pub block_fault_lem : fault_at job offset counts h ≡ first_of (block_tests job offset counts h)
  unfolding tests_at
  block_fault_lem = rw b

  pub block_faultless : fault_at job offset counts h ≡ 0 → BlockFaultless job offset counts h
  unfolding block_tests
  block_faultless z =
      by (known (byte_at job offset) || is_block (byte_at job offset)) (leb (length job) (offset + 1)) (count_in_range (count_at job offset)) (ltb (length job) (after_command job offset)) (passes_limit (count_at job offset) counts.commands)
      (misplaced (byte_at job offset) (given h.settings)) (missing h.wall) (all_in_range (sets_of job offset)) refl refl refl refl refl refl refl (sym block_fault_lem ∙ z)
    where
      by : (k n i c m g a r : Bool) → leb (length job) (offset + 1) ≡ n → count_in_range (count_at job offset) ≡ i → ltb (length job) (after_command job offset) ≡ c → passes_limit (count_at job offset) counts.commands ≡ m →
          misplaced (byte_at job offset) (given h.settings) ≡ g → missing h.wall ≡ a → all_in_range (sets_of job offset) ≡ r →
          first_of ((not k, 2) ∷ (n, 1) ∷ (not i, 5) ∷ (c, 1) ∷ (m, 8) ∷ (g, 4) ∷ (a, 6) ∷ (not r, 5) ∷ []) ≡ 0 → BlockFaultless job offset counts h
      by false n i c m g a r e1 e2 e3 e4 e5 e6 e7 z = absurd (none 1 z)
      by true true i c m g a r e1 e2 e3 e4 e5 e6 e7 z = absurd (none 0 z)
      by true false false c m g a r e1 e2 e3 e4 e5 e6 e7 z = absurd (none 4 z)
      by true false true true m g a r e1 e2 e3 e4 e5 e6 e7 z = absurd (none 0 z)
      by true false true false true g a r e1 e2 e3 e4 e5 e6 e7 z = absurd (none 7 z)
      by true false true false false true a r e1 e2 e3 e4 e5 e6 e7 z = absurd (none 3 z)
      by true false true false false false true r e1 e2 e3 e4 e5 e6 e7 z = absurd (none 5 z)
      by true false true false false false false false e1 e2 e3 e4 e5 e6 e7 z = absurd (none 4 z)
      by true false true false false false false true e1 e2 e3 e4 e5 e6 e7 z =
          record {
            counted = leb-false (length job) (offset + 1) e1;
            count_in_range_lem = e2;
            whole = ltb-false (length job) (after_command job offset) e3;
            few = e4;
            settings = e5;
            base = e6;
            range = e7;
          }

-- ---- each command that one of the file gives

-- it is no end; settings are in their place, its operands in range, and what it asks for is given
pub record Standing (p : Placed) : Type 0 where
  pub other : byte_of p.command ≡ 0 → ⊥
  pub settings : misplaced (byte_of p.command) (given p.context.settings) ≡ false
  pub range : in_range p.command ≡ true
  pub present : absent p.context p.command ≡ false

-- placed commands, each standing with the context that those before it leave
abbrev pub Chained : Context → List Placed → Type 0
Chained h [] = Unit {0}
Chained h (p ∷ ps) = (p.context ≡ h) × Standing p × Chained (next h p.command) ps

-- a command of the file that has passed the tests
pub record Passed (job : List ℕ) (offset : ℕ) (counts : Counts) (h : Context) : Type 0 where
  pub whole : after_command job offset ≤ length job
  pub width : width_of (file_command_at job offset) ≡ width_at job offset
  pub some : 1 ≤ weight_at job offset
  pub few : (byte_at job offset ≡ 0 → ⊥) → (counts_behind job offset counts).commands ≤ 4096
  pub chained : (byte_at job offset ≡ 0 → ⊥) → Chained h (placed_in (entry_at job offset h))

-- another command than settings stands behind them
pub settings_there : (byte : ℕ) → eqb byte 1 ≡ false → (o : Option Settings) → misplaced byte (given o) ≡ false → missing o ≡ false
unfolding misplaced
settings_there byte b None e = rw b at e
settings_there byte b (Some s) e = refl

-- a command that is no end is not the 4,097th
pub count_below : (byte count : ℕ) → (byte ≡ 0 → ⊥) → too_many byte count ≡ false → count < 4096
unfolding too_many
count_below byte count z e = leb-false 4096 count (rw (ne_eqb byte 0 z) at e)

pub limit_kept : (storeys count : ℕ) → passes_limit storeys count ≡ false → count + storeys ≤ 4096
unfolding passes_limit
limit_kept storeys count e = ltb-false 4096 (count + storeys) e

-- a command that begins no 17th building leaves 16 at most
pub begun_few : (byte buildings : ℕ) → buildings ≤ 16 → seventeenth byte buildings ≡ false → cond (is_building byte) (buildings + 1) buildings ≤ 16
unfolding seventeenth
begun_few byte buildings l = by (is_building byte)
  where
    by : (k : Bool) → (k && leb 16 buildings) ≡ false → cond k (buildings + 1) buildings ≤ 16
    by true e = omega (arith, leb-false 16 buildings e)
    by false e = l

-- and one that is no 0D begins none
pub none_begun : (byte buildings : ℕ) → is_building byte ≡ false → seventeenth byte buildings ≡ false
unfolding seventeenth
none_begun byte buildings e = rw e

-- the storeys of a block: settings and a wall base are given, and a storey leaves both
storeys_chained : (h : Context) → misplaced 7 (given h.settings) ≡ false → missing h.wall ≡ false → (at : ℕ) (ss : List Storey) → all_in_range ss ≡ true → Chained h (place_each h (storeys_from at ss))
unfolding next absent
storeys_chained h g w at [] r = tt
storeys_chained h g w at (s ∷ ss) r =
    let e = each_in_range s ss r in
    (refl, record { other = λ z. omega arith; settings = g; range = e.0; present = w }, storeys_chained h g w (at + 24) ss e.1)

module _ (job : List ℕ) (offset : ℕ) (counts : Counts) (h : Context) (z : fault_at job offset counts h ≡ 0) where
  one_passed : is_block (byte_at job offset) ≡ false → Passed job offset counts h
  one_passed b =
      let f = faultless job offset counts h b z in
      let e = at_one job offset b in
      let byte : byte_of (command_at job offset) ≡ byte_at job offset = byte_read job offset f.known_byte in
      let one : weight_at job offset ≡ 1 = ap (λ (c : FileCommand). length (given_by c)) e in
      record {
        whole = f.whole;
        width = width_read job offset (λ e. f.known_byte);
        some = omega (arith, one);
        few = λ o. omega (arith, one, count_below (byte_at job offset) counts.commands o f.few);
        chained = λ o. rw e (
          refl,
          record { other = λ k. o (sym byte ∙ k); settings = ap (λ (k : ℕ). misplaced k (given h.settings)) byte ∙ f.settings; range = f.range; present = f.present },
          tt,
        );
      }

  block_passed : is_block (byte_at job offset) ≡ true → Passed job offset counts h
  unfolding misplaced
  block_passed b =
      let f = block_faultless job offset counts h b z in
      let e = at_block job offset b in
      let n = count_range (count_at job offset) f.count_in_range_lem in
      let many : weight_at job offset ≡ count_at job offset =
      ap (λ (c : FileCommand). length (given_by c)) e ∙ length-map (sets_of job offset) (λ s. storey s) ∙ storeys_length (count_at job offset) job (offset + 2) in
      record {
        whole = f.whole;
        width = width_read job offset (λ e. absurd (differ (sym b ∙ e)));
        some = omega (arith, many, n.0);
        few = λ o. omega (arith, many, limit_kept (count_at job offset) counts.commands f.few);
        chained = λ o. rw e (storeys_chained h (no_settings (byte_at job offset) (given h.settings) b f.settings) f.base (offset + 2) (sets_of job offset) f.range);
      }
    where
      no_settings : (byte : ℕ) (g : Bool) → is_block byte ≡ true → misplaced byte g ≡ false → misplaced 7 g ≡ false
      no_settings byte true k e = refl
      no_settings byte false k e = absurd (settings_missing byte k e)
        where
          settings_missing : (byte : ℕ) → is_block byte ≡ true → misplaced byte false ≡ false → ⊥
          settings_missing byte k e = let q = eqb-true byte 11 k in differ (rw q at e)

  pub passed : Passed job offset counts h
  passed = by (is_block (byte_at job offset)) refl
    where
      by : (k : Bool) → is_block (byte_at job offset) ≡ k → Passed job offset counts h
      by true e = block_passed e
      by false e = one_passed e

  -- its byte is known
  pub known_at : KnownAt job offset
  known_at b = (faultless job offset counts h b z).known_byte

  -- its end is where the next command begins
  pub end_of_lem : end_of (entry_at job offset h) ≡ after_command job offset
  end_of_lem = ap (λ (n : ℕ). offset + n) passed.width
