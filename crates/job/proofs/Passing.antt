-- Commands of a file that pass the tests, by their values alone: the tests of a command that stands whole in a job, and that a block
-- passes exactly where its storeys given singly do. 02, No. 7. Assumes nothing.
use mathlib.Core.Path.{◌≡◌, refl, sym, ap, ◌∙◌, subst}
use mathlib.Core.Bool.{Bool, true, false}
use mathlib.Core.List.{List, [], ◌∷◌, ◌++◌, map}
use Prim.Native.Nat.{ℕ, ◌+◌, ◌≤◌, ◌<◌}
use native.Mathlib.Omega.{arith}
use native.Mathlib.Nat.{add-zero}
use lib.ListN.{length, length-map}
use borrow.Author.Tests.{le-ltb, lt-leb, leb-false}
use Rattle.layout.specs.Layouts.{known}
use Rattle.layout.specs.Operands.{byte_at}
use Rattle.walls.specs.declared.Storey.{Storey}
use Rattle.format.specs.declared.Command.{Command}
use Rattle.layout.specs.Layouts.{forms_of, forms_in}
use Rattle.format.specs.declared.Command.TheVariants.{Finish as finish, Storey as storey}
use Rattle.format.specs.Commands.{byte_of, in_range, related, all_in_range as forms_in_range}
use Rattle.format.specs.Reading.{command_at}
use Rattle.blocks.specs.Sets.{is_block, count_at, count_in_range, sets_of, all_in_range}
use Rattle.blocks.specs.FileCommands.{FileCommand, one, block, file_byte_of, file_command_at, width_of, width_at, storeys_from, commands_from, given as given_by_command, singly}
use Rattle.format.proofs.OtherBytes.{byte_known}
use Rattle.blocks.proofs.Sets.{count_range, storeys_length, each_in_range}
use Rattle.blocks.proofs.FileCommands.{at_block, no_block, one_read, width_block}
use Rattle.context.specs.Context.{Context, next, given, missing, absent}
use Rattle.job.specs.declared.Counts.{Counts}
use Rattle.job.specs.Counts.{counted}
use Rattle.job.specs.Faults.{too_many, seventeenth, passes_limit, misplaced, after_command, command_tests, block_tests}
use Rattle.job.specs.Placed.{context_after, place_each}
use Rattle.job.proofs.PlacedCases.{fault_at, counts_behind, context_behind}
use Rattle.job.proofs.Faultless.{or_true, command_fault_lem, block_fault_lem, faultless, block_faultless, count_below, limit_kept, none_begun}

-- ---- the tests that depend on a command's values

-- a command by itself that is no end
pub record OnePasses (counts : Counts) (h : Context) (c : Command) : Type 0 where
  pub other : byte_of c ≡ 0 → ⊥
  pub few : too_many (byte_of c) counts.commands ≡ false
  pub buildings : seventeenth (byte_of c) counts.buildings ≡ false
  pub settings : misplaced (byte_of c) (given h.settings) ≡ false
  pub range : in_range c ≡ true
  pub present : absent h c ≡ false

pub record BlockPasses (counts : Counts) (h : Context) (ss : List Storey) : Type 0 where
  pub count_in_range_lem : count_in_range (length ss) ≡ true
  pub few : passes_limit (length ss) counts.commands ≡ false
  pub settings : misplaced 11 (given h.settings) ≡ false
  pub base : missing h.wall ≡ false
  pub range : all_in_range ss ≡ true

abbrev pub PassesAt : Counts → Context → FileCommand → Type 0
PassesAt counts h (one c) = OnePasses counts h c
PassesAt counts h (block ss) = BlockPasses counts h ss

-- what holds after commands, one after the other
abbrev pub through : Context → List Command → Context
through h [] = h
through h (c ∷ cs) = through (next h c) cs

-- an end passes where settings are given
abbrev pub EndPasses : Context → Type 0
EndPasses h = misplaced 0 (given h.settings) ≡ false

-- each passes, after those before it, and then the end
abbrev pub Passes : Counts → Context → List FileCommand → Type 0
Passes counts h [] = EndPasses h
Passes counts h (c ∷ cs) = PassesAt counts h c × Passes (counted counts c) (through h (given_by_command c)) cs

-- ---- a block, and its storeys singly

pub after_storeys : (h : Context) (ss : List Storey) → through h (map (λ s. storey s) ss) ≡ h
unfolding next
after_storeys h [] = refl
after_storeys h (s ∷ ss) = after_storeys h ss

-- settings are given, for a storey and for a block
settings_for : (g : Bool) → misplaced 11 g ≡ misplaced 7 g
unfolding misplaced
settings_for true = refl
settings_for false = refl

few_singly : (count : ℕ) → count < 4096 → too_many 7 count ≡ false
unfolding too_many
few_singly count l = lt-leb 4096 count l

few_of : (count : ℕ) → too_many 7 count ≡ false → count < 4096
unfolding too_many
few_of count e = leb-false 4096 count e

-- so many commands counted, with these buildings
abbrev pub so_many : ℕ → ℕ → Counts
so_many buildings count = record { commands = count; buildings = buildings }

module _ (h : Context) (ds : List FileCommand) (buildings : ℕ) where
  singly_pass : (count : ℕ) (ss : List Storey) → misplaced 7 (given h.settings) ≡ false → missing h.wall ≡ false → all_in_range ss ≡ true → count + length ss ≤ 4096 → Passes (so_many buildings (count + length ss)) h ds → Passes (so_many buildings count) h (singly ss ++ ds)
  unfolding next absent
  singly_pass count [] g w r l p = subst (λ (k : ℕ). Passes (so_many buildings k) h ds) (add-zero count) p
  singly_pass count (s ∷ ss) g w r l p =
      let e = each_in_range s ss r in
      let q : count + length (s ∷ ss) ≡ count + 1 + length ss = omega arith in
      (record { other = λ z. omega arith; few = few_singly count (omega arith); buildings = none_begun 7 buildings refl; settings = g; range = e.0; present = w }, singly_pass (count + 1) ss g w e.1 (omega arith) (subst (λ (k : ℕ). Passes (so_many buildings k) h ds) q p))

  -- what storeys that pass singly show
  record Shown (count : ℕ) (ss : List Storey) : Type 0 where
    pub few : count + length ss ≤ 4096
    pub range : all_in_range ss ≡ true
    pub rest : Passes (so_many buildings (count + length ss)) h ds

  singly_shown : (count : ℕ) (ss : List Storey) → count ≤ 4096 → Passes (so_many buildings count) h (singly ss ++ ds) → Shown count ss
  unfolding next all_in_range
  singly_shown count [] l p = record { few = omega arith; range = refl; rest = subst (λ (k : ℕ). Passes (so_many buildings k) h ds) (sym (add-zero count)) p }
  singly_shown count (s ∷ ss) l (o, p) =
      let m = few_of count o.few in
      let k = singly_shown (count + 1) ss (omega arith) p in
      let q : count + 1 + length ss ≡ count + length (s ∷ ss) = omega arith in
      record { few = omega (arith, k.few); range = rw o.range k.range; rest = subst (λ (j : ℕ). Passes (so_many buildings j) h ds) q k.rest }

  block_to_singly : (count : ℕ) (ss : List Storey) → Passes (so_many buildings count) h (block ss ∷ ds) → Passes (so_many buildings count) h (singly ss ++ ds)
  block_to_singly count ss (b, p) =
      singly_pass count ss (sym (settings_for (given h.settings)) ∙ b.settings) b.base b.range (limit_kept (length ss) count b.few)
      (subst (λ (g : Context). Passes (so_many buildings (count + length ss)) g ds) (after_storeys h ss) (subst (λ (k : ℕ). Passes (so_many buildings (count + k)) (through h (given_by_command (block ss))) ds) (length-map ss (λ s. storey s)) p))

  singly_to_block : (count : ℕ) (ss : List Storey) → count ≤ 4096 → count_in_range (length ss) ≡ true → Passes (so_many buildings count) h (singly ss ++ ds) → Passes (so_many buildings count) h (block ss ∷ ds)
  unfolding passes_limit absent
  singly_to_block count [] l r p = absurd (none (count_range 0 r).0)
    where
      none : 1 ≤ 0 → ⊥
      none z = omega arith
  singly_to_block count (s ∷ ss) l r p =
      let k = singly_shown count (s ∷ ss) l p in (
        record {
          count_in_range_lem = r;
          few = le-ltb 4096 (count + length (s ∷ ss)) k.few;
          settings = settings_for (given h.settings) ∙ p.0.settings;
          base = p.0.present;
          range = k.range;
        },
        subst (λ (g : Context). Passes (so_many buildings (count + length (given_by_command (block (s ∷ ss))))) g ds) (sym (after_storeys h (s ∷ ss)))
            (subst (λ (j : ℕ). Passes (so_many buildings (count + j)) h ds) (sym (length-map (s ∷ ss) (λ t. storey t))) k.rest),
      )

-- those that pass stay within the limit
pub kept_within : (counts : Counts) (h : Context) (c : FileCommand) → PassesAt counts h c → (counted counts c).commands ≤ 4096
kept_within counts h (one c) p = omega (arith, count_below (byte_of c) counts.commands p.other p.few)
kept_within counts h (block ss) p = omega (arith, length-map ss (λ s. storey s), limit_kept (length ss) counts.commands p.few)

-- the same behind commands in front
module _ (ss : List Storey) (ds : List FileCommand) where
  pub passes_singly : (counts : Counts) (h : Context) (cs : List FileCommand) → Passes counts h (cs ++ block ss ∷ ds) → Passes counts h (cs ++ (singly ss ++ ds))
  passes_singly counts h [] p = block_to_singly h ds counts.buildings counts.commands ss p
  passes_singly counts h (c ∷ cs) (o, p) = (o, passes_singly (counted counts c) (through h (given_by_command c)) cs p)

  pub passes_block : count_in_range (length ss) ≡ true → (counts : Counts) (h : Context) (cs : List FileCommand) → counts.commands ≤ 4096 → Passes counts h (cs ++ (singly ss ++ ds)) → Passes counts h (cs ++ block ss ∷ ds)
  passes_block r counts h [] l p = singly_to_block h ds counts.buildings counts.commands ss l r p
  passes_block r counts h (c ∷ cs) l (o, p) = (o, passes_block r (counted counts c) (through h (given_by_command c)) cs (kept_within counts h c o) p)

-- ---- of a command that stands whole in a job

pub record Whole (job : List ℕ) (at : ℕ) (c : FileCommand) : Type 0 where
  pub byte : byte_at job at ≡ file_byte_of c
  pub read : file_command_at job at ≡ c
  pub width : width_at job at ≡ width_of c
  pub whole : after_command job at ≤ length job

module _ (job : List ℕ) (at : ℕ) (c : Command) (w : Whole job at (one c)) where
  single : is_block (byte_at job at) ≡ false
  single = ap is_block w.byte ∙ no_block c

  command_is : command_at job at ≡ c
  command_is = one_read job at c w.read

  one_pass : (counts : Counts) (h : Context) → OnePasses counts h c → fault_at job at counts h ≡ 0
  unfolding command_tests
  one_pass counts h p =
      command_fault_lem job at counts h single
      ∙ rw (w.byte, byte_known c, le-ltb (length job) (after_command job at) w.whole, p.few, p.buildings, p.settings, command_is, p.range, p.present)

  one_passed : (counts : Counts) (h : Context) → (byte_of c ≡ 0 → ⊥) → fault_at job at counts h ≡ 0 → OnePasses counts h c
  one_passed counts h z e =
      let f = faultless job at counts h single e in
      record {
        other = z;
        few = ap (λ (b : ℕ). too_many b counts.commands) (sym w.byte) ∙ f.few;
        buildings = ap (λ (b : ℕ). seventeenth b counts.buildings) (sym w.byte) ∙ f.buildings;
        settings = ap (λ (b : ℕ). misplaced b (given h.settings)) (sym w.byte) ∙ f.settings;
        range = ap in_range (sym command_is) ∙ f.range;
        present = ap (absent h) (sym command_is) ∙ f.present;
      }

module _ (job : List ℕ) (at : ℕ) (ss : List Storey) (w : Whole job at (block ss)) where
  many : is_block (byte_at job at) ≡ true
  many = ap is_block w.byte

  sets_are : sets_of job at ≡ ss
  sets_are = let e : block (sets_of job at) ≡ block ss = sym (at_block job at many) ∙ w.read in cc

  count_is : count_at job at ≡ length ss
  count_is = sym (storeys_length (count_at job at) job (at + 2)) ∙ ap length sets_are

  many_pass : (counts : Counts) (h : Context) → BlockPasses counts h ss → fault_at job at counts h ≡ 0
  unfolding block_tests
  many_pass counts h p =
      let counted : at + 1 < length job = omega (arith, w.whole, width_block job at many) in
      block_fault_lem job at counts h many
      ∙ rw (
        many,
        or_true (known (byte_at job at)),
        lt-leb (length job) (at + 1) counted,
        sets_are,
        count_is,
        p.count_in_range_lem,
        le-ltb (length job) (after_command job at) w.whole,
        p.few,
        w.byte,
        p.settings,
        p.base,
        p.range,
      )

  many_passed : (counts : Counts) (h : Context) → fault_at job at counts h ≡ 0 → BlockPasses counts h ss
  many_passed counts h e =
      let f = block_faultless job at counts h many e in
      record {
        count_in_range_lem = ap count_in_range (sym count_is) ∙ f.count_in_range_lem;
        few = ap (λ (n : ℕ). passes_limit n counts.commands) (sym count_is) ∙ f.few;
        settings = ap (λ (b : ℕ). misplaced b (given h.settings)) (sym w.byte) ∙ f.settings;
        base = f.base;
        range = ap all_in_range (sym sets_are) ∙ f.range;
      }

pub tests_pass : (job : List ℕ) (at : ℕ) (counts : Counts) (h : Context) (c : FileCommand) → Whole job at c → PassesAt counts h c → fault_at job at counts h ≡ 0
tests_pass job at counts h (one c) w p = one_pass job at c w counts h p
tests_pass job at counts h (block ss) w p = many_pass job at ss w counts h p

pub tests_passed : (job : List ℕ) (at : ℕ) (counts : Counts) (h : Context) (c : FileCommand) → Whole job at c → (file_byte_of c ≡ 0 → ⊥) → fault_at job at counts h ≡ 0 → PassesAt counts h c
tests_passed job at counts h (one c) w z e = one_passed job at c w counts h z e
tests_passed job at counts h (block ss) w z e = many_passed job at ss w counts h e

-- an end passes where settings are given
module _ (job : List ℕ) (at : ℕ) (counts : Counts) (h : Context) (w : Whole job at (one finish)) where
  pub end_pass : EndPasses h → fault_at job at counts h ≡ 0
  unfolding command_tests too_many seventeenth absent in_range forms_in_range related forms_of forms_in
  end_pass g =
      command_fault_lem job at counts h (single job at finish w)
      ∙ rw (w.byte, byte_known finish, le-ltb (length job) (after_command job at) w.whole, g, command_is job at finish w)

  pub end_passed : fault_at job at counts h ≡ 0 → EndPasses h
  end_passed e = ap (λ (b : ℕ). misplaced b (given h.settings)) (sym w.byte) ∙ (faultless job at counts h (single job at finish w) e).settings

-- ---- the commands that are given, and what holds behind them

pub given_through : (h : Context) (at : ℕ) (c : FileCommand) → context_after h (place_each h (commands_from at c)) ≡ through h (given_by_command c)
given_through h at (one c) = refl
given_through h at (block ss) = sets (at + 2) h ss
  where
    sets : (at : ℕ) (h : Context) (ss : List Storey) → context_after h (place_each h (storeys_from at ss)) ≡ through h (map (λ s. storey s) ss)
    sets at h [] = refl
    sets at h (s ∷ ss) = sets (at + 24) (next h (storey s)) ss

module _ (job : List ℕ) (at : ℕ) (c : FileCommand) (w : Whole job at c) where
  pub counts_are : (counts : Counts) → counts_behind job at counts ≡ counted counts c
  counts_are counts = ap (counted counts) w.read

  pub context_is : (h : Context) → context_behind job at h ≡ through h (given_by_command c)
  context_is h = ap (λ (x : FileCommand). context_after h (place_each h (commands_from at x))) w.read ∙ given_through h at c

-- commands that pass are few enough
pub passes_few : (counts : Counts) (h : Context) (cs : List FileCommand) → counts.commands ≤ 4096 → Passes counts h cs → counts.commands + length cs ≤ 4096
passes_few counts h [] l p = omega arith
passes_few counts h (c ∷ cs) l (o, p) =
    let k = passes_few (counted counts c) (through h (given_by_command c)) cs (kept_within counts h c o) p in
    omega (arith, k, some_given counts h c o)
  where
    some_given : (counts : Counts) (h : Context) (c : FileCommand) → PassesAt counts h c → 1 ≤ length (given_by_command c)
    some_given counts h (one c) p = omega arith
    some_given counts h (block ss) p = omega (arith, length-map ss (λ s. storey s), (count_range (length ss) p.count_in_range_lem).0)
