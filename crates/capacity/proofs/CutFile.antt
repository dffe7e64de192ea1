-- The commands of a file cut at each 0D: those of a building pass alone, whatever stands before them, and their rows move with the offset
-- of the first. 02, No. 10. Assumes nothing.
use mathlib.Core.Path.{◌≡◌, refl, sym, ap, ap₂, ◌∙◌}
use mathlib.Core.Bool.{Bool, true, false, not, ◌&&◌, cond}
use mathlib.Core.List.{List, [], ◌∷◌, ◌++◌, map}
use Rattle.std.proofs.lemmas.List.{map-append}
use Rattle.std.proofs.Math.IntN.{pos-+ℤ-pos}
use Prim.Native.Nat.{ℕ, ◌+◌, ◌≤◌}
use native.Mathlib.Omega.{arith}
use lib.Dec.{eqb, leb}
use lib.IntN.{ℤ, pos}
use lib.ListN.{length, length-append}
use borrow.Author.Tests.{le-ltb, lt-leb, leb-false}
use Rattle.claims.specs.declared.Row.{Row}
use Rattle.walls.specs.declared.Storey.{Storey}
use Rattle.format.specs.declared.Command.{Command}
use Rattle.format.specs.declared.Command.TheVariants.{Building as building}
use Rattle.format.specs.Commands.{byte_of}
use Rattle.layout.specs.Layouts.{operands_width, forms_of, forms_in, width_of_all}
use Rattle.blocks.specs.FileCommands.{FileCommand, one, block, file_byte_of, width_of, storeys_from, commands_from, given}
use Rattle.writing.specs.Bytes.{file_bytes_of}
use Rattle.writing.specs.Files.{all_bytes}
use Rattle.writing.proofs.Answered.{file_bytes_width}
use Rattle.context.specs.Context.{Context, nothing, next, given as is_given}
use Rattle.rows.specs.Rows.{rows_of, rows_with, row_words, words}
use Rattle.job.specs.declared.Counts.{Counts}
use Rattle.job.specs.Counts.{counted}
use Rattle.job.specs.Faults.{is_building, too_many, misplaced, passes_limit}
use Rattle.job.specs.Placed.{place_each, Entry, placed_all, all_rows}
use Rattle.rows.proofs.RowsSame.{no_rows}
use Rattle.job.proofs.Faultless.{begun_few, none_begun, limit_kept}
use Rattle.job.proofs.AlreadyMet.{rows_of_both, placed_both}
use Rattle.job.proofs.Passing.{PassesAt, Passes, EndPasses, through}
use Rattle.capacity.specs.Buildings.{begun_at, moved}
use Rattle.capacity.proofs.FileListed.{entries_from}

-- ---- cut

-- none of these commands begins another building
abbrev pub NoneBegins : List FileCommand → Type 0
NoneBegins [] = Unit {0}
NoneBegins (c ∷ cs) = (is_building (file_byte_of c) ≡ false) × NoneBegins cs

abbrev pub NoneOfAll : List (List FileCommand) → Type 0
NoneOfAll [] = Unit {0}
NoneOfAll (cs ∷ css) = NoneBegins cs × NoneOfAll css

-- the commands of a first building, and of those behind it, each begun by a 0D
abbrev pub joined_by_0D : List FileCommand → List (List FileCommand) → List FileCommand
joined_by_0D own [] = own
joined_by_0D own (more ∷ rest) = own ++ one building ∷ joined_by_0D more rest

pub record Cut (cs : List FileCommand) : Type 0 where
  pub own : List FileCommand
  pub rest : List (List FileCommand)
  pub is : cs ≡ joined_by_0D own rest
  pub none_own : NoneBegins own
  pub none_rest : NoneOfAll rest

only_building : (c : Command) → is_building (byte_of c) ≡ true → c ≡ building
only_building building e = refl
only_building _ e = cc

the_building : (c : FileCommand) → is_building (file_byte_of c) ≡ true → c ≡ one building
the_building (one c) e = ap one (only_building c e)
the_building (block ss) e = cc

-- every list of commands is cut so
pub cut : (cs : List FileCommand) → Cut cs
cut [] = record { own = []; rest = []; is = refl; none_own = tt; none_rest = tt }
cut (c ∷ cs) = by (is_building (file_byte_of c)) refl (cut cs)
  where
    first : (rest : List (List FileCommand)) (own : List FileCommand) → c ∷ joined_by_0D own rest ≡ joined_by_0D (c ∷ own) rest
    first [] own = refl
    first (more ∷ rest) own = refl

    by : (k : Bool) → is_building (file_byte_of c) ≡ k → Cut cs → Cut (c ∷ cs)
    by true e r = record { own = []; rest = r.own ∷ r.rest; is = ap₂ ◌∷◌ (the_building c e) r.is; none_own = tt; none_rest = (r.none_own, r.none_rest) }
    by false e r = record { own = c ∷ r.own; rest = r.rest; is = ap (λ (l : List FileCommand). c ∷ l) r.is ∙ first r.rest r.own; none_own = (e, r.none_own); none_rest = r.none_rest }

-- ---- they pass alone

few_too : (byte count fewer : ℕ) → fewer ≤ count → too_many byte count ≡ false → too_many byte fewer ≡ false
unfolding too_many
few_too byte count fewer l = by (eqb byte 0)
  where
    by : (z : Bool) → (not z && leb 4096 count) ≡ false → (not z && leb 4096 fewer) ≡ false
    by true e = refl
    by false e = lt-leb 4096 fewer (omega (arith, leb-false 4096 count e))

block_few : (storeys count fewer : ℕ) → fewer ≤ count → passes_limit storeys count ≡ false → passes_limit storeys fewer ≡ false
unfolding passes_limit
block_few storeys count fewer l e = le-ltb 4096 (fewer + storeys) (omega (arith, limit_kept storeys count e))

-- what passes behind commands and is no 0D passes behind fewer, whatever buildings are counted
fewer_passes : (counts fewer : Counts) (h : Context) (c : FileCommand) → is_building (file_byte_of c) ≡ false → fewer.commands ≤ counts.commands → PassesAt counts h c → PassesAt fewer h c
fewer_passes counts fewer h (one c) b l p =
    record {
      other = p.other;
      few = few_too (byte_of c) counts.commands fewer.commands l p.few;
      buildings = none_begun (byte_of c) fewer.buildings b;
      settings = p.settings;
      range = p.range;
      present = p.present;
    }
fewer_passes counts fewer h (block ss) b l p =
    record { count_in_range_lem = p.count_in_range_lem; few = block_few (length ss) counts.commands fewer.commands l p.few; settings = p.settings; base = p.base; range = p.range }

-- an end may stand where a 0D stands
end_for_building : (g : Bool) → misplaced 13 g ≡ false → misplaced 0 g ≡ false
unfolding misplaced
end_for_building true e = refl
end_for_building false e = e

abbrev pub EndsBefore : List FileCommand → Type 0
EndsBefore tail = (counts : Counts) (h : Context) → Passes counts h tail → EndPasses h

pub at_end : EndsBefore []
at_end counts h p = p

pub at_building : (cs : List FileCommand) → EndsBefore (one building ∷ cs)
at_building cs counts h (o, p) = end_for_building (is_given h.settings) o.settings

pub alone_passes : (own tail : List FileCommand) → NoneBegins own → EndsBefore tail → (counts fewer : Counts) (h : Context) → fewer.commands ≤ counts.commands → Passes counts h (own ++ tail) → Passes fewer h own
alone_passes [] tail n t counts fewer h l p = t counts h p
alone_passes (c ∷ own) tail (n, ns) t counts fewer h l (o, p) =
    (fewer_passes counts fewer h c n l o, alone_passes own tail ns t (counted counts c) (counted fewer c) (through h (given c)) (omega arith) p)

-- those behind the 0D pass from nothing on
pub behind_passes : (own rest : List FileCommand) (counts : Counts) (h : Context) → Passes counts h (own ++ one building ∷ rest) → (later : Counts) × Passes later nothing rest
unfolding next
behind_passes [] rest counts h (o, p) = (counted counts (one building), p)
behind_passes (c ∷ own) rest counts h (o, p) = behind_passes own rest (counted counts c) (through h (given c)) p

-- ---- the entries, and their rows

-- what holds behind commands
abbrev pub context_behind_all : Context → List FileCommand → Context
context_behind_all h [] = h
context_behind_all h (c ∷ cs) = context_behind_all (through h (given c)) cs

pub entries_both : (at : ℕ) (h : Context) (cs ds : List FileCommand) → entries_from at h (cs ++ ds) ≡ entries_from at h cs ++ entries_from (at + length (all_bytes cs)) (context_behind_all h cs) ds
unfolding all_bytes
entries_both at h [] ds = let e : at + 0 ≡ at = omega arith in rw e
entries_both at h (c ∷ cs) ds =
    let e : at + width_of c + length (all_bytes cs) ≡ at + length (file_bytes_of c ++ all_bytes cs) = omega (arith, file_bytes_width c, length-append (file_bytes_of c) (all_bytes cs)) in
    ap (λ (es : List Entry). record { offset = at; given = c; context = h } ∷ es)
    (entries_both (at + width_of c) (through h (given c)) cs ds
    ∙ ap (λ (k : ℕ). entries_from (at + width_of c) (through h (given c)) cs ++ entries_from k (context_behind_all (through h (given c)) cs) ds) e)

pub none_begun_at : (at : ℕ) (h : Context) (cs : List FileCommand) → NoneBegins cs → (es : List Entry) → begun_at (entries_from at h cs ++ es) ≡ begun_at es
none_begun_at at h [] n es = refl
none_begun_at at h (c ∷ cs) (n, ns) es = rw n (none_begun_at (at + width_of c) (through h (given c)) cs ns es)

-- commands further on
abbrev further : ℕ → List (ℕ × Command) → List (ℕ × Command)
further by [] = []
further by ((at, c) ∷ cs) = (by + at, c) ∷ further by cs

storeys_further : (by at : ℕ) (ss : List Storey) → storeys_from (by + at) ss ≡ further by (storeys_from at ss)
storeys_further by at [] = refl
storeys_further by at (s ∷ ss) =
    let e : by + at + 24 ≡ by + (at + 24) = omega arith in
    ap₂ ◌∷◌ refl (ap (λ (k : ℕ). storeys_from k ss) e ∙ storeys_further by (at + 24) ss)

commands_further : (by at : ℕ) (c : FileCommand) → commands_from (by + at) c ≡ further by (commands_from at c)
commands_further by at (one c) = refl
commands_further by at (block ss) = let e : by + at + 2 ≡ by + (at + 2) = omega arith in ap (λ (k : ℕ). storeys_from k ss) e ∙ storeys_further by (at + 2) ss

-- the rows of commands further on are moved
own_moved : (by at byte : ℕ) (rows : List Row) → map (words (by + at) byte) rows ≡ map (moved by) (map (words at byte) rows)
own_moved by at byte [] = refl
own_moved by at byte (r ∷ rs) =
    let e : by + at ≡ at + by = omega arith in
    ap₂ ◌∷◌ (ap (λ (k : ℤ). k ∷ pos byte ∷ row_words r) (ap pos e ∙ sym (pos-+ℤ-pos at by))) (own_moved by at byte rs)

given_moved : (by : ℕ) (h : Context) (cs : List (ℕ × Command)) → all_rows (place_each h (further by cs)) ≡ map (moved by) (all_rows (place_each h cs))
unfolding all_rows
given_moved by h [] = refl
given_moved by h ((at, c) ∷ cs) =
    let own = map (words at (byte_of c)) (rows_of h c) in
    ap₂ ◌++◌ (own_moved by at (byte_of c) (rows_of h c)) (given_moved by (next h c) cs) ∙ sym (map-append (moved by) own (all_rows (place_each (next h c) cs)))

-- the rows of these commands, the first at an offset with this context
abbrev pub rows_made : ℕ → Context → List FileCommand → List (List ℤ)
rows_made at h cs = all_rows (placed_all (entries_from at h cs))

first_rows : (at : ℕ) (h : Context) (c : FileCommand) (cs : List FileCommand) → rows_made at h (c ∷ cs) ≡ all_rows (place_each h (commands_from at c)) ++ rows_made (at + width_of c) (through h (given c)) cs
first_rows at h c cs = rows_of_both (place_each h (commands_from at c)) (placed_all (entries_from (at + width_of c) (through h (given c)) cs))

pub rows_moved : (by at : ℕ) (h : Context) (cs : List FileCommand) → rows_made (by + at) h cs ≡ map (moved by) (rows_made at h cs)
unfolding all_rows
rows_moved by at h [] = refl
rows_moved by at h (c ∷ cs) =
    let e : by + at + width_of c ≡ by + (at + width_of c) = omega arith in
    first_rows (by + at) h c cs
    ∙ ap₂ ◌++◌ (ap (λ (l : List (ℕ × Command)). all_rows (place_each h l)) (commands_further by at c) ∙ given_moved by h (commands_from at c))
    (ap (λ (k : ℕ). rows_made k (through h (given c)) cs) e ∙ rows_moved by (at + width_of c) (through h (given c)) cs)
    ∙ sym (map-append (moved by) (all_rows (place_each h (commands_from at c))) (rows_made (at + width_of c) (through h (given c)) cs))
    ∙ ap (map (moved by)) (sym (first_rows at h c cs))

-- a 0D has none
pub building_rows : (at : ℕ) (h : Context) (cs : List FileCommand) → rows_made at h (one building ∷ cs) ≡ rows_made (at + 1) nothing cs
unfolding all_rows rows_of rows_with next operands_width forms_of forms_in width_of_all
building_rows at h cs = first_rows at h (one building) cs ∙ rw (no_rows h.settings)

-- the rows of a list, part by part
pub rows_both : (at : ℕ) (h : Context) (cs ds : List FileCommand) → rows_made at h (cs ++ ds) ≡ rows_made at h cs ++ rows_made (at + length (all_bytes cs)) (context_behind_all h cs) ds
rows_both at h cs ds =
    ap (λ (es : List Entry). all_rows (placed_all es)) (entries_both at h cs ds)
    ∙ ap all_rows (placed_both (entries_from at h cs) (entries_from (at + length (all_bytes cs)) (context_behind_all h cs) ds))
    ∙ rows_of_both (placed_all (entries_from at h cs)) (placed_all (entries_from (at + length (all_bytes cs)) (context_behind_all h cs) ds))

-- ---- at most 16

-- a command that passes leaves 16 buildings at most
few_behind : (counts : Counts) (h : Context) (c : FileCommand) → counts.buildings ≤ 16 → PassesAt counts h c → (counted counts c).buildings ≤ 16
few_behind counts h (one c) l p = begun_few (byte_of c) counts.buildings l p.buildings
few_behind counts h (block ss) l p = l

pub few_begun : (counts : Counts) (at : ℕ) (h : Context) (cs : List FileCommand) → counts.buildings ≤ 16 → Passes counts h cs → counts.buildings + length (begun_at (entries_from at h cs)) ≤ 16
few_begun counts at h [] l p = omega arith
few_begun counts at h (c ∷ cs) l (o, p) =
    by (is_building (file_byte_of c)) (begun_at (entries_from (at + width_of c) (through h (given c)) cs))
    (few_begun (counted counts c) (at + width_of c) (through h (given c)) cs (few_behind counts h c l o) p)
  where
    by : (k : Bool) (rest : List ℕ) → cond k (counts.buildings + 1) counts.buildings + length rest ≤ 16 → counts.buildings + length (cond k (at ∷ rest) rest) ≤ 16
    by true rest m = omega (arith, m)
    by false rest m = m
