-- The commands of a file with one of them another, which may stand where it stands: they pass too, and stand as they stood. Assumes nothing.
use mathlib.Core.Path.{◌≡◌, refl, sym, ap, ◌∙◌, subst}
use mathlib.Core.Bool.{true}
use mathlib.Core.List.{List, [], ◌∷◌, ◌++◌, append_assoc}
use Prim.Native.Nat.{ℕ, zero, suc, ◌+◌}
use native.Mathlib.Omega.{arith}
use lib.ListN.{length, length-append}
use Rattle.blocks.specs.FileCommands.{FileCommand, file_byte_of, width_of, given}
use Rattle.writing.specs.Bytes.{file_bytes_of}
use Rattle.writing.specs.Answers.{file_in_range}
use Rattle.writing.specs.Files.{Writable, AllWritable, all_bytes}
use Rattle.writing.proofs.Answered.{file_bytes_width}
use Rattle.context.specs.Context.{Context}
use Rattle.job.specs.declared.Counts.{Counts}
use Rattle.job.specs.Counts.{counted}
use Rattle.job.specs.Faults.{tests_at}
use Rattle.job.specs.Placed.{Entry, accepted, listed_by}
use Rattle.job.specs.Earlier.{widths_of}
use Rattle.job.proofs.PlacedCases.{not_both}
use Rattle.job.proofs.Passing.{PassesAt, Passes, through}
use Rattle.capacity.proofs.FileListed.{entries_from, rest_of, goes_passing, split}
use Rattle.capacity.proofs.WrittenAgain.{commands_of}
use Rattle.strengthening.proofs.AlikeContexts.{Alike, all_pass}

-- y may stand where x stands
pub record StandsFor (x y : FileCommand) : Type 0 where
  pub byte : file_byte_of y ≡ file_byte_of x
  pub width : width_of y ≡ width_of x
  pub counts : (counts : Counts) → counted counts y ≡ counted counts x
  pub leaves : (h : Context) → Alike (through h (given x)) (through h (given y))
  pub passes : (counts : Counts) (h : Context) → PassesAt counts h x → file_in_range y ≡ true → PassesAt counts h y

-- ---- commands, one of them another

-- the entry with another command
abbrev pub with_given : FileCommand → Entry → Entry
with_given y x = record { offset = x.offset; given = y; context = x.context }

-- what stands behind the entry, where the command is this one
abbrev pub entries_behind : FileCommand → Entry → List FileCommand → List Entry
entries_behind y x cs = entries_from (x.offset + width_of y) (through x.context (given y)) cs

pub swapped_entries : (x : Entry) (y : FileCommand) → (before after : List Entry) (at : ℕ) (h : Context) →
    before ++ x ∷ after ≡ entries_from at h (commands_of before ++ x.given ∷ commands_of after) →
    before ++ with_given y x ∷ entries_behind y x (commands_of after) ≡ entries_from at h (commands_of before ++ y ∷ commands_of after)
swapped_entries x y [] after at h e =
    let first : x ≡ record { offset = at; given = x.given; context = h } = cc in
    ap (λ (z : Entry). with_given y z ∷ entries_behind y z (commands_of after)) first
swapped_entries x y (b ∷ before) after at h e =
    let first : b ≡ record { offset = at; given = b.given; context = h } = cc in
    let rest : before ++ x ∷ after ≡ entries_from (at + width_of b.given) (through h (given b.given)) (commands_of before ++ x.given ∷ commands_of after) = cc in
    rw (swapped_entries x y before after (at + width_of b.given) (through h (given b.given)) rest, ← first)

-- the entry itself stands so
pub own_entries : (x : Entry) (before after : List Entry) (at : ℕ) (h : Context) → before ++ x ∷ after ≡ entries_from at h (commands_of before ++ x.given ∷ commands_of after) → after ≡ entries_behind x.given x (commands_of after)
own_entries x [] after at h e =
    let first : x ≡ record { offset = at; given = x.given; context = h } = cc in
    let rest : after ≡ entries_from (at + width_of x.given) (through h (given x.given)) (commands_of after) = cc in
    rest ∙ sym (ap (λ (z : Entry). entries_behind x.given z (commands_of after)) first)
own_entries x (b ∷ before) after at h e =
    let rest : before ++ x ∷ after ≡ entries_from (at + width_of b.given) (through h (given b.given)) (commands_of before ++ x.given ∷ commands_of after) = cc in
    own_entries x before after (at + width_of b.given) (through h (given b.given)) rest

pub swapped_pass : (x y : FileCommand) → StandsFor x y → file_in_range y ≡ true → (before after : List FileCommand) (counts : Counts) (h : Context) → Passes counts h (before ++ x ∷ after) → Passes counts h (before ++ y ∷ after)
swapped_pass x y s r [] after counts h (o, p) =
    (s.passes counts h o r, subst (λ (k : Counts). Passes k (through h (given y)) after) (sym (s.counts counts)) (all_pass after (counted counts x) (through h (given x)) (through h (given y)) (s.leaves h) p))
swapped_pass x y s r (b ∷ before) after counts h (o, p) = (o, swapped_pass x y s r before after (counted counts b) (through h (given b)) p)

pub swapped_writable : (x y : FileCommand) → Writable y → (before after : List FileCommand) → AllWritable (before ++ x ∷ after) → AllWritable (before ++ y ∷ after)
swapped_writable x y w [] after (o, ws) = (w, ws)
swapped_writable x y w (b ∷ before) after (o, ws) = (o, swapped_writable x y w before after ws)

-- the commands before x are as wide as their bytes
pub widths_are : (before : List Entry) → length (all_bytes (commands_of before)) ≡ widths_of before
unfolding all_bytes
widths_are [] = refl
widths_are (b ∷ before) = length-append (file_bytes_of b.given) (all_bytes (commands_of before)) ∙ omega (arith, file_bytes_width b.given, widths_are before)

-- ---- commands that are read before another, in a file that is accepted

-- from an offset on a file is accepted, with some counts and some context there
pub record AcceptedFrom (file : List ℕ) (at : ℕ) : Type 0 where
  pub left : ℕ
  pub counts : Counts
  pub context : Context
  pub later : List Entry
  pub accepts : listed_by tests_at left file at counts context ≡ accepted later

pub from_there : {file : List ℕ} {at : ℕ} {second : List ℕ} {here : ℕ} → AcceptedFrom file at → second ≡ file → here ≡ at → AcceptedFrom second here
from_there c e l = rw (e, l) c

pub accepted_behind : (before after : List FileCommand) → AllWritable before → (front : List ℕ) (n : ℕ) (counts : Counts) (h : Context) (es : List Entry) → listed_by tests_at n (front ++ rest_of (before ++ after)) (length front) counts h ≡ accepted es →
    AcceptedFrom (front ++ rest_of (before ++ after)) (length front + length (all_bytes before))
unfolding all_bytes listed_by
accepted_behind [] after w front n counts h es e =
    let z : length front ≡ length front + 0 = omega arith in
    record { left = n; counts = counts; context = h; later = es; accepts = subst (λ (k : ℕ). listed_by tests_at n (front ++ rest_of after) k counts h ≡ accepted es) z e }
accepted_behind (c ∷ before) after w front zero counts h es e = absurd (not_both e)
accepted_behind (c ∷ before) after (w, ws) front (suc n) counts h es e =
    let parts = split front c (before ++ after) in
    let p = goes_passing front c (before ++ after) w n counts h es (ap (λ (j : List ℕ). listed_by tests_at (suc n) j (length front) counts h) (sym parts) ∙ e) in
    let next = accepted_behind before after ws (front ++ file_bytes_of c) n (counted counts c) (through h (given c)) p.later p.rest in
    let far : length (front ++ file_bytes_of c) + length (all_bytes before) ≡ length front + length (file_bytes_of c ++ all_bytes before) = omega (arith, length-append front (file_bytes_of c), length-append (file_bytes_of c) (all_bytes before)) in
    subst (AcceptedFrom (front ++ rest_of (c ∷ before ++ after))) far (subst (λ (j : List ℕ). AcceptedFrom j (length (front ++ file_bytes_of c) + length (all_bytes before))) (append_assoc front (file_bytes_of c) (rest_of (before ++ after)) ∙ sym parts) next)
