-- Strengthening can be relied on: of two accepted jobs alike but for a greater VR of a column, a beam or a member without hinges, one row
-- alone differs, and there the demand is equal and a passed shear stays passed; and with VR in its range the second is accepted. 02,
-- No. 11. Assumes nothing.
use mathlib.Core.Path.{◌≡◌, refl, sym, ap, ap₂, ◌∙◌, subst}
use mathlib.Core.List.{List}
use Rattle.std.specs.Prelude.{None, Some}
use Prim.Native.Nat.{ℕ, ◌+◌, ◌*◌, ◌≤◌, ◌<◌}
use native.Mathlib.Omega.{arith}
use lib.IntN.{ℤ}
use lib.ListN.{length}
use Rattle.layout.proofs.Numbers.{Bytes}
use Rattle.walls.specs.declared.Storey.{Storey}
use Rattle.format.specs.declared.Command.{Command}
use Rattle.format.specs.declared.Command.TheVariants.{Column as column, Beam as beam, Hingeless as hingeless, Storey as storey}
use Rattle.format.specs.Commands.{byte_of}
use Rattle.blocks.specs.FileCommands.{width_of}
use Rattle.job.specs.Answers.{size_of}
use Rattle.job.specs.Placed.{Placed, Entry, placed_all, accepted, listed, all_rows}
use Rattle.job.proofs.PlacedCases.{listed_of}
use Rattle.job.proofs.Located.{within}
use Rattle.layout.proofs.OperandsRead.{offset_in_command}
use Rattle.capacity.proofs.Ranges.{same_some}
use Rattle.strengthening.specs.Raised.{Strength, begins, value, Raised, OneStronger}
use Rattle.strengthening.specs.Members.{VR_of, Member, MembersStrengthened, StillAccepted, IsRaised, CanBeRaised}
use Rattle.strengthening.specs.Others.{rows_count, Strengthened}
use Rattle.strengthening.proofs.Given.{Given, whole_first}
use Rattle.strengthening.proofs.Strengths.{IsStrength}
use Rattle.strengthening.proofs.ReadRaised.{FourBytes}
use Rattle.strengthening.proofs.Overwritten.{overwritten_bytes, written, overwritten_raised}
use Rattle.strengthening.proofs.MemberStrengths.{column_VR, beam_VR, hingeless_VR}
use Rattle.strengthening.proofs.Single.{at_command, single_strengthened}
use Rattle.strengthening.proofs.ByItself.{ByItself, by_itself}

none_is_not_some : {A : Type 0} (x : A) → None ≡ Some x → ⊥
none_is_not_some x q = cc

module _ {first : List ℕ} (b1 : Bytes first) {VR : Strength} (m : Member first VR) where
  no_storey : (s : Storey) → m.this.command ≡ storey s → ⊥
  no_storey s q = none_is_not_some VR (sym (ap (λ (c : Command). VR_of c m.this.offset) q) ∙ m.its_VR)

  listing : (es : List Entry) × (listed first ≡ accepted es) × (placed_all es ≡ m.commands)
  listing = listed_of first m.commands m.is_accepted

  found : ByItself listing.0 m.earlier m.this
  found = by_itself listing.0 m.earlier m.this (within listing.0 m.earlier m.this m.later (listing.2 ∙ m.place)) no_storey

  abbrev given : Given first found.before found.entry
  given = record { bytes = b1; among = record { commands = listing.0; is_accepted = listing.1; after = found.after; place = found.place } }

  -- VR is a strength of the command of the file that gives the member, of which its row tells
  record IsVR : Type 0 where
    pub index : ℕ
    pub word : ℕ
    pub is_strength : IsStrength (byte_of m.this.command) index 0 word 1
    pub are_same : VR ≡ at_command (byte_of m.this.command) found.entry.offset index word 1

  strength : IsVR
  strength = by m.this.command refl
    where
      told : (byte index word : ℕ) → byte_of m.this.command ≡ byte → IsStrength byte index 0 word 1 → VR_of m.this.command m.this.offset ≡ Some (at_command byte m.this.offset index word 1) → IsVR
      told byte index word b k q =
          record {
            index = index;
            word = word;
            is_strength = rw b k;
            are_same = same_some VR (at_command byte m.this.offset index word 1) (sym m.its_VR ∙ q) ∙ ap₂ (λ (z at : ℕ). at_command z at index word 1) (sym b) (sym found.offset);
          }

      by : (c : Command) → m.this.command ≡ c → IsVR
      by (column c) q = told 3 6 3 (ap byte_of q) column_VR (ap (λ (z : Command). VR_of z m.this.offset) q)
      by (beam c) q = told 4 7 4 (ap byte_of q) beam_VR (ap (λ (z : Command). VR_of z m.this.offset) q)
      by (hingeless id1 id2 c) q = told 5 6 4 (ap byte_of q) hingeless_VR (ap (λ (z : Command). VR_of z m.this.offset) q)
      by _ q = absurd (none_is_not_some VR (sym (ap (λ (z : Command). VR_of z m.this.offset) q) ∙ m.its_VR))

  -- the same at the command of the file
  abbrev its : Strength
  its = at_command (byte_of m.this.command) found.entry.offset strength.index strength.word 1

  module _ {second : List ℕ} (b2 : Bytes second) (r : Raised first second VR) where
    here : Raised first second its
    here = subst (Raised first second) strength.are_same r

    -- at the command of the file
    from_file : Strengthened OneStronger first second (rows_count listing.0) (rows_count found.before + 0) its
    from_file = single_strengthened given b2 m.this.command found.given strength.is_strength here

    still : value second VR ≤ 100000000 → size_of second ≡ size_of first
    still l = from_file.still_accepted (subst (λ (z : Strength). value second z ≤ 100000000) strength.are_same l)

    rows_are : rows_count listing.0 ≡ length (all_rows m.commands)
    rows_are = ap (λ (xs : List Placed). length (all_rows xs)) listing.2

    row_is : rows_count found.before + 0 ≡ length (all_rows m.earlier)
    row_is = omega (arith, ap (λ (xs : List Placed). length (all_rows xs)) found.earlier_are)

    member : (fs : List Entry) → listed second ≡ accepted fs → (lent other : List ℤ) → 8 * length (all_rows m.commands) ≤ length lent → 8 * length (all_rows m.commands) ≤ length other →
        OneStronger first second lent other (length (all_rows m.commands)) (length (all_rows m.earlier)) VR
    member fs a lent other room1 room2 =
        subst (OneStronger first second lent other (length (all_rows m.commands)) (length (all_rows m.earlier))) (sym strength.are_same)
        (subst (λ (n : ℕ). OneStronger first second lent other (length (all_rows m.commands)) n its) row_is
        (subst (λ (n : ℕ). OneStronger first second lent other n (rows_count found.before + 0) its) rows_are (from_file.runs fs a lent other (rw rows_are room1) (rw rows_are room2))))

  -- ---- such a job is had by writing a greater VR over the first

  four : FourBytes VR
  four = subst FourBytes (sym strength.are_same) strength.is_strength.operand.four

  inside : begins VR + 4 ≤ length first
  inside =
      omega (
        arith,
        ap begins strength.are_same,
        whole_first given,
        ap width_of found.given,
        offset_in_command (byte_of m.this.command) strength.index strength.is_strength.operand.among,
        strength.is_strength.operand.four,
      )

  raised_to : (n : ℕ) → value first VR < n → n ≤ 100000000 → IsRaised first VR n
  raised_to n g l =
      let r = overwritten_raised first VR n inside four g (omega arith) in
      let w = written first VR n inside four (omega arith) in
      record { raised = r; written = w; still_accepted = still (overwritten_bytes first VR n b1) r (omega (arith, w)) }

pub members_strengthened : (first second : List ℕ) → Bytes first → Bytes second → MembersStrengthened first second
members_strengthened first second b1 b2 VR m qs a r lent other room1 room2 =
    let (fs, l, q) = listed_of second qs a in member b1 m b2 r fs l lent other room1 room2

pub members_accepted : (first second : List ℕ) → Bytes first → Bytes second → StillAccepted first second
members_accepted first second b1 b2 VR m r l = still b1 m b2 r l

pub members_raised : (first : List ℕ) → Bytes first → CanBeRaised first
members_raised first b VR m n g l = raised_to b m n g l
