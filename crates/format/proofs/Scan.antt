-- A loop over the operands of a command or a set that is out of range, over plain values: they are looked at one after the other until
-- the one at fault. Assumes nothing.
use mathlib.Core.Bool.{Bool, true, false, cond}
use mathlib.Core.List.{List}
use mathlib.Core.Path.{◌≡◌, refl, sym, ap, ◌∙◌, subst}
use Prim.Native.Nat.{ℕ, ◌+◌, ◌-◌, ◌≤◌, ◌<◌}
use native.Mathlib.Nat.{zero-add}
use native.Mathlib.Omega.{arith}
use native.Mathlib.Decide.{ℕ_discrete}
use lib.Dec.{eqb, lit≤}
use lib.ListN.{length, get_or, take, drop, length-drop}
use lib.Seq.{drop-drop}
use Rattle.std.specs.Prelude.{Some, None}
use Rattle.std.specs.Option.{unwrap_or}
use Rattle.layout.specs.declared.Form.{Form}
use Rattle.layout.specs.declared.Form.TheVariants.{Id}
use Rattle.layout.specs.declared.Kind.{Kind}
use Rattle.layout.specs.Number.{number}
use Rattle.layout.specs.Forms.{width, form_in_range}
use Rattle.layout.specs.Layouts.{known, forms_of, forms_in, operands_width, byte_of_kind}
use Rattle.layout.specs.Operands.{offset_of, operand, read_operands}
use Rattle.layout.proofs.Numbers.{Bytes}
use Rattle.layout.proofs.KnownBytes.{each_byte, no_forms}
use Rattle.layout.proofs.OperandsRead.{at as value_at, offset_first, offset_step, offset_in_command, operand_at, read_length, width_most}
use Rattle.format.specs.declared.Command.{Command}
use Rattle.format.specs.Commands.{byte_of, operands_of, command_of, relation_operand, relation_names, operand_at_fault}
use Rattle.format.proofs.CommandRead.{operands_made}
use Rattle.format.proofs.RoundTrip.{byte_back}
use Rattle.format.proofs.AtFault.{InBefore, operand_found, relation_found}

-- a place fits 32 bits
pub count_le : (byte : ℕ) → length (forms_of byte) ≤ 16
unfolding forms_of forms_in
count_le byte =
    each_byte (λ b. length (forms_of b) ≤ 16) (lit≤ tt) (lit≤ tt) (lit≤ tt) (lit≤ tt) (lit≤ tt) (lit≤ tt) (lit≤ tt) (lit≤ tt) (lit≤ tt) (lit≤ tt) (lit≤ tt) (lit≤ tt) (lit≤ tt)
    (λ b h. subst (λ (fs : List Form). length fs ≤ 16) (sym (no_forms b h)) (lit≤ tt)) byte

-- the operands of this byte's forms that start at an offset
abbrev pub operands_from : List ℕ → ℕ → ℕ → List ℕ
operands_from job byte start = read_operands (forms_of byte) (drop start job)

-- the first `place` operands of these bytes are in range, and the next is the first of the rest
pub record Scanning (bytes : List ℕ) (byte place : ℕ) (rest : List ℕ) : Type 0 where
  pub within : place ≤ length (forms_of byte)
  pub rest_is : rest ≡ drop (offset_of (forms_of byte) place) bytes
  pub ranged : InBefore (forms_of byte) (read_operands (forms_of byte) bytes) place

pub begins : (bytes : List ℕ) (byte : ℕ) → Scanning bytes byte 0 bytes
begins bytes byte =
    record {
      within = omega arith;
      rest_is = rw (offset_first (forms_of byte)) refl;
      ranged = λ k h. absurd (none k h);
    }
  where
    none : (k : ℕ) → k < 0 → ⊥
    none k h = omega arith

-- the command that has these operands
pub record Scanned (job : List ℕ) (byte start : ℕ) (c : Command) : Type 0 where
  pub byte_is : byte_of c ≡ byte
  pub operands : operands_of c ≡ operands_from job byte start

-- a command that is made of the operands alone has them
pub made_scanned : (k : Kind) (bytes : List ℕ) → known (byte_of_kind k) ≡ true → Bytes bytes → Scanned bytes (byte_of_kind k) 0 (command_of (byte_of_kind k) (operand (byte_of_kind k) bytes 0))
made_scanned k bytes o b =
    record {
      byte_is = byte_back (byte_of_kind k) (operand (byte_of_kind k) bytes 0) o;
      operands = operands_made (byte_of_kind k) bytes b;
    }

-- the operand that a relation names, or 0
pub named : (byte : ℕ) → unwrap_or (relation_operand byte) 0 ≡ relation_names byte
unfolding relation_operand relation_names
named byte = go (eqb byte 7) (eqb byte 8) (eqb byte 12)
  where
    go : (s t u : Bool) → ◌≡◌ {A = ℕ} (unwrap_or (cond s (Some 2) (cond t (Some 1) (cond u (Some 1) None))) 0) (cond s 2 (cond t 1 (cond u 1 0)))
    go true t u = refl
    go false true u = refl
    go false false true = refl
    go false false false = refl

-- ---- a step of the loop over the forms of a kind and the bytes of its operands

module _ (k : Kind) (bytes : List ℕ) (fs : List Form) (e : fs ≡ forms_of (byte_of_kind k)) (place : ℕ) (rest : List ℕ) (s : Scanning bytes (byte_of_kind k) place rest) where
  abbrev forms : List Form
  forms = forms_of (byte_of_kind k)

  abbrev command : Command
  command = command_of (byte_of_kind k) (operand (byte_of_kind k) bytes 0)

  module _ (l : place < length fs) (w : ℕ) (we : w ≡ width (get_or fs place Id)) where
    there : place < length forms
    there = rw e at l

    width_there : w ≡ width (get_or forms place Id)
    width_there = rw e at we

    -- the next operand is among the rest, and has 4 bytes at most
    pub step_fits : length bytes ≡ operands_width (byte_of_kind k) → w ≤ length rest
    step_fits h =
        let n : length rest ≡ length bytes - offset_of forms place = rw s.rest_is (length-drop (offset_of forms place) bytes) in
        omega (arith, n, width_there, offset_in_command (byte_of_kind k) place there)

    pub step_narrow : (n : ℕ) → n ≡ w → n ≤ 4
    step_narrow n h = omega (arith, width_there, width_most (get_or forms place Id))

    pub step_place : place < 16
    step_place = omega (arith, there, count_le (byte_of_kind k))

    module _ (value : ℕ) (v : value ≡ number (take w rest)) where
      -- it is the operand of the specification
      value_is : value ≡ value_at (read_operands forms bytes) place
      unfolding operand
      value_is =
          v
          ∙ ap (λ (n : ℕ). number (take n rest)) width_there
          ∙ ap (λ (b : List ℕ). number (take (width (get_or forms place Id)) b)) s.rest_is
          ∙ ap (λ (n : ℕ). number (take (width (get_or forms place Id)) (drop n bytes))) (sym (zero-add (offset_of forms place)))
          ∙ operand_at (byte_of_kind k) bytes 0 place there

      value_ranged : {t b : Bool} → t ≡ form_in_range (get_or fs place Id) value → t ≡ b → form_in_range (get_or forms place Id) (value_at (read_operands forms bytes) place) ≡ b
      value_ranged r f = rw (← value_is) (rw e at (sym r ∙ f))

      pub step_found : {t : Bool} → known (byte_of_kind k) ≡ true → Bytes bytes → t ≡ form_in_range (get_or fs place Id) value → t ≡ false → place ≡ operand_at_fault command
      step_found o b r f =
          let m = made_scanned k bytes o b in
          sym (operand_found command (byte_of_kind k) (read_operands forms bytes) m.byte_is m.operands (read_length forms bytes) place there s.ranged (value_ranged r f))

      pub step_on : {t : Bool} → t ≡ form_in_range (get_or fs place Id) value → t ≡ true → Scanning bytes (byte_of_kind k) (place + 1) (drop w rest)
      step_on r f =
          record {
            within = omega (arith, there);
            rest_is = rw (width_there, s.rest_is, offset_step forms place) (drop-drop (width (get_or forms place Id)) (offset_of forms place) bytes);
            ranged = λ k l. ranged k l (ℕ_discrete k place);
          }
        where
          ranged : (k : ℕ) → k < place + 1 → Dec (k ≡ place) → form_in_range (get_or forms k Id) (value_at (read_operands forms bytes) k) ≡ true
          ranged k l (yes q) = rw q (value_ranged r f)
          ranged k l (no q) = s.ranged k (omega arith)

  -- all are in range: the relation is broken
  pub scanned : known (byte_of_kind k) ≡ true → Bytes bytes → length fs ≤ place → operand_at_fault command ≡ relation_names (byte_of_kind k)
  scanned o b l =
      let m = made_scanned k bytes o b in
      let n : place ≡ length forms = omega (arith, s.within, rw e at l) in
      relation_found command (byte_of_kind k) (read_operands forms bytes) m.byte_is m.operands (read_length forms bytes) (rw n at s.ranged)
