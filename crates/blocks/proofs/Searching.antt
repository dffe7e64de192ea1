-- The loop over a block's sets, over plain values: those before are in range, so the operand at fault is among those left. Assumes
-- nothing.
use mathlib.Core.Bool.{Bool, true, false}
use mathlib.Core.List.{List, [], ◌∷◌}
use mathlib.Core.Path.{◌≡◌, refl, sym, ap, ◌∙◌}
use Prim.Native.Nat.{ℕ, zero, suc, ◌+◌, ◌-◌, ◌*◌, ◌/◌, ◌≤◌, ◌<◌}
use native.Mathlib.Nat.{not-suc-le-zero, add-zero}
use native.Mathlib.Omega.{arith}
use lib.Dec.{lit≤}
use lib.ListN.{length, get_or, take, drop, length-drop}
use lib.Seq.{drop-drop, length-take-le}
use Rattle.std.specs.Simd.{first_chunks}
use Rattle.std.specs.Prelude.{Some, None}
use Rattle.walls.specs.declared.Storey.{Storey}
use Rattle.format.specs.declared.Command.TheVariants.{Storey as storey}
use Rattle.format.specs.Commands.{in_range, operand_at_fault, storey_of, command_of}
use Rattle.format.proofs.CommandRead.{storey_within}
use Rattle.layout.specs.Layouts.{operands_width}
use Rattle.layout.specs.Operands.{operand}
use Rattle.layout.proofs.Widths.{widths}
use Rattle.blocks.specs.Sets.{storey_at, storeys_at, all_in_range, set_at_fault, operand_named}
use Rattle.blocks.proofs.Sets.{first_in_range, first_at_fault, fault_below}

-- a chunk of 24 bytes
pub chunk : (n : ℕ) (bytes : List ℕ) (i : ℕ) (d : List ℕ) → i < n → get_or (first_chunks 24 n bytes) i d ≡ take 24 (drop (24 * i) bytes)
chunk zero bytes i d l = absurd (not-suc-le-zero l)
chunk (suc n) bytes zero d l = refl
chunk (suc n) bytes (suc i) d l =
    let more : 24 + 24 * i ≡ 24 * suc i = omega arith in
    chunk n (drop 24 bytes) i d (omega arith) ∙ ap (λ (b : List ℕ). take 24 b) (drop-drop (24 * i) 24 bytes) ∙ ap (λ (k : ℕ). take 24 (drop k bytes)) more

-- the sets that are left
abbrev left : List ℕ → ℕ → ℕ → List Storey
left bytes count set = storeys_at (count - set) bytes (24 * set)

pub record Searching (bytes : List ℕ) (count set : ℕ) : Type 0 where
  pub range : all_in_range (storeys_at count bytes 0) ≡ all_in_range (left bytes count set)
  pub fault : set_at_fault (storeys_at count bytes 0) ≡ 6 * set + set_at_fault (left bytes count set)

pub search_begins : (bytes : List ℕ) (count : ℕ) → Searching bytes count 0
search_begins bytes count =
    let e : storeys_at count bytes 0 ≡ left bytes count 0 = ap (λ (n : ℕ). storeys_at n bytes 0) (omega arith) in
    record { range = ap all_in_range e; fault = omega (arith, ap set_at_fault e) }

module _ (bytes : List ℕ) (count set : ℕ) (s : Searching bytes count set) where
  module _ (l : set < count) where
    -- the next set, and those behind it
    split : left bytes count set ≡ storey_at bytes (24 * set) ∷ left bytes count (set + 1)
    unfolding storeys_at
    split =
        let e : count - set ≡ suc (count - (set + 1)) = omega arith in
        let next : 24 * set + 24 ≡ 24 * (set + 1) = omega arith in
        ap (λ (n : ℕ). storeys_at n bytes (24 * set)) e ∙ ap (λ (at : ℕ). storey_at bytes (24 * set) ∷ storeys_at (count - (set + 1)) bytes at) next

    pub searches_on : in_range (storey (storey_at bytes (24 * set))) ≡ true → Searching bytes count (set + 1)
    searches_on r =
        let f = first_in_range (storey_at bytes (24 * set)) (left bytes count (set + 1)) r in
        record { range = s.range ∙ ap all_in_range split ∙ f.0; fault = omega (arith, s.fault, ap set_at_fault split, f.1) }

    pub search_found : in_range (storey (storey_at bytes (24 * set))) ≡ false → (n : ℕ) → n ≡ 1 + 6 * set + operand_at_fault (storey (storey_at bytes (24 * set))) → Some n ≡ operand_named (storeys_at count bytes 0)
    unfolding operand_named
    search_found r n e =
        let f = first_at_fault (storey_at bytes (24 * set)) (left bytes count (set + 1)) r in
        let out : all_in_range (storeys_at count bytes 0) ≡ false = s.range ∙ ap all_in_range split ∙ f.0 in
        let m : n ≡ 1 + set_at_fault (storeys_at count bytes 0) = omega (arith, e, s.fault, ap set_at_fault split, f.1) in
        rw (out, m)

  all_ranged : count ≤ set → all_in_range (storeys_at count bytes 0) ≡ true
  unfolding storeys_at all_in_range
  all_ranged l =
      let e : count - set ≡ 0 = omega arith in
      s.range ∙ ap (λ (n : ℕ). all_in_range (storeys_at n bytes (24 * set))) e

  pub search_ends : count ≤ set → None ≡ operand_named (storeys_at count bytes 0)
  unfolding operand_named
  search_ends l = rw (all_ranged l)

-- ---- the set of a chunk

module _ (bytes : List ℕ) (chunks : List (List ℕ)) (set : ℕ) (f : chunks ≡ first_chunks 24 (length bytes / 24) bytes) (n : length chunks ≡ length bytes / 24) (l : set < length chunks) where
  pub below : set < length bytes / 24
  below = omega (arith, n)

  room : 24 * set + 24 ≤ length bytes
  room = omega (arith, below)

  here : get_or chunks set [] ≡ take 24 (drop (24 * set) bytes)
  here = rw f (chunk (length bytes / 24) bytes set [] below)

  pub width_here : length (get_or chunks set []) ≡ operands_width 7
  width_here = rw (here, widths.storey) (length-take-le 24 (drop (24 * set) bytes) (rw (length-drop (24 * set) bytes) (omega (arith, room))))

  made : command_of 7 (operand 7 (get_or chunks set []) 0) ≡ storey (storey_at bytes (24 * set))
  unfolding command_of storey_at
  made =
      ap (λ (b : List ℕ). command_of 7 (operand 7 b 0)) here
      ∙ ap (λ (s : Storey). storey s) (storey_within bytes (24 * set) 0 24 (lit≤ tt) ∙ ap (λ (at : ℕ). storey_of (operand 7 bytes at)) (add-zero (24 * set)))

  pub storey_here : {s : Storey} → storey s ≡ command_of 7 (operand 7 (get_or chunks set []) 0) → s ≡ storey_at bytes (24 * set)
  storey_here {s} h =
      let e : storey s ≡ storey (storey_at bytes (24 * set)) = h ∙ made in
      cc

  pub range_here : {s : Storey} {t b : Bool} → storey s ≡ command_of 7 (operand 7 (get_or chunks set []) 0) → t ≡ in_range (storey s) → t ≡ b → in_range (storey (storey_at bytes (24 * set))) ≡ b
  range_here {s} {t} {b} h e q = ap (λ (x : Storey). in_range (storey x)) (sym (storey_here h)) ∙ sym e ∙ q

  pub fault_here : (r : ℕ) → r ≡ operand_at_fault (command_of 7 (operand 7 (get_or chunks set []) 0)) → r ≡ operand_at_fault (storey (storey_at bytes (24 * set)))
  fault_here r e = e ∙ ap operand_at_fault made

  pub named_fits : (r : ℕ) → r ≡ operand_at_fault (command_of 7 (operand 7 (get_or chunks set []) 0)) → length bytes ≤ 1536 → 1 + 6 * set + r < 4294967296
  named_fits r e h = omega (arith, below, fault_here r e, fault_below (storey_at bytes (24 * set)))
