-- The rows of a block's sets: how many they are, and the loop that writes them over plain values. Assumes nothing.
use mathlib.Core.Bool.{true}
use mathlib.Core.List.{List, [], ◌∷◌}
use mathlib.Core.Path.{◌≡◌, refl, sym, ap, ◌∙◌}
use Prim.Native.Nat.{ℕ, zero, suc, ◌+◌, ◌-◌, ◌*◌, ◌/◌, ◌≤◌, ◌<◌}
use native.Mathlib.Nat.{not-suc-le-zero}
use native.Mathlib.Omega.{arith}
use lib.IntN.{ℤ}
use lib.ListN.{length, get_or}
use Rattle.std.specs.Simd.{first_chunks}
use Rattle.std.specs.Prelude.{Option, None, Some}
use Rattle.layout.specs.Operands.{operand}
use Rattle.walls.specs.declared.Wall.{Wall}
use Rattle.walls.specs.declared.Storey.{Storey}
use Rattle.walls.specs.Storey.{StoreyRange}
use Rattle.format.specs.declared.Command.TheVariants.{Storey as storey}
use Rattle.format.specs.Commands.{in_range, command_of}
use Rattle.blocks.specs.Sets.{storey_at, storeys_at, storeys_in, all_in_range}
use Rattle.blocks.proofs.Sets.{each_in_range, storeys_length}
use Rattle.blocks.proofs.Searching.{storey_here}
use Rattle.context.specs.Context.{given}
use Rattle.context.proofs.Shown.{differ}
use Rattle.rows.specs.Rows.{words}
use Rattle.rows.specs.Writing.{running_storey_row, set_rows, set_rows_running, stored, stored_all, SetsAsk}
use Rattle.context.proofs.Ranges.{storey_range}

pub set_rows_count : (w : Wall) (at : ℕ) (ss : List Storey) → length (set_rows w at ss) ≡ length ss
unfolding set_rows
set_rows_count w at [] = refl
set_rows_count w at (s ∷ ss) = ap suc (set_rows_count w (at + 24) ss)

-- with running values as many as the sets
pub running_as_many : (wall : Option Wall) → given wall ≡ true → (at : ℕ) (sets : List ℕ) → length (set_rows_running wall at (storeys_in sets)) ≡ length sets / 24
running_as_many None g at sets = absurd (differ (sym g))
running_as_many (Some w) g at sets = set_rows_count w at (storeys_in sets) ∙ storeys_length (length sets / 24) sets 0

-- ---- a set read from its chunk

set_in_range : (n : ℕ) (sets : List ℕ) (at k : ℕ) → k < n → all_in_range (storeys_at n sets at) ≡ true → in_range (storey (storey_at sets (at + 24 * k))) ≡ true
unfolding storeys_at
set_in_range zero sets at k l e = absurd (not-suc-le-zero l)
set_in_range (suc n) sets at zero l e = let p : at + 24 * 0 ≡ at = omega arith in rw p ((each_in_range (storey_at sets at) (storeys_at n sets (at + 24)) e).0)
set_in_range (suc n) sets at (suc k) l e =
    let p : at + 24 * suc k ≡ at + 24 + 24 * k = omega arith in
    rw p (set_in_range n sets (at + 24) k (omega arith) ((each_in_range (storey_at sets at) (storeys_at n sets (at + 24)) e).1))

pub set_ranged : (sets : List ℕ) (chunks : List (List ℕ)) (k : ℕ) {s : Storey} → SetsAsk sets → chunks ≡ first_chunks 24 (length sets / 24) sets → length chunks ≡ length sets / 24 → k < length chunks → storey s ≡ command_of 7 (operand 7 (get_or chunks k []) 0) → StoreyRange s
set_ranged sets chunks k {s} a front many l r =
    let z : 0 + 24 * k ≡ 24 * k = omega arith in
    storey_range s (ap (λ (x : Storey). in_range (storey x)) (storey_here sets chunks k front many l r) ∙ rw z at (set_in_range (length sets / 24) sets 0 k (omega (arith, many)) a))

-- ---- the loop: what is left to write after i sets gives what the whole gives

-- the sets that are left
abbrev left : List ℕ → ℕ → List Storey
left sets i = storeys_at (length sets / 24 - i) sets (24 * i)

pub record Filling (w : Wall) (sets : List ℕ) (at n : ℕ) (rows₀ rows : List ℤ) (i : ℕ) : Type 0 where
  pub same : stored_all rows₀ n (set_rows w at (storeys_in sets)) ≡ stored_all rows (n + i) (set_rows w (at + 24 * i) (left sets i))

module _ {w : Wall} {sets : List ℕ} {at n : ℕ} {rows₀ rows : List ℤ} {i : ℕ} (f : Filling w sets at n rows₀ rows i) where
  pub fills_on : {chunks : List (List ℕ)} {s : Storey} → chunks ≡ first_chunks 24 (length sets / 24) sets → length chunks ≡ length sets / 24 → i < length chunks → storey s ≡ command_of 7 (operand 7 (get_or chunks i []) 0) →
      (rows' : List ℤ) → rows' ≡ stored rows (n + i) (words (at + 24 * i) 7 (running_storey_row w s)) → Filling w sets at n rows₀ rows' (i + 1)
  unfolding set_rows stored_all storeys_at
  fills_on {chunks} front many l r rows' e =
      let c : length sets / 24 - i ≡ suc (length sets / 24 - (i + 1)) = omega (arith, many) in
      let o : 24 * i + 24 ≡ 24 * (i + 1) = omega arith in
      let p : at + 24 * i + 24 ≡ at + 24 * (i + 1) = omega arith in
      let q : n + i + 1 ≡ n + (i + 1) = omega arith in
      record {
        same = f.same
            ∙ ap (λ (k : ℕ). stored_all rows (n + i) (set_rows w (at + 24 * i) (storeys_at k sets (24 * i)))) c
            ∙ rw (e, storey_here sets chunks i front many l r, o, p, ← q);
      }

  pub filled : length sets / 24 ≤ i → rows ≡ stored_all rows₀ n (set_rows w at (storeys_in sets))
  unfolding set_rows stored_all storeys_at
  filled l =
      let z : length sets / 24 - i ≡ 0 = omega arith in
      sym (f.same ∙ ap (λ (k : ℕ). stored_all rows (n + i) (set_rows w (at + 24 * i) (storeys_at k sets (24 * i)))) z)
