-- `writing::write_block` meets its contract: the count, the words, the sets, the room, or its byte, its count and its sets. Assumes nothing.
use mathlib.Core.List.{List}
use mathlib.Core.Path.{◌≡◌, sym, ap, ◌∙◌}
use Prim.Native.Nat.{ℕ, ◌≤◌}
use native.Mathlib.Omega.{arith}
use borrow.Rule.Slice.PartMut.{put_mid}
use lib.ListN.{length, set}
use Rattle.std.proofs.lemmas.List.{length-set}
use Rattle.slices.specs.Written.{Put}
use Rattle.slices.proofs.Writing.{put_length}
use Rattle.numbers.specs.BigEndian.{big_endian}
use Rattle.numbers.proofs.BigEndian.{big_endian_length}
use Rattle.blocks.specs.Sets.{all_in_range}
use Rattle.writing.proofs.GivenSets.{sets_given, sets_count}
use Rattle.writing.proofs.BlockPromised.{few, bad_count, bad_set, short, done}
use Rattle.writing.proofs.Filling.{put_here}
use Rattle.writing.proofs.write_block.Goals as goal

pub returns-then-not-count_in_range : goal.returns-then-not-count_in_range
returns-then-not-count_in_range c =
    let a = c.args in
    let p = bad_count a.count a.sets.now a.bytes.now c.count_in_range.ensures c.if-not-count_in_range.true in
    record { answer = p.0; bytes = p.1.0; back = p.1.1 }

pub returns-then-sets-n : goal.returns-then-sets-n
returns-then-sets-n c =
    let a = c.args in
    let p = few a.count a.sets.now a.bytes.now c.if-sets-n.true in
    record { answer = p.0; bytes = p.1.0; back = p.1.1 }

pub returns-then-not-sets_in_range : goal.returns-then-not-sets_in_range
returns-then-not-sets_in_range c =
    let a = c.args in
    let given = sets_given a.count a.sets.now c.as_chunks.result.0.now c.if-sets-n.false c.as_chunks.ensures.front in
    let p = bad_set a.count a.sets.now a.bytes.now c.count_in_range.ensures c.if-not-count_in_range.false c.if-sets-n.false (c.sets_in_range.ensures ∙ ap all_in_range given) c.if-not-sets_in_range.true in
    record { answer = p.0; bytes = p.1.0; back = p.1.1 }

pub returns-then-bytes-n : goal.returns-then-bytes-n
returns-then-bytes-n c =
    let a = c.args in
    let given = sets_given a.count a.sets.now c.as_chunks.result.0.now c.if-sets-n.false c.as_chunks.ensures.front in
    let p = short a.count a.sets.now a.bytes.now c.count_in_range.ensures c.if-not-count_in_range.false c.if-sets-n.false (c.sets_in_range.ensures ∙ ap all_in_range given) c.if-not-sets_in_range.false c.if-bytes-n.true in
    record { answer = p.0; bytes = p.1.0; back = p.1.1 }

-- the byte, then the count
module _ (before : List ℕ) (count : ℕ) {part : List ℕ} (q : part ≡ big_endian 1 count) where
  number : Put (set before 0 11) 1 (big_endian 1 count) (put_mid 1 1 (set before 0 11) part)
  number = put_here q (sym (big_endian_length 1 count))

  number_kept : 2 ≤ length before → length (put_mid 1 1 (set before 0 11) part) ≡ length before
  number_kept h =
      let l = length-set before 0 11 in
      put_length number (omega (arith, l, big_endian_length 1 count)) ∙ l

pub put_sets-requires : goal.put_sets-requires
put_sets-requires c =
    let a = c.args in
    omega (arith, c.if-bytes-n.false, number_kept a.bytes.now a.count c.put.ensures (omega arith), sets_count a.count a.sets.now c.as_chunks.result.0.now c.if-sets-n.false c.as_chunks.ensures.front)

pub returns : goal.returns
returns c =
    let a = c.args in
    let given = sets_given a.count a.sets.now c.as_chunks.result.0.now c.if-sets-n.false c.as_chunks.ensures.front in
    let p = done a.count a.sets.now a.bytes.now c.count_in_range.ensures c.if-not-count_in_range.false c.if-sets-n.false (c.sets_in_range.ensures ∙ ap all_in_range given) c.if-not-sets_in_range.false c.if-bytes-n.false (number a.bytes.now a.count c.put.ensures) (rw given at c.put_sets.ensures) in
    record { answer = p.0; bytes = p.1.0; back = p.1.1 }
