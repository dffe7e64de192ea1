-- The bytes of the next read stand after those that were read before. Assumes nothing.
use Rattle.std.proofs.Common.{◌≡◌, ℕ, List, ◌+◌, ◌-◌, ◌≤◌, length, take, ◌++◌, sym, ap, ◌∙◌, subst, arith}
use Rattle.std.proofs.lemmas.List.{take-append-le, length-take-le}
use Rattle.std.proofs.Math.Seq.{take-append-add}
use Rattle.std.specs.Io.KnownBytes.{Consumes}
use Rattle.std.proofs.KnownBytes.{Consumes-trans}
use borrow.Rule.Slice.PartMut.{mid_of, put_mid, same_len_mid, mid_len}
use Rattle.input.proofs.read_all.Goals as goal

-- a part of xs from a on is ys now: its first m elements stand after the first a
placed : (a m : ℕ) (xs ys rest : List ℕ) → a ≤ length xs → m ≤ length ys → take (a + m) (take a xs ++ (ys ++ rest)) ≡ take a xs ++ take m ys
placed a m xs ys rest p q =
    ap (λ n. take (n + m) (take a xs ++ (ys ++ rest))) (sym (length-take-le a xs p))
    ∙ take-append-add (take a xs) (ys ++ rest) m
    ∙ ap (λ l. take a xs ++ l) (take-append-le m ys rest q)

pub loop-have-preserved : goal.loop-have-preserved
loop-have-preserved g c =
    let have = c.loop-have.have in
    let more = c.in_ok-more.more in
    let buffer = c.loop-have.buffer in
    let after = c.read_some.new.buffer in
    let k = length buffer - have in
    let part : length after ≡ length (mid_of have k buffer) = c.read_some.auto.buffer in
    let lasts : length (put_mid have k buffer after) ≡ length buffer = same_len_mid have k buffer after part in
    let whole : length (mid_of have k buffer) ≡ k = mid_len have (length buffer) buffer (omega arith) in
    let within : have + more ≤ length (put_mid have k buffer after) = omega (arith, c.in_ok-more.ensures.bound) in
    let joined : take (have + more) (put_mid have k buffer after) ≡ take have buffer ++ take more after =
    placed have more buffer after _ c.loop-have.invariant.within c.in_ok-more.ensures.bound in
    record {
      within = within;
      bytes = subst (Consumes _ _) (sym joined) (Consumes-trans _ _ _ _ _ c.loop-have.invariant.bytes c.in_ok-more.ensures.bytes);
    }
