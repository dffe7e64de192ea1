-- Operands put one after the other into a slice of as many bytes fill it. Assumes nothing.
use mathlib.Core.Path.{◌≡◌, sym, ◌∙◌}
use mathlib.Core.List.{List, [], ◌++◌, append-nil}
use Prim.Native.Nat.{ℕ, ◌+◌, ◌-◌}
use native.Mathlib.Nat.{zero-add}
use native.Mathlib.Omega.{arith}
use lib.ListN.{length, drop}
use lib.Seq.{drop-length}
use borrow.Rule.Slice.PartMut.{put_mid}
use Rattle.slices.specs.Written.{written, Put}
use Rattle.slices.proofs.Writing.{written_none, put_between, behind}

pub begun : (before : List ℕ) → Put before 0 [] before
begun before = record { bytes = sym (written_none before 0) }

-- a part of n bytes that became the text
pub put_here : {between : List ℕ} {at n : ℕ} {t part : List ℕ} → part ≡ t → n ≡ length t → Put between at t (put_mid at n between part)
put_here {between} {at} {n} {t} {part} q h =
    let k : at + n - at ≡ n = omega arith in
    let p : Put between at t (put_mid at (at + n - at) between part) = record { bytes = (put_between between at (at + n) t q (omega arith)).bytes } in
    rw k at p

-- a text in the n bytes behind those that are there
pub fill : {before s between : List ℕ} {at n : ℕ} {t part : List ℕ} → Put before 0 s between → length s ≡ at → part ≡ t → n ≡ length t → Put before 0 (s ++ t) (put_mid at n between part)
fill x l q h = behind x (put_here q h) (omega (arith, l)) (omega arith)

-- a text as long as the slice
pub filled : {before text after : List ℕ} → Put before 0 text after → length text ≡ length before → after ≡ text
unfolding written
filled {before} {text} {after} x h =
    let all : drop (0 + length text) before ≡ [] = rw (zero-add, h) (drop-length before) in
    x.bytes ∙ rw all (append-nil text)
