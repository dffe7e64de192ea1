-- The laws of writing into a slice: nothing, a byte, a byte before a text, one text after another or in its place, a part of the slice that
-- became the text, and a text that is read back. Assumes nothing.
use mathlib.Core.Path.{◌≡◌, refl, sym, ap, ◌∙◌}
use mathlib.Core.List.{List, [], ◌∷◌, ◌++◌, append_assoc, append-nil}
use Prim.Native.Nat.{ℕ, suc, ◌+◌, ◌-◌, ◌≤◌, ◌<◌}
use native.Mathlib.Nat.{add_assoc, add-zero}
use native.Mathlib.Numerals.{add-one}
use native.Mathlib.Omega.{arith}
use lib.ListN.{length, get_or, take, drop, set, length-append, length-drop, take-append-drop}
use lib.Seq.{length-take-le, take-suc, take_at, drop-append-add, drop_at, drop-drop, set_at, set_split}
use borrow.Rule.Slice.PartMut.{put_mid}
use Rattle.slices.specs.Written.{written, Put, Writes}

pub written_none : (out : List ℕ) (at : ℕ) → written out at [] ≡ out
unfolding written
written_none out at = rw (add-zero, append-nil) (take-append-drop at out)

pub nothing : (out : List ℕ) (at : ℕ) → Writes out at [] out at
nothing out at = record { position = omega arith; bytes = sym (written_none out at) }

-- what stands before the end of the text
length_front : (out : List ℕ) (at : ℕ) (text : List ℕ) → at ≤ length out → length (take at out ++ text) ≡ at + length text
length_front out at text h = rw (length-append, length-take-le at out h)

pub length_written : (out : List ℕ) (at : ℕ) (text : List ℕ) → at + length text ≤ length out → length (written out at text) ≡ length out
unfolding written
length_written out at text h =
    let k : at ≤ length out = omega arith in
    rw (length-append, length_front out at text k, length-drop) (omega arith)

-- one byte
pub written_byte : (out : List ℕ) (at b : ℕ) → at < length out → set out at b ≡ written out at (b ∷ [])
unfolding written
written_byte out at b h = set_split out at b h ∙ rw (append_assoc, add-one)

pub byte : (out : List ℕ) (at b : ℕ) → at < length out → Writes out at (b ∷ []) (set out at b) (at + 1)
byte out at b h = record { position = refl; bytes = written_byte out at b h }

-- a byte before a text that is there
pub written_before : (out : List ℕ) (at b : ℕ) (text : List ℕ) → at < length out → set (written out (at + 1) text) at b ≡ written out at (b ∷ text)
unfolding written
written_before out at b text h =
    let k : at ≤ length out = omega arith in
    let e : at + 1 + length text ≡ at + suc (length text) = omega arith in
    rw (e, add-one, take-suc out at 0)
    (simp append_assoc (set_at (take at out) (get_or out at 0) (text ++ drop (at + suc (length text)) out) b at (length-take-le at out k)))

-- a text after another
pub written_after : (out : List ℕ) (at : ℕ) (a b : List ℕ) → at ≤ length out → written (written out at a) (at + length a) b ≡ written out at (a ++ b)
unfolding written
written_after out at a b h =
    let p = take at out ++ a in
    let r = drop (at + length a) out in
    let e = length_front out at a h in
    let d : drop (at + length a + length b) (p ++ r) ≡ drop (at + length a + length b) out =
    rw (← e, drop-append-add) (rw (e, drop-drop)) in
    rw (take_at p r (at + length a) e, length-append, ← add_assoc, d, append_assoc (take at out) a b)

-- a text in the place of another that is as long
pub written_inside : (out : List ℕ) (at : ℕ) (a b c t : List ℕ) → at ≤ length out → length b ≡ length t → written (written out at (a ++ b ++ c)) (at + length a) t ≡ written out at (a ++ t ++ c)
unfolding written
written_inside out at a b c t h e =
    let p = take at out ++ a in
    let r = drop (at + length (a ++ b ++ c)) out in
    let lp = length_front out at a h in
    let whole : take at out ++ (a ++ b ++ c) ++ r ≡ p ++ (b ++ (c ++ r)) = simp append_assoc in
    let front : take (at + length a) (p ++ (b ++ (c ++ r))) ≡ p = take_at p (b ++ (c ++ r)) (at + length a) lp in
    let back : drop (at + length a + length t) (p ++ (b ++ (c ++ r))) ≡ c ++ r =
    rw (← append_assoc p b (c ++ r)) (drop_at (p ++ b) (c ++ r) (at + length a + length t) (omega (arith, length-append p b, lp, e))) in
    let same : at + length (a ++ b ++ c) ≡ at + length (a ++ t ++ c) =
    omega (arith, length-append (a ++ b) c, length-append a b, length-append (a ++ t) c, length-append a t, e) in
    rw (whole, front, back, same) (simp append_assoc)

pub written_over : (out : List ℕ) (at : ℕ) (b t : List ℕ) → at ≤ length out → length b ≡ length t → written (written out at b) at t ≡ written out at t
written_over out at b t h e = simp (add-zero, append-nil) at (written_inside out at [] b [] t h e)

-- the same of two calls
pub then : {b : List ℕ} {at : ℕ} {s m : List ℕ} {p : ℕ} {t c : List ℕ} {q : ℕ} → at ≤ length b → Writes b at s m p → Writes m p t c q → Writes b at (s ++ t) c q
then {b} {at} {s} {m} {p} {t} {c} {q} h x y =
    record {
      position = omega (arith, x.position, y.position, length-append s t);
      bytes = y.bytes ∙ rw (x.bytes, x.position) (written_after b at s t h);
    }

-- a text put behind another
pub behind : {before : List ℕ} {at : ℕ} {s between : List ℕ} {p : ℕ} {t after : List ℕ} → Put before at s between → Put between p t after → at + length s ≡ p → at ≤ length before → Put before at (s ++ t) after
behind {before} {at} {s} {between} {p} {t} {after} x y e h = record { bytes = y.bytes ∙ rw (x.bytes, ← e) (written_after before at s t h) }

pub put_length : {before : List ℕ} {at : ℕ} {text after : List ℕ} → Put before at text after → at + length text ≤ length before → length after ≡ length before
put_length {before} {at} {text} {after} x h = rw x.bytes (length_written before at text h)

-- a part of the slice, from one position to another, that became the text
pub put_between : (out : List ℕ) (at end : ℕ) (text : List ℕ) {part : List ℕ} → part ≡ text → end ≡ at + length text → Writes out at text (put_mid at (end - at) out part) end
unfolding written
put_between out at end text e h =
    let k : at + length text - at ≡ length text = omega arith in
    rw (h, k, e)
    (record {
      position = refl;
      bytes =
          ap (λ rest. take at out ++ (text ++ rest)) (drop-drop (length text) at out)
          ∙ sym (append_assoc (take at out) text (drop (at + length text) out));
    })

-- a text written from the start is read back as the slice's first bytes
pub read_back : {before text after : List ℕ} {n : ℕ} → Writes before 0 text after n → take n after ≡ text
unfolding written
read_back {before} {text} {after} {n} w =
    let long : length text ≡ n = omega (arith, w.position) in
    ap (take n) w.bytes ∙ take_at text (drop (0 + length text) before) n long
