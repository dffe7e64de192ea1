-- What a call that writes bytes leaves in the lent slice. Assumes nothing.
use Rattle.std.specs.Prelude.{◌≡◌, List, ◌++◌, ℕ, ◌+◌, ◌≤◌, length, take, drop}

-- out with the bytes from position `at` on replaced by the text; all others stay
unfoldable pub written : List ℕ → ℕ → List ℕ → List ℕ
written out at text = take at out ++ text ++ drop (at + length text) out

-- the call put the text into the slice from position `at` on
pub record Put (before : List ℕ) (at : ℕ) (text after : List ℕ) : Type 0 where
  pub bytes : after ≡ written before at text

-- the call wrote the text from position `at` on, and answers the position after it
pub record Writes (before : List ℕ) (at : ℕ) (text after : List ℕ) (next : ℕ) : Type 0 where
  pub position : next ≡ at + length text
  pub bytes : after ≡ written before at text

-- the same as `Writes`, where the text has at most so many bytes
pub record WritesAtMost (most : ℕ) (before : List ℕ) (at : ℕ) (text after : List ℕ) (next : ℕ) : Type 0 where
  pub writes : Writes before at text after next
  pub short : next ≤ at + most
