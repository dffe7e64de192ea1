-- A page read back: the words of its lines. Beyond 02, No. 3; proofs/ReadBack.antt. Assumes nothing.
use Rattle.std.specs.Prelude.{cond, List, [], ◌∷◌, ℕ, ◌+◌, ◌*◌, ◌/◌, eqb, ℤ, pos, neg_ℤ, take, drop}
use Rattle.text.specs.Decimal.{minus, number_of}
use Rattle.text.specs.Lines.{space}
use Rattle.printing.specs.Page.{widths}

-- a value: blanks are passed over, then a minus or the first digit is met
unfoldable pub value_of : List ℕ → ℤ
value_of [] = pos 0
value_of (b ∷ bytes) = cond (eqb b space) (value_of bytes) (cond (eqb b minus) (neg_ℤ (pos (number_of bytes))) (pos (number_of (b ∷ bytes))))

-- the values of so many widths
unfoldable pub values_of : List ℕ → List ℕ → List ℤ
values_of [] bytes = []
values_of (w ∷ ws) bytes = value_of (take w bytes) ∷ values_of ws (drop w bytes)

-- where line i of a page begins: 81 bytes a line, and a form feed after every 50
abbrev pub line_at : ℕ → ℕ
line_at i = 81 * i + i / 50

-- the words of line i
unfoldable pub words_at : List ℕ → ℕ → List ℤ
words_at page i = values_of widths (drop (line_at i) page)
