-- The operands of a command in a file: one after the other behind its byte, each a big-endian number of its form's width.
-- 01, "Job commands".
use Rattle.std.specs.Prelude.{List, [], ◌∷◌, ℕ, zero, suc, ◌+◌, get_or, take, drop}
use Rattle.layout.specs.declared.Form.{Form}
use Rattle.layout.specs.declared.Form.TheVariants.{Id}
use Rattle.layout.specs.Number.{number}
use Rattle.layout.specs.Forms.{width}
use Rattle.layout.specs.Layouts.{forms_of}

-- the bytes before operand i
unfoldable pub offset_of : List Form → ℕ → ℕ
unfolding width
offset_of fs zero = 0
offset_of fs (suc i) = offset_of fs i + width (get_or fs i Id)

-- operand i of a command whose operands start at an offset
unfoldable pub operand : ℕ → List ℕ → ℕ → ℕ → ℕ
unfolding number width forms_of offset_of
operand byte job from i = number (take (width (get_or (forms_of byte) i Id)) (drop (from + offset_of (forms_of byte) i) job))

-- the operands of these forms, one after the other
unfoldable pub read_operands : List Form → List ℕ → List ℕ
unfolding number width
read_operands [] bytes = []
read_operands (f ∷ fs) bytes = number (take (width f) bytes) ∷ read_operands fs (drop (width f) bytes)

-- the command byte at an offset
abbrev pub byte_at : List ℕ → ℕ → ℕ
byte_at job at = get_or job at 0

abbrev pub operands_at : List ℕ → ℕ → List ℕ
operands_at job at = read_operands (forms_of (byte_at job at)) (drop (at + 1) job)
