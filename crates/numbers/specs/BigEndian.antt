-- A number as bytes, the most significant first: what `number` of the layout reads back. 01, "Job commands". Assumes nothing.
use Rattle.std.specs.Prelude.{List, [], ◌∷◌, ℕ, zero, suc, ◌/◌, ◌%◌, ◌^◌}

-- a number in so many bytes, the most significant first
unfoldable pub big_endian : ℕ → ℕ → List ℕ
big_endian zero x = []
big_endian (suc n) x = x / 256 ^ n % 256 ∷ big_endian n x
