-- The words of a row, from numbers that are not negative. 01, "Rows and verdict bits".
use Rattle.std.specs.Prelude.{ℕ, pos}
use Rattle.claims.specs.declared.Row.{Row}

-- words 2 to 6, and the verdict
abbrev pub packed_row : (word2 word3 word4 word5 word6 verdict : ℕ) → Row
packed_row word2 word3 word4 word5 word6 verdict =
    record {
      word2 = pos word2;
      word3 = pos word3;
      word4 = pos word4;
      word5 = pos word5;
      word6 = pos word6;
      verdict = pos verdict;
    }
