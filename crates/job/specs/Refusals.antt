-- The refusals of the code in 01's terms: the number of each, and the operand that it names. Assumes nothing.
use Rattle.std.specs.Prelude.{ℕ, Result, Ok, Err}
use Rattle.job.specs.declared.Refused.{Refused}
use Rattle.job.specs.declared.Refusal.{Refusal}
use Rattle.job.specs.declared.Refusal.TheVariants.{CutShort, Unknown, BytesAfterEnd, MisplacedSettings, OutOfRange, Absent, TooMany, TooManyBuildings}

-- its number; 7 no longer occurs
abbrev pub number_of : Refusal → ℕ
number_of CutShort = 1
number_of Unknown = 2
number_of BytesAfterEnd = 3
number_of MisplacedSettings = 4
number_of (OutOfRange operand) = 5
number_of Absent = 6
number_of TooMany = 8
number_of TooManyBuildings = 13

-- the operand that it names, 0 in every refusal but 5
abbrev pub operand_of : Refusal → ℕ
operand_of CutShort = 0
operand_of Unknown = 0
operand_of BytesAfterEnd = 0
operand_of MisplacedSettings = 0
operand_of (OutOfRange operand) = operand
operand_of Absent = 0
operand_of TooMany = 0
operand_of TooManyBuildings = 0

-- what a test of the code answers: the number of the refusal that is due and the operand that it names, each 0 where none is due
abbrev pub number_due : {A : Type 0} → Result A Refused → ℕ
number_due (Ok a) = 0
number_due (Err r) = number_of r.refusal

abbrev pub operand_due : {A : Type 0} → Result A Refused → ℕ
operand_due (Ok a) = 0
operand_due (Err r) = operand_of r.refusal
