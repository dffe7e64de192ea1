-- The answers of size and fault in 01's terms: whether the job is accepted, the refusal's number and offset (0 where there is none),
-- and a number of rows, 0 in a refusal, as size never refuses with 9; and the operand at fault.
use Rattle.std.specs.Prelude.{Bool, true, false, ℕ, length, List, Option, Some, None, Result, Ok, Err}
use Rattle.layout.specs.Operands.{byte_at}
use Rattle.blocks.specs.FileCommands.{file_command_at}
use Rattle.job.specs.declared.Refused.{Refused}
use Rattle.job.specs.declared.JobFault.{JobFault}
use Rattle.job.specs.Refusals.{number_of, operand_of}
use Rattle.job.specs.Faults.{operand_named}
use Rattle.job.specs.Placed.{Job, refused, accepted, placed, all_rows}

pub record Answer : Type 0 where
  pub accepted : Bool
  pub number : ℕ
  pub offset : ℕ
  pub rows : ℕ

abbrev pub rows_answer : ℕ → Answer
rows_answer n = record { accepted = true; number = 0; offset = 0; rows = n }

abbrev pub refused_answer : ℕ → ℕ → Answer
refused_answer number offset = record { accepted = false; number = number; offset = offset; rows = 0 }

-- the answer of size in the code, in these terms
abbrev pub refused_with : Refused → Answer
refused_with r = refused_answer (number_of r.refusal) r.offset

abbrev pub row_count_answer : Result ℕ Refused → Answer
row_count_answer (Ok n) = rows_answer n
row_count_answer (Err r) = refused_with r

-- what size answers: the job's row count, or the refusal
abbrev pub size_from : Job → Answer
size_from (refused number offset) = refused_answer number offset
size_from (accepted ps) = rows_answer (length (all_rows ps))

unfoldable pub size_of : List ℕ → Answer
unfolding placed
size_of job = size_from (placed job)

-- the refusal's number and offset, the byte at the offset, and the operand that the refusal names
pub record FaultAnswer : Type 0 where
  pub number : ℕ
  pub offset : ℕ
  pub command : ℕ
  pub operand : ℕ

abbrev pub no_fault : FaultAnswer
no_fault = record { number = 0; offset = 0; command = 0; operand = 0 }

abbrev pub fault_with : Refused → ℕ → FaultAnswer
fault_with r command = record { number = number_of r.refusal; offset = r.offset; command = command; operand = operand_of r.refusal }

-- the answer of fault in the code, in these terms
abbrev pub fault_answer : Option JobFault → FaultAnswer
fault_answer None = no_fault
fault_answer (Some f) = fault_with f.refused f.command

-- what fault answers: number and offset of the refusal as size has them; the byte that stands at the offset, 0 where none does (a
-- missing end is refused at the file's length); and the operand that the refusal names. Where the job is accepted all are 0.
abbrev pub fault_in : List ℕ → Job → FaultAnswer
fault_in job (refused number offset) =
    record { number = number; offset = offset; command = byte_at job offset; operand = operand_named number (file_command_at job offset) }
fault_in job (accepted ps) = no_fault

unfoldable pub fault_of : List ℕ → FaultAnswer
unfolding placed
fault_of job = fault_in job (placed job)
