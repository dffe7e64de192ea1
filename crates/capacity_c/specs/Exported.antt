-- 01's answers as the structs that a call hands to a program in another language: the same values, field by field. Assumes nothing.
use Rattle.job.specs.Answers.{Answer, FaultAnswer}
use Rattle.soil.specs.Answers as soil
use Rattle.printing.specs.Answers.{PageAnswer}
use Rattle.capacity.specs.Calls.{RunAnswer}
use Rattle.capacity_c.specs.declared.JobAnswer.{JobAnswer}
use Rattle.capacity_c.specs.declared.RanAnswer.{RanAnswer}
use Rattle.capacity_c.specs.declared.FaultFound.{FaultFound}
use Rattle.capacity_c.specs.declared.SoilAnswer.{SoilAnswer}
use Rattle.capacity_c.specs.declared.PrintedAnswer.{PrintedAnswer}

abbrev pub job_answer : Answer → JobAnswer
job_answer a = record { accepted = a.accepted; number = a.number; offset = a.offset; rows = a.rows }

abbrev pub ran_answer : RunAnswer → RanAnswer
ran_answer a =
    record { accepted = a.accepted; number = a.number; offset = a.offset; rows = a.rows; failed = a.failed; checks = a.checks; needed = a.needed }

abbrev pub fault_found : FaultAnswer → FaultFound
fault_found a = record { number = a.number; offset = a.offset; command = a.command; operand = a.operand }

abbrev pub soil_answer : soil.Answer → SoilAnswer
soil_answer a = record { number = a.number; offset = a.offset; value = a.value }

abbrev pub printed_answer : PageAnswer → PrintedAnswer
printed_answer a = record { number = a.number; offset = a.offset; rows = a.rows; bytes = a.bytes }
