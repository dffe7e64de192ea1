-- What the output has of a job that is read, and what a failure leaves on it, where the bytes of the input and of the output are known.
-- Assumes nothing.
use Rattle.std.specs.Prelude.{Bool, List, ℕ, Option, IfSome, Result, Ok, Err}
use Rattle.std.specs.Io.KnownBytes.{Appends, Keeps}
use Rattle.report.specs.Printed.{printed_of}
use Rattle.report.specs.Page.{rows_text}
use Rattle.console.specs.declared.Failure.{Failure}
use Rattle.console.specs.declared.Failure.TheVariants.{Input, Output}

-- the output grows by what is printed of the whole input
abbrev pub Prints : Bool → Option (List ℕ) → Option (List ℕ) → Option (List ℕ) → Type 0
Prints paged input old new = IfSome input (λ job. Appends old new (printed_of (rows_text paged) job))

-- a read that failed leaves the output as it was
abbrev pub LeavesUnlessRead : {A : Type 0} → Option (List ℕ) → Option (List ℕ) → Result A Failure → Type 0
LeavesUnlessRead old new (Ok x) = Unit {0}
LeavesUnlessRead old new (Err (Input error)) = Keeps old new
LeavesUnlessRead old new (Err (Output error)) = Unit {0}
