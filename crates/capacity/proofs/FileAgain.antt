-- An accepted job is the file of its commands: they can be written, and their bytes are the job's; they pass one after the other, and its
-- entries are they, as they stand in the file. Assumes nothing.
use mathlib.Core.Path.{◌≡◌, sym, ap, ◌∙◌}
use mathlib.Core.List.{List}
use Prim.Native.Nat.{ℕ}
use Rattle.layout.proofs.Numbers.{Bytes}
use Rattle.writing.specs.Files.{AllWritable}
use Rattle.context.specs.Context.{nothing}
use Rattle.job.specs.Counts.{first_counts}
use Rattle.job.specs.Placed.{Entry, accepted, listed}
use Rattle.job.proofs.Passing.{Passes}
use Rattle.capacity.specs.Singly.{file_of}
use Rattle.capacity.proofs.FileListed.{entries_from, file_accepted, file_passes}
use Rattle.capacity.proofs.WrittenAgain.{commands_of, job_again, all_writable}

module _ (file : List ℕ) (b : Bytes file) (es : List Entry) (e : listed file ≡ accepted es) where
  pub is_file : file_of (commands_of es) ≡ file
  is_file = job_again file es e b

  pub writable : AllWritable (commands_of es)
  writable = all_writable file es e b

  pub passes : Passes first_counts nothing (commands_of es)
  passes = file_passes (commands_of es) writable es (ap listed is_file ∙ e)

  pub entries_are : entries_from 0 nothing (commands_of es) ≡ es
  entries_are =
      let q : accepted (entries_from 0 nothing (commands_of es)) ≡ accepted es = sym (file_accepted (commands_of es) writable passes) ∙ ap listed is_file ∙ e in
      cc
