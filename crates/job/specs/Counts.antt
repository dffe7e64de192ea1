-- What is counted of a file beside what holds: its commands and its buildings. 02, No. 10: "The 4,096 commands are one limit for all
-- buildings, with 0D and each settings counted." Another building begins neither count anew.
use Rattle.std.specs.Prelude.{cond, ◌+◌, length}
use Rattle.blocks.specs.FileCommands.{FileCommand, file_byte_of, given}
use Rattle.job.specs.declared.Counts.{Counts}
use Rattle.job.specs.Faults.{is_building}

-- at the start: no command, and the first building
abbrev pub first_counts : Counts
first_counts = record { commands = 0; buildings = 1 }

-- what is counted after a command of the file: a block counts as its storeys, and a 0D begins a building
abbrev pub counted : Counts → FileCommand → Counts
counted n c = record { commands = n.commands + length (given c); buildings = cond (is_building (file_byte_of c)) (n.buildings + 1) n.buildings }
