-- Demand 3 for a whole job; the numbers of a run; what `run` gives twice and on a longer slice; how large its words are, and their page;
-- joints given again; the words of a storey and of a basement member; where the cap governs; jobs and the calls that write, and an accepted
-- job as the file of its commands; a block and its storeys singly; the buildings of a file; verdicts at their bounds; commands that are none
-- of a few.
pub mod Ranges
mod RowsTrue
pub mod RowsSized
mod Whole
mod Written
mod Runs
mod WrittenRun
pub mod Numbers
pub mod RowRead
mod Nearest
pub mod Basement
pub mod SameWords
pub mod PageOfRun
pub mod Revised
pub mod StoreyWords
pub mod Governs
pub mod WrittenAgain
pub mod FileListed
pub mod FileAgain
mod CutFile
pub mod Singly
pub mod Buildings
pub mod BlockHolds
pub mod Edges
pub mod OtherCommands
