-- A job: what is counted of it; the fault of a command; the commands of the file and the placed commands, or the refusal; the refusals of
-- the code, and the answers of size and fault; the commands before a place; the walk of the code, the commands that it reaches, and what
-- it carries of the latest wall. Assumes nothing.
pub mod Counts
pub mod Faults
pub mod Placed
pub mod Refusals
pub mod Answers
pub mod Earlier
pub mod Walking
pub mod Reached
pub mod LatestWall
