-- The commands of a job. 01, "Job commands". Assumes nothing.
pub mod Commands
pub mod Reading
pub mod Types
