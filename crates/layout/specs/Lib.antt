-- The layout of a job's commands. 01, "Job commands". Assumes nothing.
pub mod Number
pub mod Forms
pub mod Layouts
pub mod Operands
