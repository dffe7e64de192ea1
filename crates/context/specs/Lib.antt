-- The context of a command: what holds at it, and how each command changes it. Assumes nothing.
pub mod Context
pub mod Running
