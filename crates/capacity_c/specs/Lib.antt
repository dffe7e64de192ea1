-- The calls' answers as structs for other languages, and the commands of the structs of values. Assumes nothing.
pub mod Exported
pub mod Commands
