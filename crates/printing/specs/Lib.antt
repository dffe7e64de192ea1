-- Rows on a printed page: its text, what the call `page` answers, and a page read back. Assumes nothing.
pub mod Page
pub mod Answers
pub mod Reading
