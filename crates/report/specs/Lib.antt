-- What the programs print of a job, as bytes: its listing or its page. Assumes nothing.
pub mod Printed
pub mod Listing
pub mod Page
