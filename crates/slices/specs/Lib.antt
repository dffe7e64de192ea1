-- What a call that writes bytes leaves in the lent slice. Assumes nothing.
pub mod Written
