-- For internal functions alone.
pub mod Written
