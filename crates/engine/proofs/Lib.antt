mod Advancing
pub mod Ledger
mod Playing
mod Ranges
mod Steps
pub mod Usual
