mod Checkpointing
pub mod Guarding
pub mod Placing
mod Rows
pub mod Views
mod Applied
pub mod Outcomes
mod Refused
mod Told
