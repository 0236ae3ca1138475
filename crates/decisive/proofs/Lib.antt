mod Comparing
mod Judging
pub mod Decisions
