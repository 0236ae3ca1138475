mod Answers
mod HighBytes
pub mod Images
pub mod Widened
mod Resized
pub mod Runs
pub mod Steps
mod Within
