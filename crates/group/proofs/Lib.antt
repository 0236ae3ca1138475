mod Blocking
mod Checkpointing
pub mod Presenting
