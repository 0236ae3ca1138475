pub mod Blocking
pub mod Seeking
