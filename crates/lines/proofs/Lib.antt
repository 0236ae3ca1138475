pub mod Putting
pub mod Lining
