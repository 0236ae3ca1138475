mod Cutting
pub mod Loops
