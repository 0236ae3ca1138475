pub mod Internal
pub mod Thin
