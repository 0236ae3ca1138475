pub mod Compared
pub mod Decision
pub mod Internal
