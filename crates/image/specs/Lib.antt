pub mod Formed
pub mod Internal
