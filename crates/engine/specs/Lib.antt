pub mod Play
pub mod Internal
