pub mod Chain
pub mod Back
pub mod Internal
