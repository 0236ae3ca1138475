-- Steps kind by kind: what refuses them, and what they do.
pub mod Applied
pub mod Guards
pub mod Outcomes
pub mod Refused
