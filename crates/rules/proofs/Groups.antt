-- Volumes: when one can be signed, and the smallest with a take.
pub mod Closure
pub mod Counting
pub mod Dependents
pub mod Examples
pub mod Impediments
pub mod Needs
pub mod Obstacles
pub mod Planned
pub mod Plans
pub mod Ready
pub mod Signable
pub mod Smallest
pub mod Through
