-- Every step keeps a well-formed state well-formed.
pub mod Accepted
pub mod Kinds
mod Maps
pub mod Run
pub mod State
pub mod Step
pub mod Transactor
