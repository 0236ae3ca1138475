-- The calls: their answers, and what follows for lists of them.
pub mod Begin
pub mod Heard
pub mod Offer
pub mod Planning
pub mod Query
pub mod Run
pub mod Show
pub mod Stored
