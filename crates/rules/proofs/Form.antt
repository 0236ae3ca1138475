-- The form of an image: its clauses, and what they say of takes, parcels and states.
pub mod Clauses
pub mod Image
pub mod Message
pub mod Packed
pub mod State
pub mod Transactor
