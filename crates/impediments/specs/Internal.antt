-- What the contracts of internal functions cite.
pub mod Manners
pub mod Ways
