-- What the contracts of internal functions cite.
pub mod Addresses
pub mod Search
