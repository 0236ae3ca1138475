-- What the contracts of internal functions cite.
pub mod Asking
