-- For internal functions alone.
pub mod Footprint
