pub mod Notation
pub mod Reading
pub mod Parsing
pub mod Grammar
pub mod Faults
