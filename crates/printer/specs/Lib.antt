pub mod Printing
pub mod Internal
