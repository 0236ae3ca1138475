pub mod Convert
pub mod Internal
