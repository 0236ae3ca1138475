pub mod Impeding
pub mod Reaching
