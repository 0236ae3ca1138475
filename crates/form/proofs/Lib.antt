pub mod FormTest
pub mod Unsound
