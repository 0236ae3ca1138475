mod Counting
mod Effects
mod Images
mod Locals
mod Receiving
mod Stepped
pub mod Refused
