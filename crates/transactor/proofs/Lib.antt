pub mod Accepting
mod Bytes
mod Comparing
mod Hearing
pub mod Lent
