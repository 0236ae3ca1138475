pub mod Walking
mod Wording
