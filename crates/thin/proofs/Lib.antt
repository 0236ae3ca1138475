mod Alike
mod Beside
pub mod Calls
pub mod Cases
mod Chosen
mod Gathering
mod Lists
mod Looking
mod Outcomes
mod Packed
mod Rows
mod Same
mod Steps
mod Thinning
mod Touches
pub mod Words
