pub mod Heard
pub mod Internal
pub mod Map
pub mod News
pub mod Packed
pub mod View
pub mod Within
