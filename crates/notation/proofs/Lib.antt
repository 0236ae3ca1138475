pub mod Examples
mod Words
pub mod Numerals
pub mod Groups
mod Items
pub mod Rows
pub mod Lines
pub mod RoundTrip
pub mod Sizes
pub mod Within
pub mod Faults
pub mod Accepted
pub mod Sound
mod Parting
pub mod Columns
pub mod Lacking
pub mod LackNumbers
pub mod Expecting
pub mod Stopping
mod Starting
pub mod Alone
pub mod Texts
pub mod Numbered
pub mod Firstly
pub mod Tabled
