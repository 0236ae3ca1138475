pub mod Trail
pub mod Order
pub mod Tests
pub mod Related
mod Compare
pub mod Histories
pub mod Packed
pub mod Recast
pub mod Within
pub mod Masked
pub mod Placed
pub mod Unpacked
pub mod Starred
pub mod News
