pub mod RecastParts
mod Stores
mod Turns
