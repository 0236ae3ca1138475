-- The packed image: sizes, loads, stores, the round trip; a packed step.
pub mod Exact
pub mod Fresh
pub mod Loads
pub mod Messages
pub mod Rooms
pub mod RoundTrip
pub mod Sizes
pub mod Steps
pub mod Stores
