pub mod Alike
pub mod Chunks
mod Move
pub mod Numbers
pub mod Put
pub mod Ranges
pub mod Runs
pub mod Tables
pub mod Tests
pub mod Zero
