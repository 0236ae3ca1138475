mod Finding
mod Parts
pub mod Standing
