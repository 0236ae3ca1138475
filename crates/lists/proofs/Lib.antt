mod Decoding
mod Encoding
pub mod Parts
