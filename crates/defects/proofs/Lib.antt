mod Finding
pub mod Sound
