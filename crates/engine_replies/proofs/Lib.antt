mod Tells
mod Plays
pub mod Engine
pub mod Unheard
