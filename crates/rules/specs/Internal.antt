-- What the code's contracts and the laws cite, and no call's promise does.
pub mod Closure
pub mod Good
pub mod Guards
pub mod Held
pub mod Well
