-- What contracts of internal functions and laws cite, and no call's promise does.
pub mod Tables
pub mod Register
pub mod Guards
pub mod Places
pub mod Turns
