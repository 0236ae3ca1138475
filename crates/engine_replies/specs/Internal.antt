-- What contracts of internal functions and laws cite, and no call's promise does.
pub mod Engine
