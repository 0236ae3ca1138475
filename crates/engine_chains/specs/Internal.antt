-- What contracts of internal functions and laws cite, and no call's promise does.
pub mod Sets
pub mod Book
pub mod Walk
pub mod Words
