-- What contracts of internal functions cite, and no call's promise does.
pub mod Judging
