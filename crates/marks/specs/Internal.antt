-- What the proofs of the code above cite, and no definition of document 01.
pub mod News
pub mod Recast
