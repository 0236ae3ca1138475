-- What the proofs of the code cite, and no definition of document 01.
pub mod Comparing
pub mod Fitting
pub mod Informing
pub mod Recast
pub mod View
