-- What the code and its proofs cite, and no call.
pub mod HighBytes
