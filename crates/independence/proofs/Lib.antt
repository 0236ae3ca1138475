mod Clauses
mod Meeting
mod Signing
