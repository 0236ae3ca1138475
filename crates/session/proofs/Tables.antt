-- Choices by a test and tables that change at one place, as the steps of both sides make them: the laws of octets that this crate cites.
pub use Rattle.octets.proofs.Tests.{pick-view, pick-both, same_test, and-of, or-to, or-of}
pub use Rattle.octets.proofs.Tables.{updated-both}
