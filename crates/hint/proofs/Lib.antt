-- The laws of this crate, for its proofs.
pub mod Strings
pub mod Places
