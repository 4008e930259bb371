-- The laws of specs/, for the proofs of this crate and of the crates that stand on it.
pub mod Steps
pub mod Sent
pub mod Found
pub mod Row
