-- The laws of specs/, for the proofs of this crate and of the crates that stand on it.
pub mod Weights
pub mod Reach
pub mod Windows
pub mod Spans
pub mod Runs
