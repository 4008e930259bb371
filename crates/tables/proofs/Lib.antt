-- The laws of specs/, for the proofs of this crate and of the crates that stand on it.
pub mod Chunk
pub mod Making
pub mod Sharing
pub mod Stepping
pub mod Coming
pub mod Going
pub mod Own
pub mod Light
pub mod Ending
