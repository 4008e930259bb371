-- The laws of specs/, for the proofs of this crate and of the crates that stand on it.
pub mod Shares
pub mod State
pub mod Same
pub mod Chunk
