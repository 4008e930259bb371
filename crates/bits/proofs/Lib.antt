-- The laws of specs/, for the proofs of this crate and of the crates that stand on it.
pub mod Laws
pub mod Packing
pub mod Copy
pub mod Spans
pub mod Filling
