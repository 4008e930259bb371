-- The laws of specs/, for the proofs of this crate and of the crates that stand on it.
pub mod Deletion
pub mod Order
pub mod Single
pub mod Held
pub mod Slice
pub mod Packed
pub mod Written
