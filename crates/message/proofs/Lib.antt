-- The laws of specs/, for the proofs of this crate and of the crates that stand on it.
pub mod Legal
pub mod Head
pub mod Fields
pub mod Messages
pub mod Longest
pub mod Numbers
pub mod Answers
pub mod Positions
pub mod Cutting
pub mod RowSums
mod Placing
pub mod Assembly
pub mod Roundtrip
pub mod Picking
