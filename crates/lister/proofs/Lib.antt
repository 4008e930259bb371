-- The laws of listing, for the proofs of this crate and of the crates that stand on it.
pub mod Row
pub mod Read
pub mod Lent
pub mod Answers
pub mod Demand3
