-- The laws of specs/, for the proofs of this crate.
mod Parts
mod OneLost
pub mod Costs
