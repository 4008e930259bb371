-- The laws of specs/, for the proofs of the crates that stand on this one.
pub mod Greedy
pub mod Rule
pub mod Blocks
pub mod Consistent
pub mod List
pub mod Demand3
pub mod Shift
pub mod Steps
pub mod Candidate
