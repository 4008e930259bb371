-- The laws of specs/, for the proofs of this crate.
mod Totals
mod HeavyBlocks
mod Losses
mod Counts
mod Leaves
