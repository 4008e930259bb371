-- The laws of specs/, for the proofs of this crate.
mod Blocks
