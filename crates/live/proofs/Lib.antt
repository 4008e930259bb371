-- The laws of specs/, for the proofs of this crate.
mod Steps
mod Columns
mod Passes
mod Floors
