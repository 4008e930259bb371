-- The laws of specs/, for the proofs of this crate and of the program.
mod Parts
pub mod Put
pub mod Lines
