-- The laws that the proofs of this crate rest on.
mod Gathered
mod Bits
mod Sifted
