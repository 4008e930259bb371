-- The laws that the proofs of this crate and of the crates above rest on.
pub mod Words
