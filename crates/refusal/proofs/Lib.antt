-- The laws of specs/Refusal.antt, for the crates that stand on it.
pub mod Laws
