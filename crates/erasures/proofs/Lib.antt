pub mod Erasures
pub mod Anchor
