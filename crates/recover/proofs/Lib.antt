mod Filled
mod Recovered
pub mod Weights
pub mod Spots
