pub mod Sum
pub mod Ones
pub mod Weights
pub mod Places
pub mod Mend
pub mod Answer
