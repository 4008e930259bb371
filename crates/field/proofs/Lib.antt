pub mod Xor
pub mod Double
pub mod Times
pub mod Generator
pub mod Linear
mod Among
mod Powers
mod Logs
mod Terms
