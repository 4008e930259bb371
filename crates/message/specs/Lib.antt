pub mod Layout
pub mod Legal
pub mod Message
pub mod Chunks
pub mod Encoding
pub mod Write
pub mod Read
