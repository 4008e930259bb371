pub mod Cutting
pub mod Ends
