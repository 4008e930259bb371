pub mod Marks
pub mod Digits
