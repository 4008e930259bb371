pub mod Rows
pub mod Deletion
pub mod Order
pub mod Held
pub mod Slice
