pub mod Sought
pub mod Given
pub mod Found
