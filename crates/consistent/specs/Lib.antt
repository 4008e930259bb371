pub mod Consistent
pub mod List
pub mod Greedy
pub mod Query
