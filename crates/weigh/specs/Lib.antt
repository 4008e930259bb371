pub mod Weigh
