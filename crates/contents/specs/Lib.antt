pub mod Contents
pub mod Asks
