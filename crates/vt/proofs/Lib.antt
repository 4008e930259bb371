pub mod Totals
pub mod Weighing
pub mod Gain
pub mod Mending
pub mod Copies
pub mod Moving
pub mod Refusing
pub mod Packed
