pub mod Erasures
