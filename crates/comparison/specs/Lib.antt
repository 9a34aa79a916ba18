pub mod Comparison
pub mod Inner
