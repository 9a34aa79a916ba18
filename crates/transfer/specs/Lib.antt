pub mod Transfer
pub mod Inner
