pub mod Series
pub mod Faults
