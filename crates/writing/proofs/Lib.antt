pub mod Writing
pub mod Coincide
