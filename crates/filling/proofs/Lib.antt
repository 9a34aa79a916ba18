pub mod Demands
pub mod Coincide
