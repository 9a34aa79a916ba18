pub mod Digits
pub mod Demands
pub mod Coincide
