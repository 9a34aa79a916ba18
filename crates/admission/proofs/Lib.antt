pub mod Ready
pub mod Coincide
