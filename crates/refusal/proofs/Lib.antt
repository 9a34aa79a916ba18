pub mod Rules
pub mod Coincide
