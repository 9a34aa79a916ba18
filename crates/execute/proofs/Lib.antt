pub mod Outcomes
pub mod Coincide
