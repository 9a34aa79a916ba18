pub mod Demands
pub mod Ladder
pub mod Outcome
pub mod Coincide
