pub mod BlockLaws
pub mod Coincide
