pub mod Demands
pub mod States
pub mod Indexed
