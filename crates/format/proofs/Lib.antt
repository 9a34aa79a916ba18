pub mod Agreement
pub mod Demands
pub mod Coincide
