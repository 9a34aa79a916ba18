pub mod Laws
pub mod Demands
pub mod Coincide
