pub mod Demands
pub mod Laws
pub mod Coincide
pub mod Table
