pub mod Ladder
pub mod Fits
pub mod Errors
pub mod Demands
pub mod Coincide
