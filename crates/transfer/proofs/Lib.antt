pub mod Shapes
pub mod Comparing
pub mod Coincide
