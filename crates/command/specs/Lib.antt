pub mod Sixteen
pub mod Compares
pub mod Tags
