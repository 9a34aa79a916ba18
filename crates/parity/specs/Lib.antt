pub mod Parity
pub mod Stretch
