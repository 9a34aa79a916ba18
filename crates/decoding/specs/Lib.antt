pub mod Commands
pub mod Bits
