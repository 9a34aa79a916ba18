pub mod BigEndian
pub mod Xor
pub mod Parts
pub mod Runs
