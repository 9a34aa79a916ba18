pub mod Runs
pub mod Filled
pub mod Codes
pub mod Demands
