pub mod Codes
pub mod Rows
