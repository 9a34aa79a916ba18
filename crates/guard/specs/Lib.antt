pub mod Guard
pub mod Remainder
pub mod Table
pub mod Rows
